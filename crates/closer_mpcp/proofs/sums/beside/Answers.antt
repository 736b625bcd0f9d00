use Rattle.std.proofs.Common.{◌≡◌, ◌<◌, ◌+◌, ◌∙◌, ℕ, ap, sym, arith}
use Rattle.std.specs.Prelude.{slice_index, length}
use Rattle.sporadic_model.specs.SetDef.{SetDef, task_at}
use Rattle.closer_mpcp.specs.Sums.{made_on, made_beside, AreSums}
use Rattle.closer_mpcp.specs.declared.sums.Sums.{Sums}
use Rattle.closer_mpcp.proofs.OnProcessors.{all_on}
use Rattle.closer_mpcp.proofs.sums.beside.Goals as goal

-- What all of the processor make, x itself makes and the others do.
parts : (set : SetDef) (s : Sums) (x k : ℕ) → AreSums set s → x < length set.tasks → k ≡ (task_at set x).processor → k < 65
    → made_beside set (slice_index s.own) x + slice_index s.own x ≡ slice_index s.on k
parts set s x k sums here at within =
    all_on set x (slice_index s.own) here ∙ (ap (made_on set (slice_index s.own)) (sym at) ∙ sym (sums.sum k within))

pub overflow_sub-result : goal.overflow_sub-result
overflow_sub-result c =
    let most : c.processor.result < 65 = omega (arith, c.processor.ensures.most, c.tasks-tasks.ensures.sizes.processors_to) in
    omega (arith, parts c.args.set.now c.args.sums.now c.args.x.0 c.processor.result c.requires.sums c.requires.task c.processor.ensures.value most)

pub returns : goal.returns
returns c =
    let most : c.processor.result < 65 = omega (arith, c.processor.ensures.most, c.tasks-tasks.ensures.sizes.processors_to) in
    let parts = parts c.args.set.now c.args.sums.now c.args.x.0 c.processor.result c.requires.sums c.requires.task c.processor.ensures.value most in
    record {
      value = omega (arith, parts);
      most = omega (arith, parts, c.requires.sums.small c.processor.result most);
    }
