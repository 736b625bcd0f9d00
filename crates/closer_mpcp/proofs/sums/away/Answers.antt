use Rattle.std.proofs.Common.{◌≡◌, ◌<◌, ◌+◌, ◌∙◌, ℕ, ap, sym, arith}
use Rattle.std.specs.Prelude.{slice_index}
use Rattle.sporadic_model.specs.SetDef.{SetDef, task_at}
use Rattle.closer_mpcp.specs.Sums.{made_on, made_away, AreSums}
use Rattle.closer_mpcp.specs.declared.sums.Sums.{Sums}
use Rattle.closer_mpcp.proofs.OnProcessors.{all_away}
use Rattle.closer_mpcp.proofs.sums.away.Goals as goal

-- The tasks of the processor make their part of all, and the others the rest.
parts : (set : SetDef) (s : Sums) (x k : ℕ) → AreSums set s → k ≡ (task_at set x).processor → k < 65
    → made_away set (slice_index s.own) x + slice_index s.on k ≡ s.all
parts set s x k sums at within =
    ap (λ n. made_away set (slice_index s.own) x + n) (sums.sum k within ∙ ap (made_on set (slice_index s.own)) at)
    ∙ (all_away set x (slice_index s.own) ∙ sym sums.all)

pub overflow_sub-result : goal.overflow_sub-result
overflow_sub-result c =
    let most : c.processor.result < 65 = omega (arith, c.processor.ensures.most, c.tasks-tasks.ensures.sizes.processors_to) in
    omega (arith, parts c.args.set.now c.args.sums.now c.args.x.0 c.processor.result c.requires.sums c.processor.ensures.value most)

pub returns : goal.returns
returns c =
    let most : c.processor.result < 65 = omega (arith, c.processor.ensures.most, c.tasks-tasks.ensures.sizes.processors_to) in
    let parts = parts c.args.set.now c.args.sums.now c.args.x.0 c.processor.result c.requires.sums c.processor.ensures.value most in
    record {
      value = omega (arith, parts);
      most = omega (arith, parts, c.requires.sums.all_small);
    }
