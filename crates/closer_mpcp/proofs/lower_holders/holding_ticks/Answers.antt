use Rattle.std.proofs.Common.{◌≡◌, ◌<◌, ◌+◌, ◌∙◌, ℕ, List, length, ap, sym, arith}
use Rattle.std.specs.Prelude.{slice_index}
use Rattle.sporadic_model.specs.SetDef.{SetDef, task_at}
use Rattle.mpcp_window_laws.specs.MpcpWindows.{longest_first}
use Rattle.closer_mpcp.specs.Sums.{made_on, made_beside}
use Rattle.closer_mpcp.specs.Tables.{AreLongestOn, longest_beside}
use Rattle.closer_mpcp.proofs.OnProcessors.{all_on, others_run}
use Rattle.closer_mpcp.proofs.UsersBeside.{all_beside}
use Rattle.closer_mpcp.proofs.lower_holders.holding_ticks.Goals as goal

-- On y's processor y itself has the one, and the other tasks have the rest.
parts : (set : SetDef) (q y k : ℕ) (ticks : List ℕ) → AreLongestOn set q ticks → y < length set.tasks → k ≡ (task_at set y).processor → k < 65
    → made_beside set (λ x. longest_beside set x q) y + longest_beside set y q ≡ slice_index ticks k
parts set q y k ticks sums here at within =
    let f : ℕ → ℕ = λ x. longest_beside set x q in
    all_on set y f here ∙ (ap (made_on set f) (sym at) ∙ sym (sums.sum k within))

pub overflow_sub-others : goal.overflow_sub-others
overflow_sub-others c =
    let set = c.args.set.now in
    let y = c.args.y.0 in
    let most : c.processor.result < 65 = omega (arith, c.processor.ensures.most, c.tasks-tasks.ensures.sizes.processors_to) in
    let all = parts set c.args.q.0 y c.processor.result c.args.on.now c.requires.first.on c.requires.held.task c.processor.ensures.value most in
    omega (arith, all, (c.requires.first.each.each y c.requires.held.task).longest)

pub returns : goal.returns
returns c =
    let set = c.args.set.now in
    let y = c.args.y.0 in
    let q = c.args.q.0 in
    let most : c.processor.result < 65 = omega (arith, c.processor.ensures.most, c.tasks-tasks.ensures.sizes.processors_to) in
    let all = parts set q y c.processor.result c.args.on.now c.requires.first.on c.requires.held.task c.processor.ensures.value most in
    let own = (c.requires.first.each.each y c.requires.held.task).longest in
    record {
      value = omega (arith, c.length.ensures.value, all, own, others_run set c.args.i.0 y (λ x. longest_first set x q) c.requires.away, all_beside set y q c.requires.held.task c.requires.user);
      most = omega (arith, c.length.ensures.ticks, all, own, c.requires.first.on.small c.processor.result most);
    }
