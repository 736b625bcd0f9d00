use Rattle.std.proofs.Common.{◌≡◌, ◌+◌, ◌<◌, ◌∙◌, ℕ, true, false, sym, ap, arith}
use Rattle.std.specs.Prelude.{slice_index}
use Rattle.sporadic_model.specs.SetDef.{SetDef, task_at}
use Rattle.blocking_columns.specs.Columns.{have_one_processor}
use Rattle.closer_mpcp.specs.Sums.{made_on, made_away, made_away_from_both, AreSums}
use Rattle.closer_mpcp.specs.declared.sums.Sums.{Sums}
use Rattle.closer_mpcp.proofs.LowerUsers.{away_from_one, away_from_two}
use Rattle.closer_mpcp.proofs.holdings.lower_away.Goals as goal

-- What is away from x is away from both, or on i's processor.
parts : (set : SetDef) (s : Sums) (i x k : ℕ) → AreSums set s → have_one_processor set x i ≡ false → k ≡ (task_at set i).processor → k < 65
    → made_away_from_both set (slice_index s.own) i x + slice_index s.on k ≡ made_away set (slice_index s.own) x
parts set s i x k sums apart at within =
    ap (λ n. made_away_from_both set (slice_index s.own) i x + n) (sums.sum k within ∙ ap (made_on set (slice_index s.own)) at)
    ∙ away_from_two set (slice_index s.own) i x apart

pub overflow_sub-result : goal.overflow_sub-result
overflow_sub-result c =
    let most : c.processor.result < 65 = omega (arith, c.processor.ensures.most, c.tasks-tasks.ensures.sizes.processors_to) in
    let apart : have_one_processor c.args.set.now c.args.x.0 c.args.i.0 ≡ false = sym c.share_processor.ensures ∙ c.if-share_processor.false in
    omega (
      arith,
      c.away-elsewhere.ensures.value,
      parts c.args.set.now c.args.lower.now c.args.i.0 c.args.x.0 c.processor.result c.requires.lower.sums apart c.processor.ensures.value most,
    )

pub returns-then-share_processor : goal.returns-then-share_processor
returns-then-share_processor c =
    let one : have_one_processor c.args.set.now c.args.x.0 c.args.i.0 ≡ true = sym c.share_processor.ensures ∙ c.if-share_processor.true in
    c.away-elsewhere.ensures.value ∙ away_from_one c.args.set.now (slice_index c.args.lower.now.own) c.args.i.0 c.args.x.0 one

pub returns-else-share_processor : goal.returns-else-share_processor
returns-else-share_processor c =
    let most : c.processor.result < 65 = omega (arith, c.processor.ensures.most, c.tasks-tasks.ensures.sizes.processors_to) in
    let apart : have_one_processor c.args.set.now c.args.x.0 c.args.i.0 ≡ false = sym c.share_processor.ensures ∙ c.if-share_processor.false in
    omega (
      arith,
      c.away-elsewhere.ensures.value,
      parts c.args.set.now c.args.lower.now c.args.i.0 c.args.x.0 c.processor.result c.requires.lower.sums apart c.processor.ensures.value most,
    )
