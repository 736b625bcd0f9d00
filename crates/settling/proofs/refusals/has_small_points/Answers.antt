use Rattle.std.proofs.Common.{◌≡◌, ◌<◌, ℕ, length, subst, arith, rules}
use Rattle.program_form.specs.Certificate.{dual_seen}
use Rattle.refusal_laws.specs.Steps.{StepDef, step_at}
use Rattle.refusal_laws.specs.Seen.{step_seen, steps_seen}
use Rattle.response_fixpoint.specs.Answers.{IsSmallDual}
use Rattle.refusal_confirm.proofs.SeenLaws.{step_seen_at}
use Rattle.refusal_confirm.proofs.WalkLaws.{one_more}
use Rattle.settling.proofs.refusals.has_small_points.Goals as goal

pub loop-k-preserved : goal.loop-k-preserved
loop-k-preserved c =
    let here : c.loop-k.k < length c.args.refusal.now.steps.items = omega arith in
    let seen : step_seen c.index.result.now ≡ step_at (steps_seen c.args.refusal.now) c.loop-k.k =
    step_seen_at c.args.refusal.now.steps.items c.loop-k.k c.index.result.now here c.index.ensures in
    let own : IsSmallDual (dual_seen c.index.result.now.point) = search rules in
    one_more (λ (j : ℕ). IsSmallDual (step_at (steps_seen c.args.refusal.now) j).point) c.loop-k.k c.loop-k.invariant
    (subst (λ (s : StepDef). IsSmallDual s.point) seen own)
