use Rattle.std.proofs.Common.{◌≡◌, ◌<◌, ◌≤◌, ℕ, length, sym, subst, arith, IsTrue, false}
use Rattle.std.proofs.lemmas.List.{length-map}
use Rattle.refusal_laws.specs.Steps.{StepDef, HasDenominators, step_at}
use Rattle.refusal_laws.specs.Seen.{step_seen, steps_seen}
use Rattle.refusal_confirm.proofs.SeenLaws.{step_seen_at}
use Rattle.refusal_confirm.proofs.WalkLaws.{one_more}
use Rattle.refusal_confirm.proofs.confirming.has_denominators.Goals as goal

pub returns-then-index-eq0 : goal.returns-then-index-eq0
returns-then-index-eq0 c =
    let here : c.loop-k.k < length c.args.refusal.now.steps.items = omega arith in
    let seen : step_seen c.index.result.now ≡ step_at (steps_seen c.args.refusal.now) c.loop-k.k =
    step_seen_at c.args.refusal.now.steps.items c.loop-k.k c.index.result.now here c.index.ensures in (
      (λ (no : IsTrue false). cc),
      λ (all : HasDenominators (steps_seen c.args.refusal.now)).
          let least = all c.loop-k.k (omega (arith, here, length-map c.args.refusal.now.steps.items step_seen)) in
          let own : 1 ≤ (step_seen c.index.result.now).point.den = subst (λ (s : StepDef). 1 ≤ s.point.den) (sym seen) least in
          absurd (omega (arith, own)),
    )

pub loop-k-preserved : goal.loop-k-preserved
loop-k-preserved c =
    let here : c.loop-k.k < length c.args.refusal.now.steps.items = omega arith in
    let seen : step_seen c.index.result.now ≡ step_at (steps_seen c.args.refusal.now) c.loop-k.k =
    step_seen_at c.args.refusal.now.steps.items c.loop-k.k c.index.result.now here c.index.ensures in
    let own : 1 ≤ (step_seen c.index.result.now).point.den = omega arith in
    one_more (λ (j : ℕ). 1 ≤ (step_at (steps_seen c.args.refusal.now) j).point.den) c.loop-k.k c.loop-k.invariant
    (subst (λ (s : StepDef). 1 ≤ s.point.den) seen own)
