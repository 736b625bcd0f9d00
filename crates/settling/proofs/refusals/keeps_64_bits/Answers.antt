use Rattle.std.proofs.Common.{◌≡◌, ◌<◌, ◌^◌, ℕ, length, subst, arith}
use Rattle.refusal_laws.specs.Steps.{StepDef, step_at}
use Rattle.refusal_laws.specs.Seen.{step_seen, steps_seen}
use Rattle.refusal_confirm.proofs.SeenLaws.{step_seen_at}
use Rattle.refusal_confirm.proofs.WalkLaws.{one_more}
use Rattle.settling.proofs.refusals.keeps_64_bits.Goals as goal

pub loop-k-preserved : goal.loop-k-preserved
loop-k-preserved c =
    let here : c.loop-k.k < length c.args.refusal.now.steps.items = omega arith in
    let seen : step_seen c.index.result.now ≡ step_at (steps_seen c.args.refusal.now) c.loop-k.k =
    step_seen_at c.args.refusal.now.steps.items c.loop-k.k c.index.result.now here c.index.ensures in
    let task : c.index.result.now.task < 2 ^ 64 = omega arith in
    let value : c.index.result.now.value < 2 ^ 64 = omega arith in
    one_more (λ (j : ℕ). ((step_at (steps_seen c.args.refusal.now) j).task < 2 ^ 64)
    × ((step_at (steps_seen c.args.refusal.now) j).value < 2 ^ 64)) c.loop-k.k c.loop-k.invariant
    (subst (λ (s : StepDef). (s.task < 2 ^ 64) × (s.value < 2 ^ 64)) seen (task, value))
