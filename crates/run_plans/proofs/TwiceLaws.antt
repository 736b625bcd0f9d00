-- Completeness of a call over a shelf that raised no count.
use Rattle.std.proofs.Common.{◌≡◌, ℕ, ◌-◌, ◌^◌, ◌<◌, true, ◌∙◌, ap, arith, inl, inr}
use Rattle.std.specs.Prelude.{IsSome}
use Rattle.outside_ports.specs.Counts.{Rose}
use Rattle.outside_ports.specs.Ports.{ShelfDef}
use Rattle.run_plans.specs.Headline.{Call}
use Rattle.run_plans.specs.Run.{IsRun, IsCompletePremise}
use Rattle.run_plans.specs.Twice.{AreSteady, IsCompleteCall}

-- A count that stays has not risen, if it is below its greatest value.
not_risen : (before now : ℕ) → now ≡ before → before < 2 ^ 64 - 1 → Rose before now → ⊥
not_risen before now same below rose = absurd (omega (arith, same, below, rose))

complete_over : (call : Call) → IsRun call → call.shelf_now.faults ≡ call.shelf_before.faults
    → call.shelf_before.faults < 2 ^ 64 - 1 → IsSome call.sink_before.written → IsCompleteCall call
complete_over call run same below tells inputs form form_is told ends quiet =
    let premise : IsCompletePremise call inputs form = record {
      form_is = form_is;
      has = inl told;
      ends = ends;
      tells = tells;
      shelf = not_risen call.shelf_before.faults call.shelf_now.faults same below;
      sink = quiet;
    } in
    elim (run.complete inputs form premise) [
      | inl done ↦ elim done.0 [ inl zero ↦ inl zero | inr one ↦ inr (inl one) ]
      | inr ran ↦ inr (inr ran.status)
    ]

pub first_complete : (first second : Call) → IsRun first → AreSteady first second → IsCompleteCall first
first_complete first second run s = complete_over first run (s.keeps.steady s.steady).1 s.count s.tells

pub second_complete : (first second : Call) → IsRun second → AreSteady first second → IsCompleteCall second
second_complete first second run s =
    let still = s.keeps.steady s.steady in
    let begins : second.shelf_before.steady ≡ true = ap (λ (x : ShelfDef). x.steady) s.same_shelf ∙ still.0 in
    let faults : second.shelf_before.faults ≡ first.shelf_now.faults = ap (λ (x : ShelfDef). x.faults) s.same_shelf in
    let below : second.shelf_before.faults < 2 ^ 64 - 1 = omega (arith, faults, still.1, s.count) in
    complete_over second run (s.keeps_still.steady begins).1 below (s.tells_still ∙ s.tells)
