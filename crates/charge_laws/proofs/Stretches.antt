-- Each tick of a steady stretch is charged as its first tick is. Its row is that of the first, and so is each job's phase.
use Rattle.std.proofs.Common.{◌≡◌, ℕ, ◌+◌, refl, ap, ◌∙◌, arith, inl, inr, Option, Some, None}
use Rattle.std.specs.Prelude.{if◌then◌else◌, option_map}
use Rattle.std.specs.Option.{option_and_then}
use Rattle.std.proofs.lemmas.Bool.{cases_lt}
use Rattle.sporadic_model.specs.SetDef.{SetDef}
use Rattle.schedule_model.specs.RowDef.{RowDef, Trace, running_on, holder_in, runs_in}
use Rattle.schedule_model.specs.Phase.{Phase, phase_of}
use Rattle.schedule_model.specs.Phase.Phase.{Local, Asking, Finished}
use Rattle.schedule_model.specs.Activity.{processor_of, is_ready}
use Rattle.schedule_model.specs.BlockedTicks.{is_shared_interference, is_dpcp_interference, is_blocked}
use Rattle.schedule_model.specs.DpcpRules.{home_of}
use Rattle.schedule_model.specs.declared.rule.Rule.{Rule}
use Rattle.schedule_laws.proofs.Alike.{IsAlike, alike_through, ready_alike, running_alike, shared_blocked_alike, dpcp_blocked_alike}
use Rattle.blocking_columns.specs.declared.columns.Class.TheVariants.{Direct, Indirect, Preemption}
use Rattle.charge_laws.specs.Charges.{Charge, charge_to, charge_of_waiting, shared_charge, class_at_home, charge_by_phase, dpcp_charge}
use Rattle.charge_laws.specs.Stretches.{StaysCharged}

-- Charges that are the same at ticks that are alike stay through a stretch.
pub stays_where_alike : (suits : SetDef → Type 0) (keeps : Rule → Trace → ℕ → Type 0) (charges : Trace → ℕ → ℕ → Option Charge)
    → ((w : Trace) (t u j : ℕ) → IsAlike w t u → charges w u j ≡ charges w t j) → StaysCharged suits keeps charges
stays_where_alike suits keeps charges same w t n fits lawful steady row i j l = elim (cases_lt 0 i) [
  | inl some ↦ same w t (t + i) j (alike_through w t n i steady some l)
  | inr none ↦ let here : t + i ≡ t = omega (arith, none) in ap (λ u. charges w u j) here
]

-- If a job waits, the holder and what runs are in the row.
waiting_alike : (w : Trace) (t u : ℕ) (p : Phase) → IsAlike w t u → charge_of_waiting w u p ≡ charge_of_waiting w t p
waiting_alike w t u Local a = refl
waiting_alike w t u Finished a = refl
waiting_alike w t u (Asking n q) a =
    ap
    (λ (row : RowDef). option_and_then (λ y. if runs_in row y then Some (record { job = y; class = Direct })
    else charge_to Indirect (running_on row (processor_of w y))) (holder_in row q)) a.row

pub shared_charge_alike : (w : Trace) (t u j : ℕ) → IsAlike w t u → shared_charge w u j ≡ shared_charge w t j
unfolding shared_charge
shared_charge_alike w t u j a =
    ap
    (λ b. if b then (if is_ready w u j then charge_to Preemption (running_on (w.row u) (processor_of w j))
    else charge_of_waiting w u (phase_of w u j)) else None) (shared_blocked_alike w t u j a)
    ∙ ap (λ c. if is_blocked is_shared_interference w t j then c else None) ready where
      ready : (if is_ready w u j then charge_to Preemption (running_on (w.row u) (processor_of w j))
          else charge_of_waiting w u (phase_of w u j))
          ≡ (if is_ready w t j then charge_to Preemption (running_on (w.row t) (processor_of w j))
          else charge_of_waiting w t (phase_of w t j))
      ready =
          ap (λ b. if b then charge_to Preemption (running_on (w.row u) (processor_of w j)) else charge_of_waiting w u (phase_of w u j))
          (ready_alike w t u j a)
          ∙ ap (λ o. if is_ready w t j then charge_to Preemption o else charge_of_waiting w u (phase_of w u j))
          (running_alike w t u (processor_of w j) a)
          ∙ ap (λ c. if is_ready w t j then charge_to Preemption (running_on (w.row t) (processor_of w j)) else c)
          (ap (charge_of_waiting w u) (a.phase j) ∙ waiting_alike w t u (phase_of w t j) a)

-- If requests run on their resource's home: what runs there, and the request that it is in.
abbrev to_home : Trace → ℕ → ℕ → Option ℕ → Option Charge
to_home w t q o = option_map (λ y. record { job = y; class = class_at_home q (phase_of w t y) }) o

by_phase_alike : (w : Trace) (t u j : ℕ) (p : Phase) → IsAlike w t u → charge_by_phase w u j p ≡ charge_by_phase w t j p
by_phase_alike w t u j Local a = ap (charge_to Preemption) (running_alike w t u (processor_of w j) a)
by_phase_alike w t u j Finished a = refl
by_phase_alike w t u j (Asking n q) a =
    ap (to_home w u q) (running_alike w t u (home_of w q) a) ∙ at_home (running_on (w.row t) (home_of w q)) where
      at_home : (o : Option ℕ) → to_home w u q o ≡ to_home w t q o
      at_home None = refl
      at_home (Some y) = ap (λ p. Some (record { job = y; class = class_at_home q p })) (a.phase y)

pub dpcp_charge_alike : (w : Trace) (t u j : ℕ) → IsAlike w t u → dpcp_charge w u j ≡ dpcp_charge w t j
unfolding dpcp_charge
dpcp_charge_alike w t u j a =
    ap (λ b. if b then charge_by_phase w u j (phase_of w u j) else None) (dpcp_blocked_alike w t u j a)
    ∙ ap (λ c. if is_blocked is_dpcp_interference w t j then c else None)
    (ap (charge_by_phase w u j) (a.phase j) ∙ by_phase_alike w t u j (phase_of w t j) a)

-- So they stay, by whatever rules a row is judged.
pub shared_stays_charged : (suits : SetDef → Type 0) (keeps : Rule → Trace → ℕ → Type 0) → StaysCharged suits keeps shared_charge
shared_stays_charged suits keeps = stays_where_alike suits keeps shared_charge shared_charge_alike

pub dpcp_stays_charged : (suits : SetDef → Type 0) (keeps : Rule → Trace → ℕ → Type 0) → StaysCharged suits keeps dpcp_charge
dpcp_stays_charged suits keeps = stays_where_alike suits keeps dpcp_charge dpcp_charge_alike
