-- The ticks of a window meet the closer rows: each is the row of what is spun for and of lower requests that run, for some resources.
use Rattle.std.proofs.Common.{◌≡◌, ℕ, ◌+◌, ◌<◌, ◌≤◌, ◌==◌, ◌&&◌, ◌||◌, not, Bool, true, false, length, refl, sym, ap, ◌∙◌, arith, inl, inr, nat_lt, nat_le}
use Rattle.std.proofs.lemmas.Bool.{cases_Bool, both_ways, and_parts, eqb-true, not-true}
use Rattle.number_laws.specs.Sums.{flag}
use Rattle.number_laws.specs.Tests.{count_below}
use Rattle.number_laws.proofs.CountLaws.{flag-at_most}
use Rattle.number_laws.proofs.TestLaws.{any_below-some}
use Rattle.sporadic_model.specs.Users.{count_of}
use Rattle.schedule_model.specs.RowDef.{Trace}
use Rattle.schedule_model.specs.Activity.{task_of}
use Rattle.schedule_model.specs.Keeping.{KeepsBefore}
use Rattle.row_laws.specs.Meeting.{TicksMeet}
use Rattle.row_laws.proofs.Brings.{Window}
use Rattle.row_laws.proofs.Numbers.{sum_below-only}
use Rattle.spin_rules.specs.SpinRules.{spin_rule}
use Rattle.spin_charging.specs.SpinCharges.{spin_charge}
use Rattle.spin_charging.specs.SpinPrograms.{is_used_below, higher_requests}
use Rattle.spin_charging.proofs.SpinningParts.{Kinds}
use Rattle.spin_charging.proofs.SpinningRow.{has_lower, counted_row, counted_row_met}
use Rattle.spin_charging.proofs.SpunRows.{met_by}
use Rattle.closer_spin_laws.specs.CloserSpinRows.{is_spun_below, is_left_out, is_in_place, is_of_slot, used_above}
use Rattle.closer_spin_laws.specs.CloserSpinRows.{closer_spinning_row, together_row}

-- A test with one more counts no more.
second : (a b : Bool) → flag (a && b) ≤ flag b
second true b = omega arith
second false b = omega arith

-- Spinning.
pub closer_spinning_row_met : (w : Trace) (bound : ℕ → ℕ) (n j k q : ℕ) → Window spin_charge w bound n j → KeepsBefore spin_rule w n
    → TicksMeet spin_charge w bound n j (closer_spinning_row w.set (task_of w j) k q)
closer_spinning_row_met w bound n j k q window keeps =
    met_by spin_charge w bound n j (closer_spinning_row w.set i k q) (counted_row w.set i kinds)
    (λ c. second (not (is_left_out w.set i k q)) (is_in_place w.set i k q c))
    (omega (arith, sum_below-only (length w.set.resources) q (λ r. count_of w.set i r + higher_requests w.set bound i r), lower))
    (counted_row_met w bound n j kinds window keeps apart) where
      i : ℕ
      i = task_of w j

      kinds : Kinds
      kinds = record { processor = k; spun = λ r. r == q; runs = λ r. is_spun_below w.set i k q && not (r == q) }

      apart : (r : ℕ) → kinds.spun r ≡ true → kinds.runs r ≡ true → ⊥
      apart r spun runs =
          let parts : (is_spun_below w.set i k q ≡ true) × (not (r == q) ≡ true) = and_parts _ _ runs in
          both_ways (r == q) (not-true _ parts.1) spun

      used : (r : ℕ) → (b : Bool) → (r == q) ≡ b → ((b || (is_spun_below w.set i k q && not b)) && is_used_below w.set i r) ≡ true
          → is_used_below w.set i q ≡ true
      used r true same h = ap (is_used_below w.set i) (sym (eqb-true r q same)) ∙ h
      used r false other h =
          let parts : ((is_spun_below w.set i k q && true) ≡ true) × (is_used_below w.set i r ≡ true) = and_parts _ _ h in
          let spun : (is_spun_below w.set i k q ≡ true) × (true ≡ true) = and_parts _ _ parts.0 in
          (and_parts _ _ spun.0).1

      lower : flag (has_lower w.set i kinds) ≤ flag (is_used_below w.set i q)
      lower = elim (cases_Bool (has_lower w.set i kinds)) [
        | inr none ↦ rw none (omega arith)
        | inl some ↦
            let at : (r : ℕ) × (r < length w.set.resources) × (((kinds.spun r || kinds.runs r) && is_used_below w.set i r) ≡ true) =
            any_below-some (length w.set.resources) (λ r. (kinds.spun r || kinds.runs r) && is_used_below w.set i r) some in
            rw (some, used at.0 (at.0 == q) refl at.2) (omega arith)
      ]

-- Several resources together.
pub together_row_met : (w : Trace) (bound : ℕ → ℕ) (n j k least : ℕ) (passes : ℕ → Bool) → Window spin_charge w bound n j
    → KeepsBefore spin_rule w n → TicksMeet spin_charge w bound n j (together_row w.set (task_of w j) k least passes)
together_row_met w bound n j k least passes window keeps =
    met_by spin_charge w bound n j (together_row w.set i k least passes) (counted_row w.set i kinds)
    (λ c. second (nat_lt 1 (count_below (length w.set.resources) passes) && nat_le least (used_above w.set i k))
    (is_of_slot w.set k passes c))
    (omega (arith, flag-at_most (has_lower w.set i kinds)))
    (counted_row_met w bound n j kinds window keeps (λ r spun runs. both_ways (passes r) (not-true _ runs) spun)) where
      i : ℕ
      i = task_of w j

      kinds : Kinds
      kinds = record { processor = k; spun = passes; runs = λ r. not (passes r) }
