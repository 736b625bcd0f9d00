-- The rows that are that row for some resources: spinning, of one resource, and lower requests.
use Rattle.std.proofs.Common.{◌≡◌, ℕ, ◌+◌, ◌*◌, ◌<◌, ◌≤◌, ◌==◌, ◌&&◌, ◌||◌, not, Bool, true, false, length, arith, inl, inr}
use Rattle.std.proofs.Common.{Option, Some, None, refl, sym, ap, ◌∙◌, if◌then◌else◌}
use Rattle.std.proofs.Math.Nat.{mul-le-mul_left, mul-le-mul_right}
use Rattle.std.proofs.lemmas.Bool.{cases_Bool, and_parts, eqb-true}
use Rattle.number_laws.specs.Sums.{flag}
use Rattle.number_laws.proofs.SumLaws.{sum_below-monotone, sum_below-zero}
use Rattle.number_laws.proofs.CountLaws.{flag-at_most}
use Rattle.number_laws.proofs.TestLaws.{any_below-some}
use Rattle.sporadic_model.specs.SetDef.{SetDef}
use Rattle.sporadic_model.specs.Users.{count_of}
use Rattle.schedule_model.specs.RowDef.{Trace}
use Rattle.schedule_model.specs.Activity.{task_of}
use Rattle.schedule_model.specs.Keeping.{KeepsBefore}
use Rattle.blocking_columns.specs.ColumnDef.{ColumnDef, is_preemption}
use Rattle.fragments.specs.Constraints.{ConstraintDef}
use Rattle.charge_laws.specs.Windows.{window_end}
use Rattle.charge_laws.specs.Fractions.{charged_column}
use Rattle.row_laws.specs.Meeting.{Charges, brought, brings, TicksMeet}
use Rattle.row_laws.proofs.Brings.{Window}
use Rattle.row_laws.proofs.Numbers.{sum_below-only}
use Rattle.spin_rules.specs.SpinRules.{spin_rule}
use Rattle.spin_charging.specs.SpinCharges.{spin_charge}
use Rattle.spin_charging.specs.SpinPrograms.{is_from, is_used_below, higher_requests, lower_request_row, spinning_row}
use Rattle.spin_charging.proofs.SpinningParts.{Kinds, is_counted}
use Rattle.spin_charging.proofs.SpinningRow.{has_lower, counted_row, counted_row_met}

-- A row that counts no more than another, up to a limit that is no less, is met where that one is.
brought_less : (a b share : ColumnDef → ℕ) (o : Option ColumnDef) → ((c : ColumnDef) → a c ≤ b c)
    → brought (λ c. a c * share c) o ≤ brought (λ c. b c * share c) o
brought_less a b share None less = omega arith
brought_less a b share (Some c) less = mul-le-mul_right (share c) (less c)

pub met_by : (charges : Charges) (w : Trace) (bound : ℕ → ℕ) (n j : ℕ) (row met : ConstraintDef)
    → ((c : ColumnDef) → row.coefficient c ≤ met.coefficient c) → met.limit bound ≤ row.limit bound → TicksMeet charges w bound n j met
    → TicksMeet charges w bound n j row
met_by charges w bound n j row met less limit ticks s share fair = omega (
  arith,
  sum_below-monotone (window_end w bound n j)
      (λ t. brings charges w (λ c. row.coefficient c * share c.task c.resource) j t)
      (λ t. brings charges w (λ c. met.coefficient c * share c.task c.resource) j t)
      (λ t l. brought_less row.coefficient met.coefficient (λ c. share c.task c.resource) (charged_column charges w t j) less),
  ticks s share fair,
  mul-le-mul_left s limit,
)

-- Spinning: of one resource, and no request that runs.
abbrev of_resource : ℕ → ℕ → Kinds
of_resource k q = record { processor = k; spun = λ r. r == q; runs = λ r. false }

spun_alone : (set : SetDef) (k q : ℕ) (c : ColumnDef)
    → flag (is_from set k q c && not (is_preemption c.class)) ≤ flag (is_counted set (of_resource k q) c)
spun_alone set k q c = flags (is_preemption c.class) (is_from set k q c) where
  flags : (p b : Bool) → flag (b && not p) ≤ flag (if p then false else b)
  flags true true = omega arith
  flags true false = omega arith
  flags false true = omega arith
  flags false false = omega arith

first_holds : (b : Bool) → (b || false) ≡ true → b ≡ true
first_holds true h = refl
first_holds false h = h

pub spinning_row_met : (w : Trace) (bound : ℕ → ℕ) (n j k q : ℕ) → Window spin_charge w bound n j → KeepsBefore spin_rule w n
    → TicksMeet spin_charge w bound n j (spinning_row w.set (task_of w j) k q)
spinning_row_met w bound n j k q window keeps =
    met_by spin_charge w bound n j (spinning_row w.set i k q) (counted_row w.set i (of_resource k q)) (spun_alone w.set k q)
    (omega (arith, sum_below-only (length w.set.resources) q (λ r. count_of w.set i r + higher_requests w.set bound i r), lower))
    (counted_row_met w bound n j (of_resource k q) window keeps (λ r spun runs. cc)) where
      i : ℕ
      i = task_of w j

      lower : flag (has_lower w.set i (of_resource k q)) ≤ flag (is_used_below w.set i q)
      lower = elim (cases_Bool (has_lower w.set i (of_resource k q))) [
        | inr none ↦ rw none (omega arith)
        | inl some ↦
            let at : (r : ℕ) × (r < length w.set.resources) × ((((r == q) || false) && is_used_below w.set i r) ≡ true) =
            any_below-some (length w.set.resources) (λ r. ((r == q) || false) && is_used_below w.set i r) some in
            let parts : (((at.0 == q) || false) ≡ true) × (is_used_below w.set i at.0 ≡ true) = and_parts _ _ at.2 in
            let here : at.0 ≡ q = eqb-true at.0 q (first_holds (at.0 == q) parts.0) in
            let used : is_used_below w.set i q ≡ true = ap (is_used_below w.set i) (sym here) ∙ parts.1 in
            rw (some, used) (omega arith)
      ]

-- Lower requests: of whatever resource, and none that is spun for.
abbrev all_that_run : Kinds
all_that_run = record { processor = 0; spun = λ r. false; runs = λ r. true }

pub lower_request_row_met : (w : Trace) (bound : ℕ → ℕ) (n j : ℕ) → Window spin_charge w bound n j → KeepsBefore spin_rule w n
    → TicksMeet spin_charge w bound n j lower_request_row
lower_request_row_met w bound n j window keeps =
    met_by spin_charge w bound n j lower_request_row (counted_row w.set i all_that_run) (λ c. flags (is_preemption c.class) _)
    (omega (arith, sum_below-zero (length w.set.resources) (λ q. 0) (λ q l. refl), flag-at_most (has_lower w.set i all_that_run)))
    (counted_row_met w bound n j all_that_run window keeps (λ r spun runs. cc)) where
      i : ℕ
      i = task_of w j

      flags : (p b : Bool) → flag p ≤ flag (if p then true else b)
      flags true b = omega arith
      flags false b = omega arith
