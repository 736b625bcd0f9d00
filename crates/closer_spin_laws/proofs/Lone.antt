-- Where only lower tasks may spin for several resources, their row together says what the row of spinning for one of them says.
use Rattle.std.proofs.Common.{◌≡◌, ℕ, ◌+◌, ◌*◌, ◌<◌, ◌≤◌, ◌==◌, ◌&&◌, not, Bool, true, false, List, length, refl, ap, ◌∙◌, inl, inr, arith}
use Rattle.std.proofs.Common.{nat_lt, nat_le, if◌then◌else◌}
use Rattle.std.specs.Prelude.{slice_index}
use Rattle.std.proofs.lemmas.Bool.{cases_Bool, and_parts, and_from, both_ways, not-true, ltb-true, ltb-false, eqb-true, eq-eqb, le-leb}
use Rattle.std.proofs.Math.Nat.{zero-mul}
use Rattle.number_laws.specs.Sums.{only_if}
use Rattle.number_laws.specs.Tests.{count_below}
use Rattle.number_laws.proofs.SumLaws.{sum_below-zero}
use Rattle.number_laws.proofs.TestLaws.{any_below-some, any_below-none}
use Rattle.sporadic_model.specs.SetDef.{SetDef, task_at}
use Rattle.sporadic_model.specs.Users.{count_of, is_user}
use Rattle.blocking_columns.specs.Columns.{have_one_processor, is_lower_local}
use Rattle.blocking_columns.specs.ColumnDef.{ColumnDef, is_preemption}
use Rattle.blocking_columns.specs.Windows.{jobs_in, requests_in}
use Rattle.spin_charging.specs.SpinPrograms.{is_from, is_used_below, spinning_row, higher_requests, upper_requests}
use Rattle.closer_spin_laws.specs.CloserSpinRows.{is_used_on, is_spun_below, is_used_above, is_lone, is_left_out, leaves_lone_out, are_many_spun, is_of_slot, used_above}
use Rattle.closer_spin_laws.specs.CloserSpinRows.{lone_spinning_row}
use Rattle.closer_laws.proofs.Dominated.{Dominates}

-- What is used below is used by a lower task, so the analysed task is one of the set.
below_listed : (set : SetDef) (i q : ℕ) → is_used_below set i q ≡ true → i < length set.tasks
below_listed set i q h =
    let at : (x : ℕ) × (x < length set.tasks) × ((is_lower_local set i x && is_user set q x) ≡ true) =
    any_below-some (length set.tasks) (λ x. is_lower_local set i x && is_user set q x) h in
    let lower : is_lower_local set i at.0 ≡ true = (and_parts _ _ at.2).0 in
    omega (arith, at.1, ltb-true i at.0 (and_parts _ _ lower).0)

-- What isn't used above is requested neither by the analysed task nor by a higher one beside it.
unused_by : (set : SetDef) (i q h : ℕ) → i < length set.tasks → is_used_above set i q ≡ false → h ≤ i
    → have_one_processor set h i ≡ true → count_of set h q ≡ 0
unused_by set i q h here none order beside = elim (cases_Bool (is_user set q h)) [
  | inr unused ↦ omega (arith, ltb-false 0 (count_of set h q) unused)
  | inl user ↦ absurd (both_ways ((nat_le h i && have_one_processor set h i) && is_user set q h)
      (any_below-none (length set.tasks) (λ x. (nat_le x i && have_one_processor set x i) && is_user set q x) none h (omega (arith, here, order)))
      (and_from _ _ (and_from _ _ (le-leb _ _ order) beside) user))
]

no_higher : (set : SetDef) (bounds : ℕ → ℕ) (i q : ℕ) → i < length set.tasks → is_used_above set i q ≡ false
    → higher_requests set bounds i q ≡ 0
no_higher set bounds i q here none =
    sum_below-zero i (λ h. only_if (have_one_processor set h i) (requests_in set bounds i h q)) (λ h l. by_place h l (have_one_processor set h i) refl)
  where
    by_place : (h : ℕ) → h < i → (b : Bool) → have_one_processor set h i ≡ b → only_if b (requests_in set bounds i h q) ≡ 0
    by_place h l false away = refl
    by_place h l true beside =
        ap (λ c. c * jobs_in set bounds i h) (unused_by set i q h here none (omega (arith, l)) beside)
        ∙ zero-mul (jobs_in set bounds i h)

-- So the analysed task and higher ones request nothing of what is lone.
none_above : (set : SetDef) (bounds : ℕ → ℕ) (i k : ℕ) → i < length set.tasks → upper_requests set bounds i (is_lone set i k) ≡ 0
none_above set bounds i k here =
    sum_below-zero (length set.resources) (λ q. only_if (is_lone set i k q) (count_of set i q + higher_requests set bounds i q))
    (λ q l. by_test q (is_lone set i k q) refl) where
      by_test : (q : ℕ) → (b : Bool) → is_lone set i k q ≡ b → only_if b (count_of set i q + higher_requests set bounds i q) ≡ 0
      by_test q false other = refl
      by_test q true lone =
          let none : is_used_above set i q ≡ false = not-true _ (and_parts _ _ lone).1 in
          omega (
            arith,
            unused_by set i q i here none (omega arith) (eq-eqb (task_at set i).processor (task_at set i).processor refl),
            no_higher set bounds i q here none,
          )

-- The row together counts each column that the row of spinning counts, and the limit of both is one request.
pub lone_dominates : (bounds : List ℕ) (set : SetDef) (i k q : ℕ) → is_left_out set i k q ≡ true
    → Dominates bounds (lone_spinning_row set i k) (spinning_row set i k q)
lone_dominates bounds set i k q out = record { coefficients = λ c. counted c; limit = limits } where
  both : (is_lone set i k q ≡ true) × (leaves_lone_out set i k ≡ true)
  both = and_parts (is_lone set i k q) (leaves_lone_out set i k) out

  lone : is_lone set i k q ≡ true
  lone = both.0

  several : nat_lt 1 (count_below (length set.resources) (is_lone set i k)) ≡ true
  several = (and_parts (are_many_spun set i k) (nat_lt 1 (count_below (length set.resources) (is_lone set i k))) both.1).1

  below : is_used_below set i q ≡ true
  below = (and_parts (not (k == (task_at set i).processor) && is_used_on set k q) (is_used_below set i q)
      (and_parts (is_spun_below set i k q) (not (is_used_above set i q)) lone).0).1

  there : (nat_lt 1 (count_below (length set.resources) (is_lone set i k)) && nat_le 0 (used_above set i k)) ≡ true
  there = and_from (nat_lt 1 (count_below (length set.resources) (is_lone set i k))) (nat_le 0 (used_above set i k)) several
      (le-leb 0 (used_above set i k) (omega arith))

  slot : (c : ColumnDef) → (is_from set k q c && not (is_preemption c.class)) ≡ true → is_of_slot set k (is_lone set i k) c ≡ true
  slot c h =
      let parts : (is_from set k q c ≡ true) × (not (is_preemption c.class) ≡ true) = and_parts _ _ h in
      let from : (((task_at set c.task).processor == k) ≡ true) × ((c.resource == q) ≡ true) = and_parts _ _ parts.0 in
      let passes : is_lone set i k c.resource ≡ true = ap (is_lone set i k) (eqb-true _ _ from.1) ∙ lone in
      by_class (is_preemption c.class) (not-true _ parts.1) (and_from _ _ from.0 passes) where
        by_class : (p : Bool) → p ≡ false → (((task_at set c.task).processor == k) && is_lone set i k c.resource) ≡ true
            → (if p then not (is_lone set i k c.resource) else (((task_at set c.task).processor == k) && is_lone set i k c.resource)) ≡ true
        by_class false other same = same
        by_class true other same = absurd (both_ways true other refl)

  counted : (c : ColumnDef) → (spinning_row set i k q).coefficient c ≤ (lone_spinning_row set i k).coefficient c
  counted c = elim (cases_Bool (is_from set k q c && not (is_preemption c.class))) [
    | inr none ↦ rw none (omega arith)
    | inl some ↦ rw (some, and_from _ _ there (slot c some)) (omega arith)
  ]

  limits : (lone_spinning_row set i k).limit (slice_index bounds) ≤ (spinning_row set i k q).limit (slice_index bounds)
  limits = rw (none_above set (slice_index bounds) i k (below_listed set i q below), below) (omega arith)
