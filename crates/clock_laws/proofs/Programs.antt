-- Programs in cycles beside programs in ticks. Take a dual of the one, and multiply each multiplier as its row says. This is a dual of
-- the other. Its value is at most k times as great, plus less than k.
use Rattle.std.proofs.Common.{◌≡◌, ◌∙◌, ℕ, ◌+◌, ◌-◌, ◌*◌, ◌%◌, ◌<◌, ◌≤◌, List, [], ◌∷◌, map, zero, suc}
use Rattle.std.proofs.Common.{ap, sym, subst, arith}
use Rattle.std.specs.Prelude.{slice_index}
use Rattle.std.proofs.Math.Nat.{mul-zero, mul-le-mul_left}
use Rattle.std.proofs.lemmas.List.{length-map}
use Rattle.number_laws.specs.Sums.{sum_below}
use Rattle.number_laws.proofs.SumLaws.{sum_below-monotone, sum_below-times}
use Rattle.program_form.specs.Program.{ProgramDef, columns, height, cost, entry, limit}
use Rattle.program_form.specs.Duals.{Covers, dual_total, dual_value}
use Rattle.sporadic_model.specs.SetDef.{SetDef}
use Rattle.blocking_columns.specs.ColumnDef.{ColumnDef}
use Rattle.fragments.specs.Constraints.{ConstraintDef, rows_there}
use Rattle.program_laws.specs.Programs.{program_with, cost_of}
use Rattle.clock_laws.specs.Cycles.{in_cycles, times_each}
use Rattle.clock_laws.proofs.Scaled.{quotient_scaled, whole_scaled, each_at}
use Rattle.clock_laws.proofs.Sets.{length_in}
use Rattle.clock_laws.proofs.Jobs.{fine}
use Rattle.clock_laws.proofs.Rescaled.{AreRescaled, those_there, times_at, as_many, entries_at, limits_at}

pub record IsRescaled (k : ℕ) (p q : ProgramDef) : Type 0 where
  pub columns_same : columns q ≡ columns p
  pub height_same : height q ≡ height p
  pub times : ℕ → ℕ
  pub costs : (c : ℕ) → cost q c ≡ k * cost p c
  pub entries : (r c : ℕ) → entry q r c * times r ≡ k * entry p r c
  pub limits : (r : ℕ) → limit q r * times r ≤ k * limit p r

-- The multipliers in cycles.
abbrev pub fine_dual : {k : ℕ} {p q : ProgramDef} → IsRescaled k p q → (ℕ → ℕ) → ℕ → ℕ
fine_dual s num r = num r * s.times r

later : (a b c d e : ℕ) → c * b ≡ d * e → a * b * c ≡ d * (a * e)
later a b c d e same = let scaled : a * (c * b) ≡ a * (d * e) = ap (λ z. a * z) same in omega (arith, scaled)

pub covers_rescaled : (k : ℕ) (p q : ProgramDef) (s : IsRescaled k p q) (den : ℕ) (num : ℕ → ℕ) → Covers p den num
    → Covers q den (fine_dual s num)
covers_rescaled k p q s den num covers = record {
  positive = covers.positive;
  covered = λ c l.
      let less : den * cost p c ≤ sum_below (height p) (λ r. num r * entry p r c) =
      covers.covered c (omega (arith, s.columns_same)) in
      let more : k * (den * cost p c) ≤ k * sum_below (height p) (λ r. num r * entry p r c) = mul-le-mul_left k less in
      let sums : sum_below (height q) (λ r. num r * s.times r * entry q r c) ≡ k * sum_below (height p) (λ r. num r * entry p r c) =
      (λ j. sum_below (s.height_same j) (λ r. later (num r) (s.times r) (entry q r c) k (entry p r c) (s.entries r c) j))
      ∙ sum_below-times (height p) k (λ r. num r * entry p r c) in
      let worth : den * cost q c ≡ k * (den * cost p c) = scaled_worth den (cost q c) (cost p c) (s.costs c) in
      omega (arith, more, sums, worth);
} where
  scaled_worth : (a b c : ℕ) → b ≡ k * c → a * b ≡ k * (a * c)
  scaled_worth a b c same = let scaled : a * b ≡ a * (k * c) = ap (λ z. a * z) same in omega (arith, scaled)

pub total_rescaled : (k : ℕ) (p q : ProgramDef) (s : IsRescaled k p q) (num : ℕ → ℕ) → dual_total q (fine_dual s num) ≤ k * dual_total p num
total_rescaled k p q s num =
    let same : dual_total q (fine_dual s num) ≡ sum_below (height p) (λ r. num r * s.times r * limit q r) =
    λ j. sum_below (s.height_same j) (λ r. num r * s.times r * limit q r) in
    let most : sum_below (height p) (λ r. num r * s.times r * limit q r) ≤ sum_below (height p) (λ r. k * (num r * limit p r)) =
    sum_below-monotone (height p) (λ r. num r * s.times r * limit q r) (λ r. k * (num r * limit p r)) (λ r l. each r) in
    omega (arith, same, most, sum_below-times (height p) k (λ r. num r * limit p r)) where
      each : (r : ℕ) → num r * s.times r * limit q r ≤ k * (num r * limit p r)
      each r = let more : num r * (limit q r * s.times r) ≤ num r * (k * limit p r) = mul-le-mul_left (num r) (s.limits r) in omega (arith, more)

-- The value in cycles is less than k times the value in ticks and k more,
pub value_rescaled : (k : ℕ) (p q : ProgramDef) (s : IsRescaled k p q) (den : ℕ) (num : ℕ → ℕ) → 0 < k → 0 < den
    → dual_value q den (fine_dual s num) ≤ k * dual_value p den num + (k - 1)
value_rescaled k p q s den num some positive =
    quotient_scaled k (dual_total p num) (dual_total q (fine_dual s num)) den some positive (total_rescaled k p q s num)

-- and at most k times the value where that is whole.
pub whole_rescaled : (k : ℕ) (p q : ProgramDef) (s : IsRescaled k p q) (den : ℕ) (num : ℕ → ℕ) → 0 < den → dual_total p num % den ≡ 0
    → dual_value q den (fine_dual s num) ≤ k * dual_value p den num
whole_rescaled k p q s den num positive whole =
    whole_scaled k (dual_total p num) (dual_total q (fine_dual s num)) den positive whole (total_rescaled k p q s num)

worth_at : (k : ℕ) (set : SetDef) (columns : List ColumnDef) (c : ℕ)
    → slice_index (map (cost_of (in_cycles k set)) columns) c ≡ k * slice_index (map (cost_of set) columns) c
worth_at k set [] c = sym (mul-zero k)
worth_at k set (d ∷ columns) zero = length_in k set d.task d.resource
worth_at k set (d ∷ columns) (suc c) = worth_at k set columns c

-- Programs over the same columns and rescaled rows are rescaled.
over_same : (k : ℕ) (set : SetDef) (bounds : List ℕ) (columns : List ColumnDef) (xs ys : List ConstraintDef) → 0 < k
    → AreRescaled k (slice_index bounds) xs ys
    → IsRescaled k (program_with set columns xs bounds) (program_with (in_cycles k set) columns ys (times_each k bounds))
over_same k set bounds columns xs ys some given = record {
  columns_same = length-map columns (cost_of (in_cycles k set)) ∙ sym (length-map columns (cost_of set));
  height_same = length-map (rows_there columns ys) (λ row. map row.coefficient columns)
      ∙ (as_many k (slice_index bounds) (rows_there columns xs) (rows_there columns ys) rows
      ∙ sym (length-map (rows_there columns xs) (λ row. map row.coefficient columns)));
  times = times_at k (slice_index bounds) (rows_there columns xs) (rows_there columns ys) rows;
  costs = worth_at k set columns;
  entries = entries_at k (slice_index bounds) columns (rows_there columns xs) (rows_there columns ys) rows;
  limits = λ r. subst (λ f. slice_index (map (λ row. row.limit f) (rows_there columns ys)) r
      * times_at k (slice_index bounds) (rows_there columns xs) (rows_there columns ys) rows r
      ≤ k * slice_index (map (λ row. row.limit (slice_index bounds)) (rows_there columns xs)) r) at_each
      (limits_at k (slice_index bounds) (rows_there columns xs) (rows_there columns ys) rows r);
} where
  rows : AreRescaled k (slice_index bounds) (rows_there columns xs) (rows_there columns ys)
  rows = those_there k (slice_index bounds) columns xs ys some given

  at_each : fine k (slice_index bounds) ≡ slice_index (times_each k bounds)
  at_each = sym (λ j x. each_at k bounds x j)

-- And if the columns are given in another way.
pub programs_rescaled : (k : ℕ) (set : SetDef) (bounds : List ℕ) (columns others : List ColumnDef) (xs ys : List ConstraintDef) → 0 < k
    → others ≡ columns → AreRescaled k (slice_index bounds) xs ys
    → IsRescaled k (program_with set columns xs bounds) (program_with (in_cycles k set) others ys (times_each k bounds))
programs_rescaled k set bounds columns others xs ys some same rows =
    subst (λ cs. IsRescaled k (program_with set columns xs bounds) (program_with (in_cycles k set) cs ys (times_each k bounds))) (sym same)
    (over_same k set bounds columns xs ys some rows)
