-- The worked program of seven rows: its point, its dual, its optimum.
use Rattle.std.proofs.Common.{ℕ, ◌*◌, [], ◌∷◌, slice_index, refl, nat_le, lit<}
use Rattle.std.proofs.lemmas.Bool.{leb-true}
use Rattle.number_laws.specs.Sums.{sum_below}
use Rattle.number_laws.proofs.TestLaws.{all_below-each}
use Rattle.program_form.specs.Program.{IsProgram, cost, entry, limit}
use Rattle.program_form.specs.Points.{IsScaledPoint, IsGreatestReached}
use Rattle.program_form.specs.Optimum.{IsOptimum}
use Rattle.program_form.specs.Duals.{Covers, IsOptimalDual}
use Rattle.program_form.specs.SevenRows.{seven_rows, seven_rows_dual}
use Rattle.program_form.proofs.Accepted.{is_program}
use Rattle.program_form.proofs.Duality.{equal_values_optimum, optimum_reached}

pub is_accepted : IsProgram seven_rows
is_accepted = is_program seven_rows (lit< tt) (lit< tt) refl

-- the columns are 2/3, 1 and 1/3
abbrev best_point : ℕ → ℕ
best_point c = slice_index (2 ∷ 3 ∷ 1 ∷ []) c

best_is_point : IsScaledPoint seven_rows 3 best_point
best_is_point = record {
  positive = lit< tt;
  kept = λ r l. leb-true (sum_below 3 (λ c. entry seven_rows r c * best_point c)) (3 * limit seven_rows r)
      (all_below-each 7 (λ r. nat_le (sum_below 3 (λ c. entry seven_rows r c * best_point c)) (3 * limit seven_rows r)) refl r l);
}

best_covers : Covers seven_rows 3 (λ r. slice_index seven_rows_dual.num r)
best_covers = record {
  positive = lit< tt;
  covered = λ c l. leb-true (3 * cost seven_rows c) (sum_below 7 (λ r. slice_index seven_rows_dual.num r * entry seven_rows r c))
      (all_below-each 3
      (λ c.
      nat_le (3 * cost seven_rows c) (sum_below 7 (λ r. slice_index seven_rows_dual.num r * entry seven_rows r c))) refl
      c l);
}

pub best_optimum : IsOptimum seven_rows 14 3
best_optimum = equal_values_optimum seven_rows 3 best_point 3 (λ r. slice_index seven_rows_dual.num r) best_is_point best_covers refl

pub best_dual : IsOptimalDual seven_rows seven_rows_dual
best_dual = record { feasible = record { number_each = refl; covers = best_covers }; optimum = best_optimum }

pub greatest_is_four : IsGreatestReached seven_rows 4
greatest_is_four = optimum_reached seven_rows 14 3 best_optimum
