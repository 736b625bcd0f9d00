-- The parts of the first table, and the table that they are.
use Rattle.std.proofs.Common.{◌≡◌, ◌≢◌, ◌⊎◌, inl, inr, ℕ, ◌<◌, ◌≤◌, ◌^◌, List, [], ◌∷◌, ◌++◌, length}
use Rattle.std.proofs.Common.{slice_index, slice_index_or, ℤ, pos}
use Rattle.std.proofs.Common.{refl, sym, ◌∙◌, ap, arith}
use Rattle.std.proofs.lemmas.Bool.{cases_eq, cases_lt}
use Rattle.std.proofs.lemmas.List.{get_or_past}
use Rattle.std.proofs.lemmas.List.FromFn.{length-map-range_with_len}
use Rattle.fraction128.specs.Fraction.{over}
use Rattle.program_form.specs.Program.{ProgramDef, IsProgram, columns, height, row, entry, limit}
use Rattle.program_form.specs.SparseRows.{number_at, full_row, coefficient_at, AreCoefficients}
use Rattle.program_form.specs.declared.sparse_rows.Coefficient.{Coefficient}
use Rattle.program_form.proofs.Coefficients.{number_push_other, number_listed, number_past, full_row_at}
use Rattle.whole_rows.specs.Rows.{coefficient_row}
use Rattle.whole_rows.proofs.Coefficients.{number_in}
use Rattle.whole_runs.specs.Starts.{IsFirstRow}

-- a number that isn't zero with one coefficient more was so before, or the coefficient is of its column
pub number_or_last : (cs : List Coefficient) (c : Coefficient) (v : ℕ) → number_at (cs ++ c ∷ []) v ≢ 0
    → (number_at cs v ≢ 0) ⊎ (c.column ≡ v)
number_or_last cs c v some = elim (cases_eq c.column v) [
  | inl here ↦ inr here
  | inr away ↦ inl (λ none. some (number_push_other cs c v away ∙ none))
]

-- the coefficients of a row are its numbers
pub number_of_row : (p : ProgramDef) (r : ℕ) (cs : List Coefficient) (v : ℕ) → IsProgram p → r < height p → AreCoefficients (columns p) cs
    → full_row (columns p) cs ≡ row p r → number_at cs v ≡ entry p r v
number_of_row p r cs v is l h full = elim (cases_lt v (columns p)) [
  | inl within ↦ sym (full_row_at (columns p) cs v within) ∙ ap (λ (xs : List ℕ). slice_index xs v) full
  | inr past ↦
      number_past (columns p) cs v h past
      ∙ sym (get_or_past (row p r) v 0 (omega (arith, is.lengths.entry_each r l, past)))
]

-- and so each is below 2^63
pub coefficients_small : (p : ProgramDef) (r : ℕ) (cs : List Coefficient) → IsProgram p → r < height p → AreCoefficients (columns p) cs
    → full_row (columns p) cs ≡ row p r → (k : ℕ) → k < length cs → (coefficient_at cs k).number < 2 ^ 63
coefficients_small p r cs is l h full k lk =
    let v = (coefficient_at cs k).column in
    let own : (coefficient_at cs k).number ≡ entry p r v
    = sym (number_listed (columns p) cs k h lk) ∙ number_of_row p r cs v is l h full in
    let small : entry p r v ≤ 9223372036854775807 = is.small.entries r v in
    omega (arith, own, small)

-- numbers over 1 that are those of a row of the program
pub first_row_is : (p : ProgramDef) (r : ℕ) (cs : List Coefficient) (nums : List ℤ) (bound : ℤ) → IsProgram p → r < height p
    → AreCoefficients (columns p) cs → full_row (columns p) cs ≡ row p r → length nums ≡ columns p
    → ((v : ℕ) → slice_index_or nums v (pos 0) ≡ pos (number_at cs v)) → bound ≡ pos (limit p r)
    → IsFirstRow p r (record { nums = nums; limit = bound; den = pos 1 })
first_row_is p r cs nums bound is l h full long each limit_is = record {
  as_many = long;
  cells = λ v. ap (λ z. over z (pos 1)) (each v ∙ ap pos (number_of_row p r cs v is l h full));
  limit = ap (λ z. over z (pos 1)) limit_is;
}

-- the row of its coefficients
pub coefficient_row_is : (p : ProgramDef) (r : ℕ) (cs : List Coefficient) → IsProgram p → r < height p → AreCoefficients (columns p) cs
    → full_row (columns p) cs ≡ row p r → IsFirstRow p r (coefficient_row (columns p) cs (limit p r))
coefficient_row_is p r cs is l h full =
    first_row_is p r cs (coefficient_row (columns p) cs (limit p r)).nums (pos (limit p r)) is l h full
    (length-map-range_with_len (λ v. pos (number_at cs v)) 0 (columns p)) (λ v. number_in (columns p) cs (limit p r) v h) refl
