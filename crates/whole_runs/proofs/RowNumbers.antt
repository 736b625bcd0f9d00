-- What is read of a row, whether an exchange has touched it or not.
use Rattle.std.proofs.Common.{◌≡◌, ℕ, ◌<◌, ◌≤◌, ◌^◌, List, length, slice_index, slice_index_or, sym, ap, ◌∙◌}
use Rattle.std.proofs.Common.{w64, to_z, FitsSigned, pos, arith}
use Rattle.std.specs.Prelude.{unsigned_abs, None}
use Rattle.std.specs.declared.option.Option.{Option}
use Rattle.std.proofs.lemmas.Int.{to_z_pos, fits_signed_from_abs}
use Rattle.std.proofs.lemmas.List.{get_or_read}
use Rattle.program_form.specs.Program.{ProgramDef, IsProgram, columns, row, entry}
use Rattle.program_form.specs.SparseRows.{number_at, full_row}
use Rattle.program_form.specs.declared.sparse_rows.Coefficient.{Coefficient}
use Rattle.program_form.proofs.Coefficients.{full_row_at}
use Rattle.whole_rows.specs.Rows.{RowDef}
use Rattle.whole_runs.specs.States.{row_at}

-- the row that an index reads
pub row_read : (rows : List (Option RowDef)) (i : ℕ) (row : Option RowDef) → i < length rows → row ≡ slice_index_or rows i row
    → row_at rows i ≡ row
row_read rows i row l is = sym (get_or_read rows i row l is None)

-- the number of a program's row is that of its coefficients
pub coefficient_is : (p : ProgramDef) (r : ℕ) (cs : List Coefficient) (v : ℕ) → v < columns p → full_row (columns p) cs ≡ row p r
    → number_at cs v ≡ entry p r v
coefficient_is p r cs v l full = sym (full_row_at (columns p) cs v l) ∙ ap (λ (xs : List ℕ). slice_index xs v) full

pub entry_small : (p : ProgramDef) (r c : ℕ) → IsProgram p → entry p r c < 2 ^ 63
entry_small p r c is = let small : entry p r c ≤ 9223372036854775807 = is.small.entries r c in omega arith

-- below 2^63 a number stays itself
pub signed_is : (n m : ℕ) → n ≡ m → m < 2 ^ 63 → to_z w64 n ≡ pos m
signed_is n m is small = to_z_pos w64 n (omega arith) ∙ ap pos is

pub signed_small : (n m : ℕ) → n ≡ m → m < 2 ^ 63 → unsigned_abs (to_z w64 n) < 2 ^ 63
signed_small n m is small = rw (signed_is n m is small) small

pub signed_fits : (n m : ℕ) → n ≡ m → m < 2 ^ 63 → FitsSigned w64 (pos n)
signed_fits n m is small = fits_signed_from_abs w64 (pos n) (rw is small)
