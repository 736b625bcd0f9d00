-- Which lists are refused as a program, and with which refusal.
use Rattle.std.specs.Prelude.{◌≡◌, ℕ, Bool, ◌==◌, ◌&&◌, not, nat_lt, nat_le, if◌then◌else◌, List, [], ◌∷◌, length}
use Rattle.std.specs.Prelude.{slice_index, slice_index_or, Option, Some, None, Result, Ok, Err, refl}
use Rattle.std.specs.List.{list_all}
use Rattle.number_laws.specs.Tests.{any_below, first_below}
use Rattle.program_form.specs.Program.{ProgramDef, columns, height}
use Rattle.program_form.specs.declared.TheConstants.{MOST_NUMBER}
use Rattle.program_form.specs.declared.program.ProgramRefusal.{ProgramRefusal}
use Rattle.program_form.specs.declared.program.ProgramRefusal.TheVariants.{Length, Uncovered, Large}

-- Is there a limit for each row, and a coefficient of each column in each row?
abbrev pub has_lengths : ProgramDef → Bool
has_lengths p = length p.limits == height p && list_all (λ row. length row == columns p) p.rows

-- Has column c a coefficient above zero in some row?
abbrev pub is_covered : List (List ℕ) → ℕ → Bool
is_covered rows c = any_below (length rows) (λ r. nat_lt 0 (slice_index (slice_index_or rows r []) c))

-- The first of n columns that has none. It is n if each has one.
abbrev pub first_uncovered : ℕ → List (List ℕ) → ℕ
first_uncovered n rows = first_below n (λ c. not (is_covered rows c))

-- Is each number at most the greatest that is allowed?
abbrev pub are_small : List ℕ → Bool
are_small numbers = list_all (λ n. nat_le n MOST_NUMBER) numbers

abbrev pub is_small : ProgramDef → Bool
is_small p = are_small p.costs && list_all are_small p.rows && are_small p.limits

-- The first refusal that is due, if any. The lengths are tried first, then the first column that no row covers, then the sizes of the
-- numbers.
abbrev pub first_refusal : ProgramDef → Option ProgramRefusal
first_refusal p =
    if not (has_lengths p) then Some Length
    else if nat_lt (first_uncovered (columns p) p.rows) (columns p) then Some (Uncovered (first_uncovered (columns p) p.rows))
    else if not (is_small p) then Some Large
    else None

-- Is the answer right for these lists? It is the program of exactly these lists if no refusal is due, and else the first refusal.
abbrev pub Judged : Result ProgramDef ProgramRefusal → ProgramDef → Type 0
Judged (Ok program) p = (first_refusal p ≡ None) × (program ≡ p)
Judged (Err refusal) p = first_refusal p ≡ Some refusal

-- One column and no row: no row covers the column.
pub no_row : first_refusal (record { costs = 1 ∷ []; rows = []; limits = [] }) ≡ Some (Uncovered 0)
no_row = refl

-- A row that is longer than the costs.
pub long_row : first_refusal (record { costs = 1 ∷ []; rows = (1 ∷ 1 ∷ []) ∷ []; limits = 1 ∷ [] }) ≡ Some Length
long_row = refl

-- A cost of 2^63.
pub large_cost : first_refusal (record { costs = 9223372036854775808 ∷ []; rows = (1 ∷ []) ∷ []; limits = 1 ∷ [] }) ≡ Some Large
large_cost = refl
