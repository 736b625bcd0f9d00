-- Lists of the coefficients in the rows of a program.
use Rattle.std.proofs.Common.{◌≡◌, inl, inr, ℕ, ◌+◌, ◌<◌, ◌≤◌, List, [], ◌∷◌, ◌++◌, map, length, refl, sym, ◌∙◌, ap, arith}
use Rattle.std.proofs.lemmas.Bool.{cases_eq, cases_lt}
use Rattle.std.proofs.lemmas.List.{length-map, get_or-map, ext_get_or, length_push, get_or_at, get_or_append_left}
use Rattle.program_form.specs.Program.{ProgramDef, IsProgram, columns, height, row, entry}
use Rattle.program_form.specs.SparseRows.{full_row, list_at}
use Rattle.program_form.specs.Listings.{ListsRow, ListsRows, ListsUpTo}
use Rattle.program_form.specs.declared.sparse_rows.Coefficient.{Coefficient}
use Rattle.program_form.proofs.Coefficients.{number_past, number_push, number_push_other, coefficients_none, coefficients_up}
use Rattle.program_form.proofs.Coefficients.{coefficients_push, full_row_is}

-- nothing of a row is listed
row_none : (p : ProgramDef) (r : ℕ) → ListsRow p r 0 []
row_none p r = record { listed = coefficients_none 0; numbers = λ v l. absurd (omega arith) }

-- more columns, whose coefficients are zero
row_zeros : (p : ProgramDef) (r m n : ℕ) (cs : List Coefficient) → ListsRow p r m cs → m ≤ n
    → ((v : ℕ) → m ≤ v → v < n → entry p r v ≡ 0) → ListsRow p r n cs
row_zeros p r m n cs h l none = record {
  listed = coefficients_up m n cs l h.listed;
  numbers = λ v lv. elim (cases_lt v m) [
    | inl earlier ↦ h.numbers v earlier
    | inr behind ↦ number_past m cs v h.listed behind ∙ sym (none v behind lv)
  ];
}

-- one more column, whose coefficient isn't
row_more : (p : ProgramDef) (r n number : ℕ) (cs : List Coefficient) → ListsRow p r n cs → number ≡ entry p r n → 0 < number
    → ListsRow p r (n + 1) (cs ++ record { column = n; number = number } ∷ [])
row_more p r n number cs h own above =
    let c : Coefficient = record { column = n; number = number } in
    record {
      listed = coefficients_push (n + 1) cs c h.listed (omega arith) above;
      numbers = λ v lv. elim (cases_eq v n) [
        | inl here ↦ rw here (number_push cs c h.listed ∙ own)
        | inr earlier ↦ number_push_other cs c v (λ q. earlier (sym q)) ∙ h.numbers v (omega arith)
      ];
    }

-- a row of the program from its coefficients
pub row_is_full : (p : ProgramDef) (r : ℕ) (cs : List Coefficient) → IsProgram p → r < height p → ListsRow p r (columns p) cs
    → full_row (columns p) cs ≡ row p r
row_is_full p r cs is l h = full_row_is (columns p) cs (row p r) (is.lengths.entry_each r l) h.numbers

-- and all rows
pub rows_are_full : (p : ProgramDef) (rows : List (List Coefficient)) → IsProgram p → ListsRows p (height p) rows
    → map (full_row (columns p)) rows ≡ p.rows
rows_are_full p rows is h =
    let long : length (map (full_row (columns p)) rows) ≡ height p = length-map rows (full_row (columns p)) ∙ h.row_each in
    ext_get_or [] (map (full_row (columns p)) rows) p.rows long
    (λ r l.
    let within : r < height p = omega (arith, l, long) in
    get_or-map (full_row (columns p)) rows r [] [] (omega (arith, within, h.row_each))
    ∙ row_is_full p r (list_at rows r) is within (h.each r within))

-- one more row
rows_more : (p : ProgramDef) (n : ℕ) (rows : List (List Coefficient)) (row : List Coefficient) → ListsRows p n rows
    → ListsRow p n (columns p) row → ListsRows p (n + 1) (rows ++ row ∷ [])
rows_more p n rows row h here = record {
  row_each = length_push rows row ∙ ap (λ m. m + 1) h.row_each;
  each = λ r l. elim (cases_eq r n) [
    | inl at ↦ rw (at, get_or_at rows row [] [] n h.row_each) here
    | inr other ↦ rw (get_or_append_left rows (row ∷ []) [] r (omega (arith, h.row_each, other, l))) (h.each r (omega arith))
  ];
}

-- A row that is begun after others, none of whose columns was looked at so far.
pub up_to_begun : (p : ProgramDef) (r : ℕ) (before rows : List (List Coefficient)) → ListsRows p r before → rows ≡ before ++ [] ∷ []
    → ListsUpTo p r 0 rows
up_to_begun p r before rows h are = record { before = before; last = []; both = are; whole = h; begun = row_none p r }

-- A row all of whose columns were.
pub up_to_ended : (p : ProgramDef) (r n : ℕ) (rows : List (List Coefficient)) → columns p ≤ n → n ≤ columns p → ListsUpTo p r n rows
    → ListsRows p (r + 1) rows
up_to_ended p r n rows all within h =
    let at : n ≡ columns p = omega (arith, all, within) in
    rw h.both (rows_more p r h.before h.last h.whole (rw at at h.begun))

-- More columns of the last row, whose coefficients are zero.
pub up_to_zeros : (p : ProgramDef) (r m n : ℕ) (rows : List (List Coefficient)) → ListsUpTo p r m rows → m ≤ n
    → ((v : ℕ) → m ≤ v → v < n → entry p r v ≡ 0) → ListsUpTo p r n rows
up_to_zeros p r m n rows h l none = record {
  before = h.before;
  last = h.last;
  both = h.both;
  whole = h.whole;
  begun = row_zeros p r m n h.last h.begun l none;
}

-- One more column of it, whose coefficient is zero,
pub up_to_zero : (p : ProgramDef) (r n number : ℕ) (rows : List (List Coefficient)) → ListsUpTo p r n rows → number ≡ entry p r n
    → number ≡ 0 → ListsUpTo p r (n + 1) rows
up_to_zero p r n number rows h own none = up_to_zeros p r n (n + 1) rows h (omega arith)
    (λ v l lv. let here : v ≡ n = omega (arith, l, lv) in rw here (sym own ∙ none))

-- and one whose coefficient isn't.
pub up_to_more : (p : ProgramDef) (r n number : ℕ) (rows new : List (List Coefficient)) → ListsUpTo p r n rows → number ≡ entry p r n
    → 0 < number
    → ((before : List (List Coefficient)) (last : List Coefficient) → rows ≡ before ++ last ∷ []
    → new ≡ before ++ (last ++ record { column = n; number = number } ∷ []) ∷ [])
    → ListsUpTo p r (n + 1) new
up_to_more p r n number rows new h own above added = record {
  before = h.before;
  last = h.last ++ record { column = n; number = number } ∷ [];
  both = added h.before h.last h.both;
  whole = h.whole;
  begun = row_more p r n number h.last h.begun own above;
}

abbrev pub as_program : List ℕ → List (List ℕ) → List ℕ → ProgramDef
as_program costs rows limits = record { costs = costs; rows = rows; limits = limits }

-- lists that are those of a program are that program
pub lists_are : (p : ProgramDef) (costs limits : List ℕ) (rows : List (List Coefficient)) → IsProgram p
    → costs ≡ p.costs → limits ≡ p.limits → ListsRows p (height p) rows
    → as_program costs (map (full_row (length costs)) rows) limits ≡ p
lists_are p costs limits rows is same_costs same_limits h = rw (same_costs, same_limits, rows_are_full p rows is h) refl
