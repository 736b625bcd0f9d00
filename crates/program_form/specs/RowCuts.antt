-- How one list holds the coefficients of all rows, one row behind another.
use Rattle.std.specs.Prelude.{ℕ, ◌+◌, ◌-◌, ◌<◌, ◌≤◌, List, map, length, take, drop, slice_index, slice_index_or}
use Rattle.std.specs.List.{range_with_len}
use Rattle.program_form.specs.declared.sparse_rows.Coefficient.{Coefficient}

-- Where does row r end, in a list of so many coefficients? It ends where the next row begins, and the last row ends with the list.
abbrev pub end_of : ℕ → List ℕ → ℕ → ℕ
end_of all starts r = slice_index_or starts (r + 1) all

-- Which coefficients has row r?
abbrev pub row_cut : List Coefficient → List ℕ → ℕ → List Coefficient
row_cut cs starts r = take (end_of (length cs) starts r - slice_index starts r) (drop (slice_index starts r) cs)

-- The coefficients of each row.
abbrev pub rows_cut : List Coefficient → List ℕ → List (List Coefficient)
rows_cut cs starts = map (row_cut cs starts) (range_with_len 0 (length starts))

-- Does no row begin behind the next one, or behind the end of the list?
pub record AreStarts (all : ℕ) (starts : List ℕ) : Type 0 where
  pub rise : (r : ℕ) → r < length starts → slice_index starts r ≤ end_of all starts r
  pub within : (r : ℕ) → end_of all starts r ≤ all
