-- Nonzero coefficients, pushed one behind another, and the full row that they make.
use Rattle.std.proofs.Common.{◌≡◌, inl, inr, ℕ, ◌+◌, ◌≤◌, List, [], ◌∷◌, ◌++◌, map, length, slice_index, slice_index_or}
use Rattle.std.proofs.Common.{true, refl, sym, ◌∙◌, ap, arith}
use Rattle.std.proofs.lemmas.Bool.{cases_eq, cases_lt, eq-eqb, ne_eqb}
use Rattle.std.proofs.lemmas.List.{length-map, map_push, length_push, get_or_at, get_or_append_left}
use Rattle.std.proofs.lemmas.Simd.{map-map}
use Rattle.program_form.specs.RowBlock.{RowBlockDef}
use Rattle.program_form.specs.SparseRows.{SparseRowsDef, full_row, AreCoefficients, AreListed, sparse_rows_seen}
use Rattle.program_form.specs.declared.sparse_rows.Coefficient.{Coefficient}
use Rattle.program_form.proofs.Coefficients.{number_past, number_push, number_push_other, coefficients_up}
use Rattle.program_form.proofs.Coefficients.{coefficients_push, length_full_row, full_row_at}
use Rattle.blocking_columns.specs.declared.columns.Fragment.{Fragment}
use Rattle.blocking_columns.specs.ColumnDef.{column_seen}
use Rattle.fragments.specs.Constraints.{ConstraintDef, holds_some, pushed_row}
use Rattle.fragments.specs.NonzeroCoefficients.{with_nonzero, AreNonzeroOf, HasRowBegun}
use Rattle.fragments.specs.SparseTaking.{HasSparseBehind}
use Rattle.fragments.specs.RowStretch.{IsStretch}
use Rattle.fragments.proofs.Rows.{row_there}
use Rattle.fragments.proofs.Zeros.{list_is_map}

-- The coefficient of one column more.
nonzero_more : (row : ConstraintDef) (columns : List Fragment) (n : ℕ) (cs : List Coefficient) (number : ℕ)
    → ((d : Fragment) → number ≡ row.coefficient (column_seen (slice_index_or columns n d))) → AreNonzeroOf row columns n cs
    → AreNonzeroOf row columns (n + 1) (with_nonzero cs n number)
nonzero_more row columns n cs number is h = elim (cases_eq number 0) [
  | inl zero ↦
      rw (eq-eqb number 0 zero)
      (record {
        listed = coefficients_up n (n + 1) cs (omega arith) h.listed;
        told = λ k d l. elim (cases_eq k n) [
          | inl here ↦ rw (here, ← is d, zero) (number_past n cs n h.listed (omega arith))
          | inr other ↦ h.told k d (omega arith)
        ];
      })
  | inr some ↦
      let c : Coefficient = record { column = n; number = number } in
      rw (ne_eqb number 0 some)
      (record {
        listed = coefficients_push (n + 1) cs c h.listed (omega arith) (omega arith);
        told = λ k d l. elim (cases_eq k n) [
          | inl here ↦ rw (here, ← is d) (number_push cs c h.listed)
          | inr other ↦ number_push_other cs c k (λ q. other (sym q)) ∙ h.told k d (omega arith)
        ];
      })
]

-- The columns behind a stretch have no coefficient.
nonzero_end : (row : ConstraintDef) (columns : List Fragment) (a b n : ℕ) (cs : List Coefficient) → IsStretch row columns a b
    → b ≤ n → n ≤ length columns → AreNonzeroOf row columns n cs → AreNonzeroOf row columns (length columns) cs
nonzero_end row columns a b n cs h order within done = record {
  listed = coefficients_up n (length columns) cs within done.listed;
  told = λ k d l. elim (cases_lt k n) [
    | inl first ↦ done.told k d first
    | inr second ↦ number_past n cs k done.listed (omega arith) ∙ sym (h.behind k d (omega arith) l)
  ];
}

-- The full row of all its nonzero coefficients.
row_from_nonzero : (row : ConstraintDef) (columns : List Fragment) (cs : List Coefficient) → AreNonzeroOf row columns (length columns) cs
    → full_row (length columns) cs ≡ map row.coefficient (map column_seen columns)
row_from_nonzero row columns cs h =
    let n = length columns in
    list_is_map (λ x. row.coefficient (column_seen x)) (full_row n cs) columns (length_full_row n cs)
    (λ k d l. full_row_at n cs k l ∙ h.told k d l)
    ∙ sym (map-map row.coefficient column_seen columns)

-- A row whose coefficients are listed, behind others of which this is true.
listed_push : (n : ℕ) (rows : List (List Coefficient)) (row : List Coefficient) → AreListed n rows → AreCoefficients n row
    → AreListed n (rows ++ row ∷ [])
listed_push n rows row h here r l = elim (cases_lt r (length rows)) [
  | inl earlier ↦ rw (get_or_append_left rows (row ∷ []) [] r earlier) (h r earlier)
  | inr last ↦
      let at : r ≡ length rows = omega (arith, l, last, length_push rows row) in
      rw (at, get_or_at rows row [] [] (length rows) refl) here
]

-- A nonzero row, taken by its nonzero coefficients.
sparse_row_there : (a b : SparseRowsDef) (row : ConstraintDef) (columns : List Fragment) (list : List Coefficient) (bounds : List ℕ)
    → b.rows ≡ a.rows ++ list ∷ [] → b.limits ≡ a.limits ++ row.limit (slice_index bounds) ∷ []
    → holds_some (map column_seen columns) row ≡ true → AreNonzeroOf row columns (length columns) list
    → HasSparseBehind a (map column_seen columns) (row ∷ []) bounds b
sparse_row_there a b row columns list bounds rows_are limits_are there h =
    let cs = map column_seen columns in
    let n = length cs in
    let same : n ≡ length columns = length-map columns column_seen in
    let full : full_row n list ≡ map row.coefficient cs =
    ap (λ (m : ℕ). full_row m list) same ∙ row_from_nonzero row columns list h in
    let before = map (full_row n) a.rows in
    let rows : map (full_row n) b.rows ≡ before ++ map row.coefficient cs ∷ [] =
    ap (λ (xs : List (List Coefficient)). map (full_row n) xs) rows_are
    ∙ (map_push (full_row n) a.rows list ∙ ap (λ (x : List ℕ). before ++ x ∷ []) full) in
    let pushed : sparse_rows_seen n b ≡ pushed_row (sparse_rows_seen n a) (map row.coefficient cs) (row.limit (slice_index bounds)) =
    ap (λ (x : List (List ℕ)). with_lists x b.limits) rows
    ∙ ap (λ (x : List ℕ). with_lists (before ++ map row.coefficient cs ∷ []) x) limits_are in
    record {
      listed = λ g. rw (same, rows_are) (listed_push (length columns) a.rows list (rw same at g) h.listed);
      seen = pushed ∙ sym (row_there (sparse_rows_seen n a) cs row bounds there);
    }
  where
    with_lists : List (List ℕ) → List ℕ → RowBlockDef
    with_lists rows limits = record { rows = rows; limits = limits }

-- One more column of a row that is begun.
pub row_continued : (a b c : SparseRowsDef) (row : ConstraintDef) (columns : List Fragment) (n limit number : ℕ)
    → ((d : Fragment) → number ≡ row.coefficient (column_seen (slice_index_or columns n d))) → HasRowBegun a row columns n limit b
    → ((before : List (List Coefficient)) (last : List Coefficient) → b.rows ≡ before ++ last ∷ []
    → c.rows ≡ before ++ with_nonzero last n number ∷ [])
    → c.limits ≡ b.limits → HasRowBegun a row columns (n + 1) limit c
row_continued a b c row columns n limit number is h added kept = record {
  list = with_nonzero h.list n number;
  nonzero = nonzero_more row columns n h.list number is h.nonzero;
  rows = added a.rows h.list h.rows;
  limits = kept ∙ h.limits;
}

-- The end of the row's stretch, for a nonzero row.
pub row_ended : (a b : SparseRowsDef) (row : ConstraintDef) (columns : List Fragment) (from to n limit : ℕ) (bounds : List ℕ)
    → IsStretch row columns from to → to ≤ n → n ≤ length columns → limit ≡ row.limit (slice_index bounds)
    → holds_some (map column_seen columns) row ≡ true → HasRowBegun a row columns n limit b
    → HasSparseBehind a (map column_seen columns) (row ∷ []) bounds b
row_ended a b row columns from to n limit bounds h past within is there done =
    let limits : b.limits ≡ a.limits ++ row.limit (slice_index bounds) ∷ [] = done.limits ∙ ap (λ (x : ℕ). a.limits ++ x ∷ []) is in
    sparse_row_there a b row columns done.list bounds done.rows limits there
    (nonzero_end row columns from to n done.list h past within done.nonzero)
