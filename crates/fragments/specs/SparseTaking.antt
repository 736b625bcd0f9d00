-- Rows that are kept by their nonzero coefficients: what they hold once they have taken others, and the laws of that.
use Rattle.std.proofs.Common.{◌≡◌, ℕ, ◌<◌, ◌^◌, false, List, [], ◌∷◌, ◌++◌, length}
use Rattle.program_form.specs.SparseRows.{SparseRowsDef, AreListed, sparse_rows_seen}
use Rattle.blocking_columns.specs.ColumnDef.{ColumnDef}
use Rattle.fragments.specs.Constraints.{ConstraintDef, holds_some, with_rows}
use Rattle.fragments.specs.Taking.{no_rows_more, row_not_there, rows_behind}

-- Has b the rows of a, then these, with the coefficients listed in the same way as in a?
pub record HasSparseBehind (a : SparseRowsDef) (cs : List ColumnDef) (rows : List ConstraintDef) (bounds : List ℕ) (b : SparseRowsDef) : Type 0 where
  pub listed : AreListed (length cs) a.rows → AreListed (length cs) b.rows
  pub seen : sparse_rows_seen (length cs) b ≡ with_rows (sparse_rows_seen (length cs) a) cs rows bounds

-- It has, if there are as few columns as in a program.
abbrev pub takes_sparse : SparseRowsDef → List ColumnDef → List ConstraintDef → List ℕ → SparseRowsDef → Type 0
takes_sparse a cs rows bounds b = length cs < 2 ^ 32 → HasSparseBehind a cs rows bounds b

-- Taking no rows changes nothing.
pub no_sparse_more : (t : SparseRowsDef) (cs : List ColumnDef) (bounds : List ℕ) → takes_sparse t cs [] bounds t
no_sparse_more t cs bounds few = record {
  listed = λ h. h;
  seen = no_rows_more (sparse_rows_seen (length cs) t) cs bounds;
}

-- A row in which no coefficient is above zero changes nothing.
pub sparse_not_there : (t : SparseRowsDef) (cs : List ColumnDef) (row : ConstraintDef) (bounds : List ℕ) → holds_some cs row ≡ false
    → takes_sparse t cs (row ∷ []) bounds t
sparse_not_there t cs row bounds fails few = record {
  listed = λ h. h;
  seen = row_not_there (sparse_rows_seen (length cs) t) cs row bounds fails;
}

-- Taking one list of rows, then a second, is taking both lists in that order.
pub sparse_behind : (a b c : SparseRowsDef) (cs : List ColumnDef) (xs ys : List ConstraintDef) (bounds : List ℕ)
    → takes_sparse a cs xs bounds b → takes_sparse b cs ys bounds c → takes_sparse a cs (xs ++ ys) bounds c
sparse_behind a b c cs xs ys bounds first second few =
    let one : HasSparseBehind a cs xs bounds b = first few in
    let two : HasSparseBehind b cs ys bounds c = second few in
    record {
      listed = λ h. two.listed (one.listed h);
      seen = rows_behind (sparse_rows_seen (length cs) a) (sparse_rows_seen (length cs) b) (sparse_rows_seen (length cs) c) cs xs ys bounds
          one.seen two.seen;
    }
