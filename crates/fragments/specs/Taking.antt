-- Rows that are taken one after another: the laws that a taker of rows owes. They are shown here for blocks of rows, and for the limits
-- alone.
use Rattle.std.proofs.Common.{◌≡◌, ℕ, false, List, [], ◌∷◌, ◌++◌, refl, sym, ap, ◌∙◌, append_assoc}
use Rattle.std.proofs.lemmas.List.{map-append, append-nil}
use Rattle.std.proofs.lemmas.List.Elements.{filter-append}
use Rattle.program_form.specs.RowBlock.{RowBlockDef}
use Rattle.blocking_columns.specs.ColumnDef.{ColumnDef}
use Rattle.fragments.specs.Constraints.{ConstraintDef, holds_some, with_rows, limits_of}

-- Taking one list of rows, then a second, is taking both lists in that order.
with_more_rows : (b : RowBlockDef) (cs : List ColumnDef) (xs ys : List ConstraintDef) (bounds : List ℕ)
    → with_rows (with_rows b cs xs bounds) cs ys bounds ≡ with_rows b cs (xs ++ ys) bounds
with_more_rows b cs xs ys bounds = rw (filter-append, map-append, map-append, append_assoc, append_assoc) refl

more_limits : (ls : List ℕ) (cs : List ColumnDef) (xs ys : List ConstraintDef) (bounds : List ℕ)
    → (ls ++ limits_of cs xs bounds) ++ limits_of cs ys bounds ≡ ls ++ limits_of cs (xs ++ ys) bounds
more_limits ls cs xs ys bounds = rw (filter-append, map-append, append_assoc) refl

pub rows_behind : (a b c : RowBlockDef) (cs : List ColumnDef) (xs ys : List ConstraintDef) (bounds : List ℕ)
    → b ≡ with_rows a cs xs bounds → c ≡ with_rows b cs ys bounds → c ≡ with_rows a cs (xs ++ ys) bounds
rows_behind a b c cs xs ys bounds first second =
    second ∙ (ap (λ (k : RowBlockDef). with_rows k cs ys bounds) first ∙ with_more_rows a cs xs ys bounds)

pub limits_behind : (a b c : List ℕ) (cs : List ColumnDef) (xs ys : List ConstraintDef) (bounds : List ℕ)
    → b ≡ a ++ limits_of cs xs bounds → c ≡ b ++ limits_of cs ys bounds → c ≡ a ++ limits_of cs (xs ++ ys) bounds
limits_behind a b c cs xs ys bounds first second =
    second ∙ (ap (λ (k : List ℕ). k ++ limits_of cs ys bounds) first ∙ more_limits a cs xs ys bounds)

-- Taking no rows changes nothing.
pub no_rows_more : (b : RowBlockDef) (cs : List ColumnDef) (bounds : List ℕ) → b ≡ with_rows b cs [] bounds
no_rows_more b cs bounds = sym (rw (append-nil, append-nil) refl)

pub no_limits_more : (ls : List ℕ) (cs : List ColumnDef) (bounds : List ℕ) → ls ≡ ls ++ limits_of cs [] bounds
no_limits_more ls cs bounds = sym (rw append-nil refl)

-- A row in which no coefficient is above zero changes nothing.
pub row_not_there : (b : RowBlockDef) (cs : List ColumnDef) (row : ConstraintDef) (bounds : List ℕ)
    → holds_some cs row ≡ false → b ≡ with_rows b cs (row ∷ []) bounds
row_not_there b cs row bounds none = sym (rw (none, append-nil, append-nil) refl)

pub limit_not_there : (ls : List ℕ) (cs : List ColumnDef) (row : ConstraintDef) (bounds : List ℕ)
    → holds_some cs row ≡ false → ls ≡ ls ++ limits_of cs (row ∷ []) bounds
limit_not_there ls cs row bounds none = sym (rw (none, append-nil) refl)
