-- Columns with coefficient zero, and lists that are given by what is at each place.
use Rattle.std.proofs.Common.{◌≡◌, ℕ, suc, ◌<◌, ◌≤◌, false, List, [], ◌∷◌, map, length, nat_lt, refl, arith, inl, inr}
use Rattle.std.specs.Prelude.{slice_index, slice_index_or}
use Rattle.std.proofs.Math.ListN.{get_or}
use Rattle.std.proofs.lemmas.Bool.{cases_lt}
use Rattle.std.proofs.lemmas.List.Folds.{list_any_none}
use Rattle.std.specs.List.{AllWithin, list_any}
use Rattle.blocking_columns.specs.declared.columns.Fragment.{Fragment}
use Rattle.blocking_columns.specs.ColumnDef.{column_seen}
use Rattle.fragments.specs.Constraints.{ConstraintDef}

-- If all coefficients before p and from b on are zero, and p isn't before b, then none is above zero.
pub none_above : (row : ConstraintDef) (cs : List Fragment) (b p : ℕ) → b ≤ p
    → AllWithin (λ c. row.coefficient (column_seen c) ≡ 0) cs 0 p → AllWithin (λ c. row.coefficient (column_seen c) ≡ 0) cs b (length cs)
    → list_any (λ c. nat_lt 0 (row.coefficient (column_seen c))) cs ≡ false
none_above row cs b p order before behind =
    list_any_none (λ c. nat_lt 0 (row.coefficient (column_seen c))) cs (λ k d l. elim (cases_lt k p) [
      | inl first ↦ rw (before k d (omega arith) first) refl
      | inr second ↦ rw (behind k d (omega arith) l) refl
    ])

-- A list that has f of an element's number at each place is the list of f of all elements.
pub list_is_map : {X : Type 0} (f : X → ℕ) (xs : List ℕ) (cs : List X) → length xs ≡ length cs
    → ((k : ℕ) (d : X) → k < length cs → slice_index xs k ≡ f (slice_index_or cs k d)) → xs ≡ map f cs
list_is_map f [] [] len same = refl
list_is_map f [] (c ∷ cs) len same = absurd (omega (arith, len))
list_is_map f (x ∷ xs) [] len same = absurd (omega (arith, len))
list_is_map f (x ∷ xs) (c ∷ cs) len same =
    let first : x ≡ f c = same 0 c (omega arith) in
    rw (first, list_is_map f xs cs (omega (arith, len)) (λ k d l. same (suc k) d (omega (arith, l)))) refl
