-- Lists with one entry more: one behind the others, or a number written at its place.
use Rattle.std.proofs.Common.{◌≡◌, ℕ, ◌+◌, ◌<◌, List, [], ◌∷◌, ◌++◌, length, subst, sym, arith, inl, inr}
use Rattle.std.specs.Prelude.{slice_index, slice_index_or, slice_set}
use Rattle.std.proofs.lemmas.Bool.{cases_lt, cases_eq}
use Rattle.std.proofs.lemmas.List.{get_or_append_left, get_or_push, get_or-set_other}
use Rattle.std.proofs.lemmas.Grind.{get_or-set_at}

-- What is true of each of them, and of the one behind, is true of each.
pub one_more : {A : Type 0} (P : ℕ → A → Type 0) (n : ℕ) (xs : List A) (x d : A) → length xs ≡ n
    → ((k : ℕ) → k < n → P k (slice_index_or xs k d)) → P n x → (k : ℕ) → k < n + 1 → P k (slice_index_or (xs ++ x ∷ []) k d)
one_more P n xs x d len each last k l = elim (cases_lt k n) [
  | inl before ↦ subst (P k) (sym (get_or_append_left xs (x ∷ []) d k (omega (arith, before, len)))) (each k before)
  | inr here ↦
      let e : n ≡ k = omega (arith, here, l) in
      subst (λ (m : ℕ). P m (slice_index_or (xs ++ x ∷ []) m d)) e (subst (P n) (sym (get_or_push xs x d n len)) last)
]

-- What is true of each number below the n-th, and of the one written there, is true of each up to it.
pub one_written : (P : ℕ → ℕ → Type 0) (n v : ℕ) (xs : List ℕ) → n < length xs → ((k : ℕ) → k < n → P k (slice_index xs k)) → P n v
    → (k : ℕ) → k < n + 1 → P k (slice_index (slice_set xs n v) k)
one_written P n v xs within each last k l = elim (cases_eq k n) [
  | inl same ↦ subst (P k) (sym (get_or-set_at xs n k v 0 same within)) (subst (λ (m : ℕ). P m v) (sym same) last)
  | inr other ↦ subst (P k) (sym (get_or-set_other xs n k v 0 other)) (each k (omega (arith, l, other)))
]
