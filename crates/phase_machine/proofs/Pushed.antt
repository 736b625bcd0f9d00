-- Lists that grow by one at their end.
use Rattle.std.proofs.Common.{◌≡◌, ℕ, suc, ◌<◌, List, [], ◌∷◌, ◌++◌, length, get_or, arith, inl, inr}
use Rattle.std.proofs.lemmas.Bool.{cases_lt}
use Rattle.std.proofs.lemmas.List.{get_or_append_left, get_or_at}

-- What holds of the first n and of one more holds of all of them once it is pushed.
pub one_pushed : {A : Type 0} (P : ℕ → A → Type 0) (l : List A) (a d : A) (n : ℕ) → length l ≡ n
    → ((x : ℕ) → x < n → P x (get_or l x d)) → P n a → (x : ℕ) → x < suc n → P x (get_or (l ++ a ∷ []) x d)
one_pushed P l a d n size rest own x b = elim (cases_lt x n) [
  | inl early ↦ rw (get_or_append_left l (a ∷ []) d x (omega arith)) (rest x early)
  | inr here ↦ let same : x ≡ n = omega arith in rw (same, get_or_at l a [] d n size) own
]
