-- Texts by the first byte that passes a test.
use Rattle.std.proofs.Common.{◌≡◌, ◌<◌, ◌+◌, ℕ, List, [], ◌∷◌, length, Bool, true, false, None, Some, ◌⊎◌, inl, inr, refl, sym, ◌∙◌, arith}
use Rattle.std.proofs.lemmas.Bool.{cases_Bool, false≢true, lt-ltb, ltb-true}
use Rattle.std.proofs.lemmas.List.{drop_all}
use Rattle.std.specs.Prelude.{nat_lt, position}
use Rattle.std.specs.List.{list_any, after_first, position_or_len}

found : (p : ℕ → Bool) (xs : List ℕ) → ((list_any p xs ≡ true) × (position_or_len p xs < length xs))
    ⊎ ((list_any p xs ≡ false) × (position_or_len p xs ≡ length xs))
found p [] = inr (refl, refl)
found p (x ∷ xs) = elim (cases_Bool (p x)) [
  | inl here ↦ inl (rw here refl, rw here (omega arith))
  | inr other ↦ elim (found p xs) [
    | inl h ↦ inl (rw other h.0, rw other (omega (arith, h.1)))
    | inr h ↦ inr (rw other h.0, rw other (omega (arith, h.1)))
  ]
]

-- No byte passes.
pub none_passes : (p : ℕ → Bool) (xs : List ℕ) → position p xs ≡ None → list_any p xs ≡ false
none_passes p xs e = elim (cases_Bool (nat_lt (position_or_len p xs) (length xs))) [
  | inl below ↦ absurd (some_none (position_or_len p xs) (rw below at e))
  | inr past ↦ elim (found p xs) [
    | inl h ↦ absurd (false≢true (sym past ∙ lt-ltb (position_or_len p xs) (length xs) h.1))
    | inr h ↦ h.0
  ]
]
  where
    some_none : (n : ℕ) → Some n ≡ None → ⊥
    some_none n e = cc

-- The first byte that passes.
pub record IsFirstAt (p : ℕ → Bool) (xs : List ℕ) (i : ℕ) : Type 0 where
  pub place : position_or_len p xs ≡ i
  pub within : i < length xs
  pub any : list_any p xs ≡ true

pub first_passes : (p : ℕ → Bool) (xs : List ℕ) (i : ℕ) → position p xs ≡ Some i → IsFirstAt p xs i
first_passes p xs i e = elim (cases_Bool (nat_lt (position_or_len p xs) (length xs))) [
  | inl below ↦
      let place : position_or_len p xs ≡ i = some_same (position_or_len p xs) (rw below at e) in
      let within = ltb-true (position_or_len p xs) (length xs) below in
      record {
        place = place;
        within = omega arith;
        any = elim (found p xs) [ inl h ↦ h.0 | inr h ↦ absurd (omega (arith, h.1)) ];
      }
  | inr past ↦ absurd (none_some (rw past at e))
]
  where
    some_same : (n : ℕ) → Some n ≡ Some i → n ≡ i
    some_same n e = cc

    none_some : None ≡ Some i → ⊥
    none_some e = cc

-- If no byte passes, nothing comes after it.
pub none_after : (p : ℕ → Bool) (xs : List ℕ) → list_any p xs ≡ false → after_first p xs ≡ []
none_after p xs none = elim (found p xs) [
  | inl h ↦ absurd (false≢true (sym none ∙ h.0))
  | inr h ↦ drop_all (position_or_len p xs + 1) xs (omega (arith, h.1))
]
