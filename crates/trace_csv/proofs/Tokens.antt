-- The tokens of a text, by its first space.
use Rattle.std.proofs.Common.{◌≡◌, ◌+◌, ◌==◌, ℕ, suc, List, [], ◌∷◌, Bool, true, false, refl, sym, ◌∙◌, arith, inl, inr}
use Rattle.std.proofs.lemmas.Bool.{cases_Bool, false≢true}
use Rattle.std.specs.List.{list_any, before_first, after_first, position_or_len}
use Rattle.trace_csv.specs.Scripts.{space, tokens_in}

abbrev is_space : ℕ → Bool
is_space b = b == space

-- A text without a space is one token.
pub one_token : (text : List ℕ) → list_any is_space text ≡ false → tokens_in text ≡ text ∷ []
one_token [] none = refl
one_token (b ∷ text) none = elim (cases_Bool (b == space)) [
  | inl here ↦ absurd (false≢true (sym none ∙ rw here refl))
  | inr other ↦ let rest = one_token text (rw other at none) in rw (other, rest) refl
]

-- A text with a space is the token before it, and the tokens after it.
pub more_tokens : (text : List ℕ) → list_any is_space text ≡ true
    → tokens_in text ≡ before_first is_space text ∷ tokens_in (after_first is_space text)
more_tokens [] some = absurd (false≢true some)
more_tokens (b ∷ text) some = elim (cases_Bool (b == space)) [
  | inl here ↦ rw here refl
  | inr other ↦
      let n = position_or_len is_space text in
      let rest = more_tokens text (rw other at some) in
      let one : 1 + n ≡ suc n = omega arith in
      let two : 1 + n + 1 ≡ suc (n + 1) = omega arith in
      rw (other, rest, two, one) refl
]
