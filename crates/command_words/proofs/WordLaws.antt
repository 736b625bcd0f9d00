-- Words that are fewer than three or more than six have no form.
use Rattle.std.proofs.Common.{◌≡◌, ℕ, ◌<◌, List, [], ◌∷◌, length, refl, arith, None}
use Rattle.command_words.specs.Words.{form_of}

pub fewer_words : (words : List (List ℕ)) → length words < 3 → None ≡ form_of words
fewer_words [] few = refl
fewer_words (a ∷ []) few = refl
fewer_words (a ∷ b ∷ []) few = refl
fewer_words (a ∷ b ∷ c ∷ words) few = absurd (omega arith)

pub more_words : (words : List (List ℕ)) → 6 < length words → None ≡ form_of words
more_words [] many = absurd (omega arith)
more_words (a ∷ []) many = absurd (omega arith)
more_words (a ∷ b ∷ []) many = absurd (omega arith)
more_words (a ∷ b ∷ c ∷ []) many = absurd (omega arith)
more_words (a ∷ b ∷ c ∷ d ∷ []) many = absurd (omega arith)
more_words (a ∷ b ∷ c ∷ d ∷ e ∷ []) many = absurd (omega arith)
more_words (a ∷ b ∷ c ∷ d ∷ e ∷ f ∷ []) many = absurd (omega arith)
more_words (a ∷ b ∷ c ∷ d ∷ e ∷ f ∷ g ∷ words) many = refl
