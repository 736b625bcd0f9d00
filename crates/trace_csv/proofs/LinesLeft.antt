-- Lines that are read one by one.
use Rattle.std.proofs.Common.{◌≡◌, ◌<◌, ◌≤◌, ℕ, zero, suc, List, [], ◌∷◌, length, get_or, drop, ap, arith}
use Rattle.std.proofs.lemmas.List.{drop_all, length-drop}

module _ {A : Type 0} where
  -- Line i, where it is the first of those that are left behind i lines.
  pub record IsLine (lines : List A) (i : ℕ) (line : A) (rest : List A) (d : A) : Type 0 where
    pub within : i < length lines
    pub here : get_or lines i d ≡ line
    pub behind : drop (suc i) lines ≡ rest

  pub line_of : (lines : List A) (i : ℕ) (line : A) (rest : List A) (d : A) → drop i lines ≡ line ∷ rest → IsLine lines i line rest d
  line_of [] i line rest d e = absurd (none (rw (drop_all {X = A} i [] (omega arith)) at e))
    where
      none : [] ≡ line ∷ rest → ⊥
      none e = cc
  line_of (l ∷ lines) zero line rest d e = record { within = omega arith; here = cc e; behind = cc e }
  line_of (l ∷ lines) (suc i) line rest d e =
      let more = line_of lines i line rest d e in
      record { within = omega (arith, more.within); here = more.here; behind = more.behind }

  -- None is left behind all of them.
  pub none_left : (lines : List A) (i : ℕ) → drop i lines ≡ [] → length lines ≤ i
  none_left lines i e =
      let left : length (drop i lines) ≡ 0 = ap (λ (xs : List A). length xs) e in
      omega (arith, length-drop i lines)
