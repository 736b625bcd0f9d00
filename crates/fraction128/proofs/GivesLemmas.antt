-- From what `ratio` gives of an unreduced value to what the operation gives.
use Rattle.std.proofs.Common.{◌≡◌, ℤ, ◌+ℤ◌, ◌-ℤ◌, ◌*ℤ◌, neg_ℤ, Result, Ok, Err, ap, ◌∙◌, sym, arith}
use Rattle.std.proofs.lemmas.Int.{ints}
use Rattle.number_laws.proofs.Ring.{mul-comm, mul-neg_left, mul-neg_right}
use Rattle.fraction128.specs.Fraction.{Fraction, IsSame, IsSum, IsDifference, IsProduct, IsQuotient, over}
use Rattle.fraction128.specs.Gives.{Gives}
use Rattle.fraction128.specs.declared.Wide.{Wide}

pub gives_sum : (r : Result Fraction Wide) (a b : Fraction)
    → Gives r (IsSame (over ((a.num *ℤ b.den) +ℤ (b.num *ℤ a.den)) (a.den *ℤ b.den))) → Gives r (IsSum a b)
gives_sum (Ok f) a b h = (h.0, record { same = h.1.same })
gives_sum (Err w) a b h = λ f form is. h f form (record { same = is.same })

pub gives_difference : (r : Result Fraction Wide) (a b : Fraction)
    → Gives r (IsSame (over ((a.num *ℤ b.den) -ℤ (b.num *ℤ a.den)) (a.den *ℤ b.den))) → Gives r (IsDifference a b)
gives_difference (Ok f) a b h = (h.0, record { same = h.1.same })
gives_difference (Err w) a b h = λ f form is. h f form (record { same = is.same })

pub gives_product : (r : Result Fraction Wide) (a b : Fraction)
    → Gives r (IsSame (over (a.num *ℤ b.num) (a.den *ℤ b.den))) → Gives r (IsProduct a b)
gives_product (Ok f) a b h = (h.0, record { same = h.1.same })
gives_product (Err w) a b h = λ f form is. h f form (record { same = is.same })

pub gives_quotient : (r : Result Fraction Wide) (a b : Fraction)
    → Gives r (IsSame (over (a.num *ℤ b.den) (b.num *ℤ a.den))) → Gives r (IsQuotient a b)
gives_quotient (Ok f) a b h = (h.0, record { same = ap (λ z. f.num *ℤ z) (mul-comm a.den b.num) ∙ h.1.same })
gives_quotient (Err w) a b h = λ f form is. h f form (record { same = ap (λ z. f.num *ℤ z) (mul-comm b.num a.den) ∙ is.same })

-- both signs turned round
turned : (x n d y : ℤ) → x *ℤ neg_ℤ d ≡ neg_ℤ n *ℤ y → x *ℤ d ≡ n *ℤ y
turned x n d y h = both_less _ _ (sym (mul-neg_right x d) ∙ (h ∙ mul-neg_left n y))
  where
    both_less : (a b : ℤ) → neg_ℤ a ≡ neg_ℤ b → a ≡ b
    both_less a b p = omega (arith, ints)

turned_back : (x n d y : ℤ) → x *ℤ d ≡ n *ℤ y → x *ℤ neg_ℤ d ≡ neg_ℤ n *ℤ y
turned_back x n d y h = mul-neg_right x d ∙ (ap neg_ℤ h ∙ sym (mul-neg_left n y))

pub gives_turned : (r : Result Fraction Wide) (n d : ℤ) → Gives r (IsSame (over (neg_ℤ n) (neg_ℤ d))) → Gives r (IsSame (over n d))
gives_turned (Ok f) n d h = (h.0, record { same = turned f.num n d f.den h.1.same })
gives_turned (Err w) n d h = λ f form is. h f form (record { same = turned_back f.num n d f.den is.same })
