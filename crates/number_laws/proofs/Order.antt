-- The order of ℤ and its products.
use Rattle.std.proofs.Common.{◌≡◌, ◌*◌, ◌<◌, ℕ, ℤ, pos, negsuc, ◌-ℤ◌, ◌*ℤ◌, neg_ℤ, ◌≤ℤ◌, ◌<ℤ◌, ap, ◌∙◌, sym, subst, arith}
use Rattle.std.proofs.lemmas.Int.{ints, by_lt_z}
use Rattle.std.proofs.Math.Nat.{mul-lt-mul_of_pos_left}
use lib.Signed.{clash_ℤ}
use Rattle.number_laws.proofs.Ring.{mul-sub_right, mul-neg_right, zero-mul}

pub weaker : {x y : ℤ} → x <ℤ y → x ≤ℤ y
weaker h = omega (arith, ints)

pub same_of_both : (x y : ℤ) → x ≤ℤ y → y ≤ℤ x → x ≡ y
same_of_both x y h k = omega (arith, ints)

-- naturals as whole numbers
pub not_negative : (n : ℕ) → pos 0 ≤ℤ pos n
not_negative n = omega (arith, ints)

pub above_zero : (n : ℕ) → 0 < n → pos 0 <ℤ pos n
above_zero n h = omega (arith, ints)

pub times_nonneg : (a b : ℤ) → pos 0 ≤ℤ a → pos 0 ≤ℤ b → pos 0 ≤ℤ (a *ℤ b)
times_nonneg (pos a) (pos b) h k = omega (arith, ints)
times_nonneg (pos a) (negsuc b) h k = absurd (omega (arith, ints))
times_nonneg (negsuc a) b h k = absurd (omega (arith, ints))

pub times_positive : (a b : ℤ) → pos 0 <ℤ a → pos 0 <ℤ b → pos 0 <ℤ (a *ℤ b)
times_positive (pos a) (pos b) h k =
    let above : 0 < a = omega (arith, ints) in
    let right : 0 < b = omega (arith, ints) in
    let both : a * 0 < a * b = mul-lt-mul_of_pos_left right above in
    omega (arith, ints)
times_positive (pos a) (negsuc b) h k = absurd (omega (arith, ints))
times_positive (negsuc a) b h k = absurd (omega (arith, ints))

-- both sides times a number that is not negative
pub times_le : (a b c : ℤ) → pos 0 ≤ℤ c → a ≤ℤ b → (a *ℤ c) ≤ℤ (b *ℤ c)
times_le a b c h k =
    let gap : pos 0 ≤ℤ ((b -ℤ a) *ℤ c) = times_nonneg (b -ℤ a) c (omega (arith, ints)) h in
    let apart : (b -ℤ a) *ℤ c ≡ (b *ℤ c) -ℤ (a *ℤ c) = mul-sub_right b a c in
    let there : pos 0 ≤ℤ ((b *ℤ c) -ℤ (a *ℤ c)) = subst (λ (z : ℤ). pos 0 ≤ℤ z) apart gap in
    le_of_gap _ _ there
  where
    le_of_gap : (x y : ℤ) → pos 0 ≤ℤ (y -ℤ x) → x ≤ℤ y
    le_of_gap x y g = omega (arith, ints)

pub times_lt : (a b c : ℤ) → pos 0 <ℤ c → a <ℤ b → (a *ℤ c) <ℤ (b *ℤ c)
times_lt a b c h k =
    let gap : pos 0 <ℤ ((b -ℤ a) *ℤ c) = times_positive (b -ℤ a) c (omega (arith, ints)) h in
    let apart : (b -ℤ a) *ℤ c ≡ (b *ℤ c) -ℤ (a *ℤ c) = mul-sub_right b a c in
    let there : pos 0 <ℤ ((b *ℤ c) -ℤ (a *ℤ c)) = subst (λ (z : ℤ). pos 0 <ℤ z) apart gap in
    lt_of_gap _ _ there
  where
    lt_of_gap : (x y : ℤ) → pos 0 <ℤ (y -ℤ x) → x <ℤ y
    lt_of_gap x y g = omega (arith, ints)

-- a common positive factor is taken off
pub cancel_le : (a b c : ℤ) → pos 0 <ℤ c → (a *ℤ c) ≤ℤ (b *ℤ c) → a ≤ℤ b
cancel_le a b c h k =
    by_lt_z b a (λ lt. clash_ℤ (times_lt b a c h lt) k) (λ le. le)

pub cancel_lt : (a b c : ℤ) → pos 0 <ℤ c → (a *ℤ c) <ℤ (b *ℤ c) → a <ℤ b
cancel_lt a b c h k =
    by_lt_z a b (λ lt. lt) (λ le. clash_ℤ k (times_le b a c (weaker h) le))

pub cancel : (a b c : ℤ) → pos 0 <ℤ c → a *ℤ c ≡ b *ℤ c → a ≡ b
cancel a b c h e =
    same_of_both _ _ (cancel_le a b c h (le_of_same _ _ e)) (cancel_le b a c h (le_of_same _ _ (sym e)))
  where
    le_of_same : (x y : ℤ) → x ≡ y → x ≤ℤ y
    le_of_same x y p = omega (arith, ints)

-- a common factor that isn't 0 is taken off
pub cancel_apart : (a b c : ℤ) → (c ≡ pos 0 → ⊥) → a *ℤ c ≡ b *ℤ c → a ≡ b
cancel_apart a b c apart e =
    by_lt_z c (pos 0)
    (λ below. cancel a b (neg_ℤ c) (other_sign c below) (mul-neg_right a c ∙ (ap neg_ℤ e ∙ sym (mul-neg_right b c))))
    (λ above. cancel a b c (strict c apart above) e)
  where
    other_sign : (z : ℤ) → z <ℤ pos 0 → pos 0 <ℤ neg_ℤ z
    other_sign z p = omega (arith, ints)

    strict : (z : ℤ) → (z ≡ pos 0 → ⊥) → pos 0 ≤ℤ z → pos 0 <ℤ z
    strict z p q = omega (arith, ints)

-- a product of two numbers that aren't 0 isn't 0
pub times_apart : (a b : ℤ) → (a ≡ pos 0 → ⊥) → (b ≡ pos 0 → ⊥) → a *ℤ b ≡ pos 0 → ⊥
times_apart a b p q e = p (cancel_apart a (pos 0) b q (e ∙ sym (zero-mul b)))
