-- Polynomial identities over ℤ, each in one line. A whole number is read as a difference of two naturals, so that sums,
-- differences and products of such are differences of naturals again, and `omega` compares those:
--     rw (as_diff a, as_diff b, ..) (simp diffs (same_diff _ _ _ _ (omega arith)))
-- Constants are variables too: `as_diff (pos 1)`. With `by_one`, `by_two` and `by_three` a goal follows where it is so many
-- times these equations.
use Rattle.std.proofs.Common.{◌≡◌, ℕ, ◌+◌, ◌*◌, ℤ, pos, ◌+ℤ◌, ◌-ℤ◌, ◌*ℤ◌, neg_ℤ, ap, ◌∙◌, arith}
use Rattle.std.proofs.lemmas.Int.{ints}
use borrow.Author.Differences.{up, down, product_is, same_in}

-- a less b, over ℤ
unfoldable pub diff : ℕ → ℕ → ℤ
diff a b = pos a -ℤ pos b

-- the parts of a difference differ by as much
pub parts : (a b : ℕ) → up (diff a b) + b ≡ down (diff a b) + a
unfolding diff
parts a b = omega (arith, ints)

pub same_diff : (a b c d : ℕ) → a + d ≡ c + b → diff a b ≡ diff c d
unfolding diff
same_diff a b c d h = omega (arith, ints)

pub as_diff : (z : ℤ) → z ≡ diff (up z) (down z)
unfolding diff
as_diff z = omega (arith, ints)

pub diff-add : (a b c d : ℕ) → diff a b +ℤ diff c d ≡ diff (a + c) (b + d)
unfolding diff
diff-add a b c d = omega (arith, ints)

pub diff-sub : (a b c d : ℕ) → diff a b -ℤ diff c d ≡ diff (a + d) (b + c)
unfolding diff
diff-sub a b c d = omega (arith, ints)

pub diff-neg : (a b : ℕ) → neg_ℤ (diff a b) ≡ diff b a
unfolding diff
diff-neg a b = omega (arith, ints)

product_same : (u v x y a b c d : ℕ) → u + b ≡ v + a → x + d ≡ y + c → (u * x + v * y) + (a * d + b * c) ≡ (a * c + b * d) + (u * y + v * x)
product_same u v x y a b c d p q =
    omega (arith, ap (λ n. n * x) p, ap (λ n. n * y) p, ap (λ n. a * n) q, ap (λ n. b * n) q)

pub diff-mul : (a b c d : ℕ) → diff a b *ℤ diff c d ≡ diff (a * c + b * d) (a * d + b * c)
diff-mul a b c d =
    same_in _ _ (omega (
      arith,
      product_is (diff a b) (diff c d),
      parts a b,
      parts c d,
      parts (a * c + b * d) (a * d + b * c),
      product_same _ _ _ _ a b c d (parts a b) (parts c d),
    ))

-- what turns an expression over differences into one difference
pub ruleset diffs = (diff-add, diff-sub, diff-neg, diff-mul)

cancel_sum : (l r s t : ℤ) → s ≡ t → l +ℤ t ≡ r +ℤ s → l ≡ r
cancel_sum l r s t h e = omega (arith, ints)

-- l ≡ r, since l - r is c times the difference of two equal numbers
pub by_one : {x y : ℤ} (c : ℤ) (h : x ≡ y) (l r : ℤ) → l +ℤ (c *ℤ y) ≡ r +ℤ (c *ℤ x) → l ≡ r
by_one {x} {y} c h l r e = cancel_sum l r _ _ (ap (λ n. c *ℤ n) h) e

pub by_two : {x y u w : ℤ} (c : ℤ) (h : x ≡ y) (b : ℤ) (k : u ≡ w) (l r : ℤ)
    → l +ℤ ((c *ℤ y) +ℤ (b *ℤ w)) ≡ r +ℤ ((c *ℤ x) +ℤ (b *ℤ u)) → l ≡ r
by_two {x} {y} {u} {w} c h b k l r e =
    cancel_sum l r _ _ (ap (λ n. (c *ℤ n) +ℤ (b *ℤ u)) h ∙ ap (λ n. (c *ℤ y) +ℤ (b *ℤ n)) k) e

pub by_three : {x y u w v z : ℤ} (c : ℤ) (h : x ≡ y) (b : ℤ) (k : u ≡ w) (a : ℤ) (j : v ≡ z) (l r : ℤ)
    → l +ℤ (((c *ℤ y) +ℤ (b *ℤ w)) +ℤ (a *ℤ z)) ≡ r +ℤ (((c *ℤ x) +ℤ (b *ℤ u)) +ℤ (a *ℤ v)) → l ≡ r
by_three {x} {y} {u} {w} {v} {z} c h b k a j l r e =
    cancel_sum l r _ _
    (ap (λ n. ((c *ℤ n) +ℤ (b *ℤ u)) +ℤ (a *ℤ v)) h
    ∙ (ap (λ n. ((c *ℤ y) +ℤ (b *ℤ n)) +ℤ (a *ℤ v)) k ∙ ap (λ n. ((c *ℤ y) +ℤ (b *ℤ w)) +ℤ (a *ℤ n)) j)) e

-- the laws of the ring by name
pub mul-comm : (a b : ℤ) → a *ℤ b ≡ b *ℤ a
mul-comm a b = rw (as_diff a, as_diff b) (simp diffs (same_diff _ _ _ _ (omega arith)))

pub mul-assoc : (a b c : ℤ) → (a *ℤ b) *ℤ c ≡ a *ℤ (b *ℤ c)
mul-assoc a b c = rw (as_diff a, as_diff b, as_diff c) (simp diffs (same_diff _ _ _ _ (omega arith)))

pub mul-swap_last : (a b c : ℤ) → (a *ℤ b) *ℤ c ≡ (a *ℤ c) *ℤ b
mul-swap_last a b c = rw (as_diff a, as_diff b, as_diff c) (simp diffs (same_diff _ _ _ _ (omega arith)))

pub mul-sub_right : (a b c : ℤ) → (a -ℤ b) *ℤ c ≡ (a *ℤ c) -ℤ (b *ℤ c)
mul-sub_right a b c = rw (as_diff a, as_diff b, as_diff c) (simp diffs (same_diff _ _ _ _ (omega arith)))

pub mul-add_right : (a b c : ℤ) → (a +ℤ b) *ℤ c ≡ (a *ℤ c) +ℤ (b *ℤ c)
mul-add_right a b c = rw (as_diff a, as_diff b, as_diff c) (simp diffs (same_diff _ _ _ _ (omega arith)))

pub mul-neg_left : (a b : ℤ) → neg_ℤ a *ℤ b ≡ neg_ℤ (a *ℤ b)
mul-neg_left a b = rw (as_diff a, as_diff b) (simp diffs (same_diff _ _ _ _ (omega arith)))

pub mul-neg_right : (a b : ℤ) → a *ℤ neg_ℤ b ≡ neg_ℤ (a *ℤ b)
mul-neg_right a b = rw (as_diff a, as_diff b) (simp diffs (same_diff _ _ _ _ (omega arith)))

pub mul-left_comm : (a b c : ℤ) → a *ℤ (b *ℤ c) ≡ b *ℤ (a *ℤ c)
mul-left_comm a b c = rw (as_diff a, as_diff b, as_diff c) (simp diffs (same_diff _ _ _ _ (omega arith)))

pub mul-one : (a : ℤ) → a *ℤ pos 1 ≡ a
mul-one a = omega (arith, ints)

pub mul-zero : (a : ℤ) → a *ℤ pos 0 ≡ pos 0
mul-zero a = omega (arith, ints)

pub one-mul : (a : ℤ) → pos 1 *ℤ a ≡ a
one-mul a = omega (arith, ints)

pub zero-mul : (a : ℤ) → pos 0 *ℤ a ≡ pos 0
zero-mul a = omega (arith, ints)
