-- The laws of sums of whole numbers below a bound.
use Rattle.std.proofs.Common.{add-one, ◌≡◌, ℕ, zero, suc, ◌+◌, ◌<◌, ◌≤◌, refl, sym, ap, ◌∙◌, arith, inl, inr, ℤ, pos}
use Rattle.std.proofs.Common.{negsuc, ◌+ℤ◌, ◌*ℤ◌, ◌≤ℤ◌}
use Rattle.std.proofs.lemmas.Int.{ints}
use Rattle.std.proofs.lemmas.Bool.{eq-eqb, ne_eqb, cases_lt}
use Rattle.number_laws.specs.Sums.{sum_below}
use Rattle.number_laws.specs.WholeSums.{total_below, only_at}
use Rattle.std.proofs.Math.IntN.{*ℤ_comm, *ℤ-zero, zero-*ℤ, suc_ℤ, pred_ℤ, suc_ℤ-*ℤ, pred_ℤ-*ℤ}

-- Functions that agree below n have one total.
pub total_below-agree : (n : ℕ) (f g : ℕ → ℤ) → ((k : ℕ) → k < n → f k ≡ g k) → total_below n f ≡ total_below n g
total_below-agree zero f g h = refl
total_below-agree (suc n) f g h = rw (total_below-agree n f g (λ k l. h k (omega arith)), h n (omega arith)) refl

pub total_below-zero : (n : ℕ) (f : ℕ → ℤ) → ((k : ℕ) → k < n → f k ≡ pos 0) → total_below n f ≡ pos 0
total_below-zero zero f h = refl
total_below-zero (suc n) f h = rw (total_below-zero n f (λ k l. h k (omega arith)), h n (omega arith)) refl

four : (a b c d : ℤ) → (a +ℤ b) +ℤ (c +ℤ d) ≡ (a +ℤ c) +ℤ (b +ℤ d)
four a b c d = omega (arith, ints)

-- The total of sums is the sum of both totals.
pub total_below-plus : (n : ℕ) (f g : ℕ → ℤ) → total_below n (λ k. f k +ℤ g k) ≡ total_below n f +ℤ total_below n g
total_below-plus zero f g = refl
total_below-plus (suc n) f g = rw (total_below-plus n f g) (four (total_below n f) (total_below n g) (f n) (g n))

times_sum_up : (c a b : ℤ) → c *ℤ (a +ℤ b) ≡ (c *ℤ a) +ℤ (c *ℤ b) → suc_ℤ c *ℤ (a +ℤ b) ≡ (suc_ℤ c *ℤ a) +ℤ (suc_ℤ c *ℤ b)
times_sum_up c a b h = rw (suc_ℤ-*ℤ c (a +ℤ b), suc_ℤ-*ℤ c a, suc_ℤ-*ℤ c b, h) (four (c *ℤ a) (c *ℤ b) a b)

times_sum_down : (c a b : ℤ) → c *ℤ (a +ℤ b) ≡ (c *ℤ a) +ℤ (c *ℤ b) → pred_ℤ c *ℤ (a +ℤ b) ≡ (pred_ℤ c *ℤ a) +ℤ (pred_ℤ c *ℤ b)
times_sum_down c a b h = rw (pred_ℤ-*ℤ c (a +ℤ b), pred_ℤ-*ℤ c a, pred_ℤ-*ℤ c b, h) (omega (arith, ints))

times_sum_zero : (a b : ℤ) → pos 0 *ℤ (a +ℤ b) ≡ (pos 0 *ℤ a) +ℤ (pos 0 *ℤ b)
times_sum_zero a b = rw (zero-*ℤ (a +ℤ b), zero-*ℤ a, zero-*ℤ b) refl

-- A product with a sum is the sum of the products.
times_sum : (c a b : ℤ) → c *ℤ (a +ℤ b) ≡ (c *ℤ a) +ℤ (c *ℤ b)
times_sum (pos zero) a b = times_sum_zero a b
times_sum (pos (suc n)) a b = times_sum_up (pos n) a b (times_sum (pos n) a b)
times_sum (negsuc zero) a b = times_sum_down (pos 0) a b (times_sum_zero a b)
times_sum (negsuc (suc n)) a b = times_sum_down (negsuc n) a b (times_sum (negsuc n) a b)

-- A factor of each term is a factor of the total.
pub total_below-times : (n : ℕ) (c : ℤ) (f : ℕ → ℤ) → total_below n (λ k. c *ℤ f k) ≡ c *ℤ total_below n f
total_below-times zero c f = sym (*ℤ-zero c)
total_below-times (suc n) c f = ap (λ x. x +ℤ (c *ℤ f n)) (total_below-times n c f) ∙ sym (times_sum c (total_below n f) (f n))

-- The same with the factor on the right.
pub total_below-times_right : (n : ℕ) (c : ℤ) (f : ℕ → ℤ) → total_below n (λ k. f k *ℤ c) ≡ total_below n f *ℤ c
total_below-times_right n c f =
    total_below-agree n (λ k. f k *ℤ c) (λ k. c *ℤ f k) (λ k l. *ℤ_comm (f k) c) ∙ total_below-times n c f ∙ *ℤ_comm c (total_below n f)

-- The total of a times f and b times g is a times the one and b times the other.
pub total_below-mix : (n : ℕ) (a b : ℤ) (f g : ℕ → ℤ)
    → total_below n (λ k. (a *ℤ f k) +ℤ (b *ℤ g k)) ≡ (a *ℤ total_below n f) +ℤ (b *ℤ total_below n g)
total_below-mix n a b f g =
    total_below-plus n (λ k. a *ℤ f k) (λ k. b *ℤ g k) ∙ rw (total_below-times n a f, total_below-times n b g) refl

-- Two totals may be exchanged.
pub total_below-swap : (m n : ℕ) (f : ℕ → ℕ → ℤ)
    → total_below m (λ r. total_below n (λ c. f r c)) ≡ total_below n (λ c. total_below m (λ r. f r c))
total_below-swap zero n f = sym (total_below-zero n (λ c. pos 0) (λ k l. refl))
total_below-swap (suc m) n f =
    ap (λ x. x +ℤ total_below n (f m)) (total_below-swap m n f) ∙ sym (total_below-plus n (λ c. total_below m (λ r. f r c)) (f m))

-- A total splits at each bound below its own.
pub total_below-split : (a b : ℕ) (f : ℕ → ℤ) → total_below (a + b) f ≡ total_below a f +ℤ total_below b (λ k. f (a + k))
total_below-split a zero f = let e : a + 0 ≡ a = omega arith in rw e (omega (arith, ints))
total_below-split a (suc b) f = let e : a + suc b ≡ suc (a + b) = omega arith in rw (e, total_below-split a b f) (omega (arith, ints))

-- A total of terms that are not below zero is not below zero.
pub total_below-nonneg : (n : ℕ) (f : ℕ → ℤ) → ((k : ℕ) → k < n → pos 0 ≤ℤ f k) → pos 0 ≤ℤ total_below n f
total_below-nonneg zero f h = omega (arith, ints)
total_below-nonneg (suc n) f h =
    let rest : pos 0 ≤ℤ total_below n f = total_below-nonneg n f (λ k l. h k (omega arith)) in
    let last : pos 0 ≤ℤ f n = h n (omega arith) in
    omega (arith, ints)

-- A total grows with its terms.
pub total_below-monotone : (n : ℕ) (f g : ℕ → ℤ) → ((k : ℕ) → k < n → f k ≤ℤ g k) → total_below n f ≤ℤ total_below n g
total_below-monotone zero f g h = omega (arith, ints)
total_below-monotone (suc n) f g h =
    let rest : total_below n f ≤ℤ total_below n g = total_below-monotone n f g (λ k l. h k (omega arith)) in
    let last : f n ≤ℤ g n = h n (omega arith) in
    omega (arith, ints)

-- A total of naturals is their sum.
pub total_below-of_sum : (n : ℕ) (f : ℕ → ℕ) → total_below n (λ k. pos (f k)) ≡ pos (sum_below n f)
total_below-of_sum zero f = refl
total_below-of_sum (suc n) f = rw (total_below-of_sum n f) refl

pub only_at-here : (i : ℕ) (x : ℤ) → only_at i x i ≡ x
only_at-here i x = rw (eq-eqb i i refl) refl

pub only_at-away : (i : ℕ) (x : ℤ) (k : ℕ) → (k ≡ i → ⊥) → only_at i x k ≡ pos 0
only_at-away i x k h = rw (ne_eqb k i h) refl

-- A total of zeros but at one place past the bound is zero.
pub total_below-none : (n i : ℕ) (x : ℤ) → n ≤ i → total_below n (only_at i x) ≡ pos 0
total_below-none n i x h = total_below-zero n (only_at i x) (λ k l. only_at-away i x k (λ e. omega arith))

-- A total of zeros, except at one place below the bound, is the number at that place.
pub total_below-only : (n i : ℕ) (x : ℤ) → i < n → total_below n (only_at i x) ≡ x
total_below-only zero i x h = absurd (omega arith)
total_below-only (suc n) i x h = elim (cases_lt i n) [
  | inl below ↦ rw (total_below-only n i x below, only_at-away i x n (λ e. omega arith)) (omega (arith, ints))
  | inr above ↦ let e : i ≡ n = omega arith in rw (← e, total_below-none i i x (omega arith), only_at-here i x) (omega (arith, ints))
]

-- The total to the next bound has one more term.
pub total_below-next : (n : ℕ) (f : ℕ → ℤ) → total_below (n + 1) f ≡ total_below n f +ℤ f n
total_below-next n f = rw add-one refl
