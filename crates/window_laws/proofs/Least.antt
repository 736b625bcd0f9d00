-- The least number below a bound that passes a test, and the greatest of the values below one.
use Rattle.std.proofs.Common.{◌≡◌, ℕ, zero, suc, ◌<◌, ◌≤◌, Bool, true, refl, sym, arith, inl, inr, Some, ◌∙◌}
use Rattle.std.proofs.lemmas.Bool.{cases_lt, lt-ltb}
use Rattle.number_laws.specs.Tests.{first_below, found_below}
use Rattle.number_laws.proofs.TestLaws.{first_below-found, first_below-least, found_below-is}
use Rattle.schedule_model.specs.Measures.{greatest_below}

-- A number that is found.
pub record Found (n : ℕ) (p : ℕ → Bool) (most : ℕ) : Type 0 where
  pub least : ℕ
  pub is_it : found_below n p ≡ Some least
  pub at_most : least ≤ most

pub found_from : (n : ℕ) (p : ℕ → Bool) (k : ℕ) → k < n → p k ≡ true → Found n p k
found_from n p k l h = record {
  least = first_below n p;
  is_it = let below : first_below n p < n = first_below-found n p k l h in rw (lt-ltb (first_below n p) n below) refl;
  at_most = first_below-least n p k h;
}

-- It is at most each that passes.
pub found_least : (n : ℕ) (p : ℕ → Bool) (k m : ℕ) → found_below n p ≡ Some k → p m ≡ true → k ≤ m
found_least n p k m e h = elim (cases_lt m k) [
  | inl less ↦
      let found : (k < n) × (p k ≡ true) = found_below-is n p k e in
      let other : Found n p m = found_from n p m (omega (arith, found.0, less)) h in
      let x : Some other.least ≡ Some k = sym other.is_it ∙ e in
      let same : other.least ≡ k = cc in
      omega (arith, other.at_most, same)
  | inr most ↦ most
]

-- What passes, and before which none does, is found.
pub found_is : (n : ℕ) (p : ℕ → Bool) (k : ℕ) → k < n → p k ≡ true → ((m : ℕ) → p m ≡ true → k ≤ m) → found_below n p ≡ Some k
found_is n p k l h least =
    let f : Found n p k = found_from n p k l h in
    let found : (f.least < n) × (p f.least ≡ true) = found_below-is n p f.least f.is_it in
    let same : f.least ≡ k = omega (arith, f.at_most, least f.least found.1) in
    rw (← same) f.is_it

pub greatest_below-term : (n : ℕ) (f : ℕ → ℕ) (k : ℕ) → k < n → f k ≤ greatest_below n f
greatest_below-term zero f k l = absurd (omega arith)
greatest_below-term (suc n) f k l = elim (cases_lt k n) [
  | inl below ↦ omega (arith, greatest_below-term n f k below)
  | inr here ↦ let e : k ≡ n = omega arith in rw e (omega arith)
]
