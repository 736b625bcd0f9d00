-- Tests of the numbers below a bound, one after another.
use Rattle.std.proofs.Common.{◌≡◌, ℕ, ◌+◌, subst, arith, inl, inr}
use Rattle.std.proofs.lemmas.Bool.{cases_lt}
use Rattle.schedule_answers.specs.Failures.{AllPass}

-- One more number passes.
pub one_more : (n : ℕ) (test : ℕ → Type 0) → AllPass n test → test n → AllPass (n + 1) test
one_more n test before here k below = elim (cases_lt k n) [
  | inl earlier ↦ before k earlier
  | inr late ↦ let same : n ≡ k = omega arith in subst test same here
]
