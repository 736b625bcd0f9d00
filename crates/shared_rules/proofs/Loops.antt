-- One more number passes a test.
use Rattle.std.proofs.Common.{◌≡◌, ℕ, ◌+◌, Bool, true, add-one}
use Rattle.std.proofs.lemmas.Bool.{and_from}
use Rattle.number_laws.specs.Tests.{all_below}

pub all_next : (n : ℕ) (p : ℕ → Bool) → all_below n p ≡ true → p n ≡ true → all_below (n + 1) p ≡ true
all_next n p h k = rw add-one (and_from (all_below n p) (p n) h k)
