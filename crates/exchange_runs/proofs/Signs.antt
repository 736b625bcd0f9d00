-- Orders of whole numbers and their signs.
use Rattle.std.proofs.Common.{◌≡◌, ℕ, ℤ, pos, neg_ℤ, ◌≤ℤ◌, arith}
use Rattle.std.proofs.lemmas.Int.{ints}

pub turned : {x : ℤ} → x ≤ℤ pos 0 → pos 0 ≤ℤ neg_ℤ x
turned h = omega (arith, ints)

pub same_natural : (a b : ℕ) → pos a ≡ pos b → a ≡ b
same_natural a b h = omega (arith, ints)
