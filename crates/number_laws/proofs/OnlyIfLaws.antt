-- The laws of a term that counts only where a test passes.
use Rattle.std.proofs.Common.{◌≡◌, ℕ, ◌≤◌, Bool, true, false, refl, arith}
use Rattle.number_laws.specs.Sums.{only_if}

-- It rises with the term, which need rise only where the test passes.
pub only_if-rises : (b : Bool) (m n : ℕ) → (b ≡ true → m ≤ n) → only_if b m ≤ only_if b n
only_if-rises true m n h = h refl
only_if-rises false m n h = omega arith

pub only_if-nothing : (b : Bool) → only_if b 0 ≡ 0
only_if-nothing true = refl
only_if-nothing false = refl
