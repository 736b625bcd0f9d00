-- Numbers that sums are made of.
use Rattle.std.specs.Prelude.{◌≡◌, ℕ, ◌≤◌}

-- Is the number this amount, and at most the limit?
pub record IsAmount (number amount limit : ℕ) : Type 0 where
  pub value : number ≡ amount
  pub most : number ≤ limit
