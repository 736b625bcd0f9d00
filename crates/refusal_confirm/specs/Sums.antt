-- What a sum over the columns is made of.
use Rattle.std.specs.Prelude.{◌≡◌, ℕ, ◌-◌, ◌*◌, ◌<◌, ◌^◌}

-- Is it the product of two numbers of 64 bits, so that 128 bits hold one more?
pub record IsProduct (a b product : ℕ) : Type 0 where
  pub value : product ≡ a * b
  pub most : product < 2 ^ 128 - 1
