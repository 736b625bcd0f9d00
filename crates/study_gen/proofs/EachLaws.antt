-- What holds of each element of a list, by recursion.
use Rattle.std.proofs.Common.{ℕ, zero, suc, ◌<◌, List, [], ◌∷◌, ◌++◌, length, arith}
use Rattle.std.specs.Prelude.{slice_index_or}
use Rattle.std.specs.List.{All}

module _ {X : Type 0} where
  abbrev pub Each : (X → Type 0) → List X → Type 0
  Each P [] = Unit {0}
  Each P (x ∷ xs) = P x × Each P xs

  pub each_at : (P : X → Type 0) (xs : List X) (i : ℕ) (d : X) → i < length xs → Each P xs → P (slice_index_or xs i d)
  each_at P [] i d here each = absurd (omega (arith, here))
  each_at P (x ∷ xs) zero d here each = each.0
  each_at P (x ∷ xs) (suc i) d here each = each_at P xs i d (omega (arith, here)) each.1

  pub each_all : (P : X → Type 0) (xs : List X) → Each P xs → All P xs
  each_all P xs each = λ i d here. each_at P xs i d here each

  pub each_append : (P : X → Type 0) (xs ys : List X) → Each P xs → Each P ys → Each P (xs ++ ys)
  each_append P [] ys first second = second
  each_append P (x ∷ xs) ys first second = (first.0, each_append P xs ys first.1 second)
