-- Items that are pushed one after the other.
use Rattle.std.proofs.Common.{◌≡◌, List, [], ◌∷◌, ◌++◌, map, ap}

pub pushed : {X Y Z : Type 0} (f : X → Y) (g : Z → Y) (xs : List X) (x : X) (z : Z) (zs : List Z) → f x ≡ g z
    → map f (xs ++ x ∷ []) ++ map g zs ≡ map f xs ++ map g (z ∷ zs)
pushed f g [] x z zs e = ap (λ y. y ∷ map g zs) e
pushed f g (y ∷ xs) x z zs e = ap (λ ys. f y ∷ ys) (pushed f g xs x z zs e)
