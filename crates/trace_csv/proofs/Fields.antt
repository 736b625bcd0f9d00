-- The fields of a record, one by one.
use Rattle.std.proofs.Common.{◌≡◌, ◌≤◌, ℕ, zero, suc, List, [], ◌∷◌, ◌++◌, length, take, None, Some, ap, arith}
use Rattle.csv.specs.Records.{field_at}

-- One more field.
pub take_field : (fs : List (List ℕ)) (i : ℕ) (f : List ℕ) → field_at fs i ≡ Some f → take (suc i) fs ≡ take i fs ++ f ∷ []
unfolding field_at
take_field [] i f e = cc e
take_field (g ∷ fs) zero f e = ap (λ x. x ∷ []) (cc e)
take_field (g ∷ fs) (suc i) f e = ap (λ x. g ∷ x) (take_field fs i f e)

-- There is a field at each place below their number.
pub no_field : (fs : List (List ℕ)) (i : ℕ) → field_at fs i ≡ None → length fs ≤ i
unfolding field_at
no_field [] i e = omega arith
no_field (g ∷ fs) zero e = cc e
no_field (g ∷ fs) (suc i) e = omega (arith, no_field fs i e)
