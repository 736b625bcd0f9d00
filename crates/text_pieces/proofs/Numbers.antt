-- Numbers in text: what is left to read of one, and what `decimal` writes.
use Rattle.std.proofs.Common.{◌≡◌, ◌<◌, ◌+◌, ◌-◌, ◌*◌, ℕ, suc, List, [], ◌∷◌, length, drop, get_or, min, arith, add-one, drop-cons}
use Rattle.text_pieces.specs.Numbers.{value_after}

-- What digits write after two numbers that are the same up to a cap is the same up to the cap.
pub capped : (m x y : ℕ) (ds : List ℕ) → min x m ≡ min y m → min (value_after x ds) m ≡ min (value_after y ds) m
capped m x y [] e = e
capped m x y (d ∷ ds) e = capped m (x * 10 + (d - 48)) (y * 10 + (d - 48)) ds (omega arith)

-- One more digit.
pub one_more : (m x y : ℕ) (ds : List ℕ) (i : ℕ) → i < length ds → min y m ≡ min (x * 10 + (get_or ds i 0 - 48)) m
    → min (value_after y (drop (i + 1) ds)) m ≡ min (value_after x (drop i ds)) m
one_more m x y ds i h e = rw (drop-cons ds i 0, add-one) (capped m y (x * 10 + (get_or ds i 0 - 48)) (drop (suc i) ds) e)
