-- A text without its byte order mark.
use Rattle.std.proofs.Common.{◌≡◌, ◌<◌, ◌≤◌, ℕ, List, [], ◌∷◌, length, true, false, get_or, drop, refl, arith}
use Rattle.csv.specs.Reading.{is_bom, strip_bom}

pub short : (text : List ℕ) → length text < 3 → text ≡ strip_bom text
unfolding strip_bom
short [] h = refl
short (a ∷ []) h = refl
short (a ∷ b ∷ []) h = refl
short (a ∷ b ∷ c ∷ rest) h = absurd (omega arith)

pub marked : (text : List ℕ) → 3 ≤ length text → is_bom (get_or text 0 0) (get_or text 1 0) (get_or text 2 0) ≡ true
    → drop 3 text ≡ strip_bom text
unfolding strip_bom
marked [] h e = absurd (omega arith)
marked (a ∷ []) h e = absurd (omega arith)
marked (a ∷ b ∷ []) h e = absurd (omega arith)
marked (a ∷ b ∷ c ∷ rest) h e = rw e refl

pub unmarked : (text : List ℕ) → 3 ≤ length text → is_bom (get_or text 0 0) (get_or text 1 0) (get_or text 2 0) ≡ false
    → text ≡ strip_bom text
unfolding strip_bom
unmarked [] h e = absurd (omega arith)
unmarked (a ∷ []) h e = absurd (omega arith)
unmarked (a ∷ b ∷ []) h e = absurd (omega arith)
unmarked (a ∷ b ∷ c ∷ rest) h e = rw e refl
