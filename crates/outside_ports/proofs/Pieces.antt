-- Pieces of a text that are written one after another.
use Rattle.std.proofs.Common.{◌≡◌, ℕ, ◌+◌, ◌-◌, ◌≤◌, List, length, take, drop, None, Some, arith, append_assoc, length-drop}
use Rattle.std.proofs.lemmas.List.{take_rest}
use Rattle.std.proofs.Math.Seq.{take-add}
use Rattle.std.specs.Prelude.{Option}
use Rattle.std.specs.Io.KnownBytes.{Appends}

-- the first `sent` bytes and then a piece of the rest are the first bytes together
pub Appends-next : (old mid new : Option (List ℕ)) (text : List ℕ) (sent count : ℕ) → Appends old mid (take sent text)
    → Appends mid new (take count (take (length text - sent) (drop sent text))) → Appends old new (take (sent + count) text)
Appends-next None mid new text sent count first second = tt
Appends-next (Some xs) None new text sent count first second = absurd first
Appends-next (Some xs) (Some ys) None text sent count first second = absurd second
Appends-next (Some xs) (Some ys) (Some zs) text sent count first second = rw (second, first, take_rest, take-add, append_assoc)

-- the rest of a text is as long as what is not sent
pub length-rest : (text : List ℕ) (sent : ℕ) → length (take (length text - sent) (drop sent text)) ≤ length text - sent
length-rest text sent = rw take_rest (omega (arith, length-drop sent text))

-- what is left after `sent` and `count` bytes
pub sub_sub : (n sent count : ℕ) → n - sent - count ≡ n - (sent + count)
sub_sub n sent count = omega arith
