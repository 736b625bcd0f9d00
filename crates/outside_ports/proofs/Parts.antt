-- An input that is read part after part.
use Rattle.std.proofs.Common.{◌≡◌, ℕ, ◌+◌, ◌<◌, ◌==◌, false, List, ◌∷◌, ◌++◌, length, take, refl, ◌∙◌, arith, append_assoc, length-append, None, Some}
use Rattle.std.specs.Prelude.{Option}
use Rattle.std.specs.Io.KnownBytes.{Consumes}
use Rattle.std.proofs.lemmas.Bool.{ne_eqb}
use Rattle.std.proofs.lemmas.List.{append-nil}
use Rattle.outside_ports.specs.Past.{Asked, wholly, partly, extended}

-- one read more, which gave some bytes
pub extended-part : (name bytes : List ℕ) (earlier old new : List Asked) (count : ℕ) (buffer : List ℕ)
    → 0 < count → count ≡ length (take count buffer)
    → old ≡ partly name bytes ∷ earlier → new ≡ extended old (take count buffer) → new ≡ partly name (bytes ++ take count buffer) ∷ earlier
extended-part name bytes earlier old new count buffer some size before read =
    let ended : (length (take count buffer) == 0) ≡ false = ne_eqb _ 0 (λ none. absurd (omega (arith, some, size, none))) in
    read ∙ rw (before, ended) refl

-- a read of none is the end
pub extended-end : (name bytes : List ℕ) (earlier old new : List Asked) (count : ℕ) (buffer : List ℕ) → count ≡ 0
    → old ≡ partly name bytes ∷ earlier → new ≡ extended old (take count buffer) → new ≡ wholly name bytes ∷ earlier
extended-end name bytes earlier old new count buffer none before read = read ∙ rw (before, none, append-nil bytes) refl

-- the bytes and those of one read more
pub length-part : (bytes : List ℕ) (count : ℕ) (buffer : List ℕ) → count ≡ length (take count buffer)
    → length (bytes ++ take count buffer) ≡ length bytes + count
length-part bytes count buffer size = rw (length-append, ← size) refl

-- a rest that lost some bytes, and then more
pub Consumes-next : (old mid new : Option (List ℕ)) (bytes more : List ℕ) → Consumes old mid bytes → Consumes mid new more
    → Consumes old new (bytes ++ more)
Consumes-next None mid new bytes more first second = tt
Consumes-next (Some xs) None new bytes more first second = absurd first
Consumes-next (Some xs) (Some ys) None bytes more first second = absurd second
Consumes-next (Some xs) (Some ys) (Some zs) bytes more first second = rw (first, second, append_assoc) refl
