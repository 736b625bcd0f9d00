-- After each read the bytes are what was given and what the rest lost, and they are those of the last reading.
use Rattle.std.proofs.Common.{◌≡◌, ℕ, ◌+◌, ◌-◌, ◌≤◌, List, ◌∷◌, vec_len, true}
use Rattle.std.specs.Prelude.{is_some}
use Rattle.std.specs.Io.KnownBytes.{Consumes}
use Rattle.outside_ports.specs.Past.{Asked, begun, partly}
use Rattle.outside_ports.proofs.whole.read_all.Given as goal

abbrev pub invariant-loop-count : goal.invariant-loop-count
invariant-loop-count g l = record {
  names : (g.S.Shelf.seen l.shelf).names ≡ (g.S.Shelf.seen l.initial.shelf).names;
  tells : is_some (g.S.Shelf.seen l.shelf).rest ≡ is_some (g.S.Shelf.seen l.initial.shelf).rest;
  most : vec_len l.bytes ≤ 67108864;
  given : (g.S.Shelf.seen l.shelf).given ≡ vec_len l.bytes;
  calm : (g.S.Shelf.seen l.shelf).faults ≡ (g.S.Shelf.seen l.initial.shelf).faults;
  calls : (g.S.Shelf.seen l.shelf).calls ≤ (g.S.Shelf.seen l.initial.shelf).calls + vec_len l.bytes;
  steady : (g.S.Shelf.seen l.initial.shelf).steady ≡ true
      → ((g.S.Shelf.seen l.shelf).steady ≡ true) × ((g.S.Shelf.seen l.shelf).faults ≡ (g.S.Shelf.seen l.initial.shelf).faults);
  parts : (name : List ℕ) → (earlier : List Asked) → (g.S.Shelf.seen l.initial.shelf).readings ≡ begun name ∷ earlier
      → (g.S.Shelf.seen l.shelf).readings ≡ partly name l.bytes.items ∷ earlier;
  taken : Consumes (g.S.Shelf.seen l.initial.shelf).rest (g.S.Shelf.seen l.shelf).rest l.bytes.items;
}

abbrev pub decreases-loop-count : goal.decreases-loop-count
decreases-loop-count g l = 67108864 - vec_len l.bytes
