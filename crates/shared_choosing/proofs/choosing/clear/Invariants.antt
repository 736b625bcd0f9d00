use Rattle.std.proofs.Common.{◌≡◌, ℕ, ◌<◌, length, map, None}
use Rattle.schedule_model.specs.Seen.{place_seen}
use Rattle.shared_choosing.specs.Scene.{place_in}
use Rattle.shared_choosing.proofs.choosing.clear.Given as goal

abbrev pub invariant-loop-i : goal.invariant-loop-i
invariant-loop-i l = record {
  len : length l.places ≡ length l.initial.places;
  empty : (k : ℕ) → k < l.i → place_in (map place_seen l.places) k ≡ None;
}
