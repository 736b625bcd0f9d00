use Rattle.std.proofs.Common.{◌≡◌, ℕ, length, replicate, None, Some}
use Rattle.std.specs.Prelude.{IfOk, slice_get}
use Rattle.response_fixpoint.specs.Places.{AreBelow, parts_with}
use Rattle.response_fixpoint.proofs.places.in_places.Given as goal

-- with what the threads that are left have found the places are those with what all have found
abbrev pub invariant-loop-part : goal.invariant-loop-part
invariant-loop-part g l = record {
  len : length l.places.items ≡ l.count;
  below : (k : ℕ) (part : _) → slice_get l.part-iterator.rest.items k ≡ Some part → IfOk part (λ v. AreBelow l.count v.items);
  each : parts_with l.places.items l.part-iterator.rest.items ≡ parts_with (replicate l.count None) l.fn.parts.items;
}
