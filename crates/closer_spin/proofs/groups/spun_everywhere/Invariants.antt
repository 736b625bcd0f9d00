use Rattle.std.proofs.Common.{◌≡◌, ℕ, ◌<◌, length}
use Rattle.std.specs.Prelude.{slice_index_or}
use Rattle.closer_spin.specs.declared.groups.SpunThere.{SpunThere}
use Rattle.closer_spin.specs.Groups.{TellsAt}
use Rattle.closer_spin.proofs.groups.spun_everywhere.Given as goal

abbrev pub invariant-loop-k : goal.invariant-loop-k
invariant-loop-k l = record {
  one_each : length l.everywhere.items ≡ l.k;
  each : (n : ℕ) (d : SpunThere) → n < l.k → TellsAt l.set l.i.0 n (slice_index_or l.everywhere.items n d);
}
