use Rattle.std.proofs.Common.{◌≡◌, ℕ, ◌<◌, length}
use Rattle.std.specs.Prelude.{slice_index_or}
use Rattle.closer_mpcp.specs.Tables.{AreFirstBeside}
use Rattle.closer_mpcp.proofs.first_ticks.first_of_tasks.Given as goal

abbrev pub invariant-loop-x : goal.invariant-loop-x
invariant-loop-x l = record {
  one_each : length l.first ≡ 64;
  each : (x : ℕ) → x < l.x → AreFirstBeside l.set x l.q.0 (slice_index_or l.first x (record { longest = 0; all = 0 }));
}
