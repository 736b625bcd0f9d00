use Rattle.std.proofs.Common.{◌≡◌, ◌*◌, ◌≤◌, length}
use Rattle.study_gen.specs.Counts.{step_begins, StoppedBefore}
use Rattle.study_gen.proofs.TallyLaws.{AreRows}
use Rattle.study_gen.proofs.counting.study.Given as goal

-- the counts of the steps so far, and where the next one begins
abbrev pub invariant-loop-i : goal.invariant-loop-i
invariant-loop-i g l = record {
  count : length l.counts.items ≡ l.i;
  rows : AreRows l.seed l.sets l.counts.items;
  stopped : StoppedBefore l.seed l.sets l.i l.stopped;
  most : l.stopped ≤ 3000 * l.i;
  state : l.state ≡ step_begins l.seed l.sets l.i;
}
