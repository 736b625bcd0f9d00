use Rattle.std.proofs.Common.{◌≡◌, true}
use Rattle.number_laws.specs.Tests.{all_below}
use Rattle.schedule_model.specs.Seen.{row_seen}
use Rattle.shared_rules.specs.RowTests.{kept_passes}
use Rattle.shared_rules.proofs.judging.passes_keep.Given as goal

abbrev pub invariant-loop-q : goal.invariant-loop-q
invariant-loop-q l = all_below l.q (kept_passes l.machine (row_seen l.row)) ≡ true
