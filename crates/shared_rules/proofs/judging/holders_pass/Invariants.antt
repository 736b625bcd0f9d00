use Rattle.std.proofs.Common.{◌≡◌, true}
use Rattle.number_laws.specs.Tests.{all_below}
use Rattle.schedule_model.specs.Seen.{row_seen}
use Rattle.shared_rules.specs.RowTests.{holder_passes}
use Rattle.shared_rules.proofs.judging.holders_pass.Given as goal

abbrev pub invariant-loop-q : goal.invariant-loop-q
invariant-loop-q l = all_below l.q (holder_passes l.machine (row_seen l.row)) ≡ true
