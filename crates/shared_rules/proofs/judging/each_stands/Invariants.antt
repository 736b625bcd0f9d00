use Rattle.std.proofs.Common.{◌≡◌, true}
use Rattle.number_laws.specs.Tests.{all_below}
use Rattle.schedule_model.specs.Seen.{row_seen}
use Rattle.shared_rules.specs.RowTests.{column_passes}
use Rattle.shared_rules.proofs.judging.each_stands.Given as goal

abbrev pub invariant-loop-c : goal.invariant-loop-c
invariant-loop-c g l = all_below l.c (column_passes l.machine (g.C.Columns.column l.columns l.machine) (row_seen l.row)) ≡ true
