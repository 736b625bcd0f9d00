use Rattle.std.proofs.Common.{◌-◌, length}
use Rattle.text_cases.proofs.row_text_tests.run_ticks.Given as goal

abbrev pub decreases-loop-ticks : goal.decreases-loop-ticks
decreases-loop-ticks l = length l.reader.rows.runs - l.reader.at
