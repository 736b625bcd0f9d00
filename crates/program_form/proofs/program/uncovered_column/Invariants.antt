use Rattle.std.proofs.Common.{◌≡◌, ℕ, ◌<◌, true}
use Rattle.program_form.specs.Refusals.{is_covered}
use Rattle.program_form.specs.RowBlock.{rows_seen}
use Rattle.program_form.proofs.program.uncovered_column.Given as goal

abbrev pub invariant-loop-column : goal.invariant-loop-column
invariant-loop-column l = (c : ℕ) → c < l.column → is_covered (rows_seen l.rows) c ≡ true
