use Rattle.std.proofs.Common.{◌≡◌, [], nat_lt, false, slice_index, slice_index_or}
use Rattle.number_laws.specs.Tests.{any_below}
use Rattle.program_form.specs.RowBlock.{rows_seen}
use Rattle.program_form.proofs.program.is_held.Given as goal

abbrev pub invariant-loop-row : goal.invariant-loop-row
invariant-loop-row l = any_below l.row (λ r. nat_lt 0 (slice_index (slice_index_or (rows_seen l.rows) r []) l.column)) ≡ false
