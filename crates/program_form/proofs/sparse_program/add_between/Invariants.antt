use Rattle.std.proofs.Common.{◌≡◌}
use Rattle.program_form.specs.Listings.{ListsUpTo}
use Rattle.program_form.proofs.sparse_program.add_between.Given as goal

abbrev pub invariant-loop-column : goal.invariant-loop-column
invariant-loop-column l = record {
  rows : ListsUpTo l.program l.r l.column l.rows.rows;
  limits : l.rows.limits ≡ l.initial.rows.limits;
}
