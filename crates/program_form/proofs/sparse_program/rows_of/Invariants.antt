use Rattle.std.proofs.Common.{◌≡◌, take}
use Rattle.program_form.specs.Listings.{ListsRows}
use Rattle.program_form.proofs.sparse_program.rows_of.Given as goal

abbrev pub invariant-loop-r : goal.invariant-loop-r
invariant-loop-r l = record {
  rows : ListsRows l.program l.r l.rows.rows;
  limits : l.rows.limits ≡ take l.r l.program.limits;
}
