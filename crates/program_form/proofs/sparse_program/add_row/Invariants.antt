use Rattle.std.proofs.Common.{◌≡◌, ◌≤◌, ◌-◌, [], ◌∷◌, ◌++◌}
use Rattle.program_form.specs.Program.{columns, limit}
use Rattle.program_form.specs.Listings.{ListsUpTo}
use Rattle.program_form.proofs.sparse_program.add_row.Given as goal

abbrev pub invariant-loop-first : goal.invariant-loop-first
invariant-loop-first l = record {
  within : l.first ≤ columns l.program;
  rows : ListsUpTo l.program l.r l.first l.rows.rows;
  limits : l.rows.limits ≡ l.fn.rows.limits ++ limit l.program l.r ∷ [];
}

abbrev pub decreases-loop-first : goal.decreases-loop-first
decreases-loop-first l = columns l.program - l.first
