-- What contracts see of a `SparseProgram`, and what is true of every one.
use Rattle.std.specs.Prelude.{map, length}
use Rattle.program_form.specs.Program.{ProgramDef, IsProgram}
use Rattle.program_form.specs.SparseRows.{full_row, AreListed}
use Rattle.program_form.specs.declared.sparse_program.SparseProgram.TheInside.{Inside}

abbrev pub sparse_view : Inside → ProgramDef
sparse_view p = record {
  costs = p.costs.items;
  rows = map (full_row (length p.costs.items)) p.rows.rows;
  limits = p.rows.limits;
}

pub record IsKept (p : Inside) : Type 0 where
  pub program : IsProgram (sparse_view p)
  pub listed : AreListed (length p.costs.items) p.rows.rows
