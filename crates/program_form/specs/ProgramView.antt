-- What contracts see of a `Program`, and what is true of every one.
use Rattle.std.specs.Prelude.{map}
use Rattle.program_form.specs.Program.{ProgramDef, IsProgram}
use Rattle.program_form.specs.declared.program.Program.TheInside.{Inside}

abbrev pub program_view : Inside → ProgramDef
program_view p = record { costs = p.costs.items; rows = map (λ row. row.items) p.rows.items; limits = p.limits.items }

abbrev pub IsKept : Inside → Type 0
IsKept p = IsProgram (program_view p)
