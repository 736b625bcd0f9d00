-- What contracts see of a block of rows: its numbers. And the lists of a program over it.
use Rattle.std.specs.Prelude.{ℕ, List, map}
use Rattle.std.specs.declared.vec.Vec.{Vec}
use Rattle.std.specs.Global.{Global}
use Rattle.program_form.specs.Program.{ProgramDef}
use Rattle.program_form.specs.declared.row_block.RowBlock.{RowBlock}

-- Some rows of a program, and the limit of each.
pub record RowBlockDef : Type 0 where
  pub rows : List (List ℕ)
  pub limits : List ℕ

-- The numbers of a list of rows.
abbrev pub rows_seen : List (Vec ℕ Global) → List (List ℕ)
rows_seen rows = map (λ row. row.items) rows

abbrev pub block_seen : RowBlock → RowBlockDef
block_seen b = record { rows = rows_seen b.rows.items; limits = b.limits.items }

-- The costs of a program's columns, and its rows with their limits.
abbrev pub lists_of : List ℕ → RowBlockDef → ProgramDef
lists_of costs block = record { costs = costs; rows = block.rows; limits = block.limits }
