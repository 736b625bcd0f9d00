-- A worked program: two columns of one task, and one column of another, with costs 3, 2 and 2. A task requests each resource at most once,
-- and executes no longer than its cost. The analysed task requests each resource once.
use Rattle.std.specs.Prelude.{[], ◌∷◌}
use Rattle.program_form.specs.Certificate.{DualDef}
use Rattle.program_form.specs.Program.{ProgramDef}

abbrev pub seven_rows : ProgramDef
seven_rows = record {
  costs = 3 ∷ 2 ∷ 2 ∷ [];
  rows = (1 ∷ 0 ∷ 0 ∷ []) ∷ (0 ∷ 1 ∷ 0 ∷ []) ∷ (0 ∷ 0 ∷ 1 ∷ []) ∷ (3 ∷ 2 ∷ 0 ∷ []) ∷ (0 ∷ 0 ∷ 2 ∷ []) ∷ (1 ∷ 0 ∷ 1 ∷ [])
      ∷ (0 ∷ 1 ∷ 0 ∷ []) ∷ [];
  limits = 1 ∷ 1 ∷ 1 ∷ 4 ∷ 3 ∷ 1 ∷ 1 ∷ [];
}

-- its best dual: 0, 4/3, 0, 1/3, 0, 2, 0
abbrev pub seven_rows_dual : DualDef
seven_rows_dual = record { den = 3; num = 0 ∷ 4 ∷ 0 ∷ 1 ∷ 0 ∷ 6 ∷ 0 ∷ [] }
