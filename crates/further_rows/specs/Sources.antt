-- The source of programs that are made of other columns and rows than those of a plain protocol's source.
use Rattle.std.specs.Prelude.{ℕ, List}
use Rattle.sporadic_model.specs.SetDef.{SetDef}
use Rattle.program_sources.specs.Recurrence.{SourceDef}
use Rattle.blocking_columns.specs.ColumnDef.{ColumnDef}
use Rattle.fragments.specs.Constraints.{ConstraintDef}
use Rattle.program_laws.specs.Programs.{program_with}

-- Programs of these columns and rows; interference is counted as in the plain source.
abbrev pub further_source : (SetDef → SourceDef) → (SetDef → ℕ → List ColumnDef) → (SetDef → ℕ → List ConstraintDef) → SetDef → SourceDef
further_source plain columns rows set =
    record { set = set; program = λ i. program_with set (columns set i) (rows set i); interfering = (plain set).interfering }
