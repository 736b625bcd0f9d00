-- A worked set: three tasks of one processor that request nothing. Its rounds give the vectors 1 2 3, 1 3 6, 1 3 9 and 1 3 10.
use Rattle.std.specs.Prelude.{ℕ, List, [], ◌∷◌}
use Rattle.program_form.specs.Certificate.{DualDef}
use Rattle.sporadic_model.specs.SetDef.{SetDef, TaskDef}
use Rattle.sporadic_model.specs.declared.ids.Protocol.TheVariants.{FmlpPlus}
use Rattle.program_sources.specs.Recurrence.{SourceDef}
use Rattle.program_laws.specs.Programs.{source_of}

-- A task of this name (one byte), period and cost, without requests.
abbrev pub task_alone : ℕ → ℕ → ℕ → TaskDef
task_alone name period cost = record {
  name = name ∷ [];
  processor = 1;
  period = period;
  deadline = period;
  cost = cost;
  local = cost;
  jitter = 0;
  requests = [];
}

abbrev pub three_alone : SetDef
three_alone = record { processors = 1; resources = []; tasks = task_alone 97 4 1 ∷ task_alone 98 6 2 ∷ task_alone 99 20 3 ∷ [] }

abbrev pub source_alone : SourceDef
source_alone = source_of FmlpPlus three_alone

abbrev pub bounds_alone : List ℕ
bounds_alone = 1 ∷ 3 ∷ 10 ∷ []

-- The dual of a program without rows has no numbers.
abbrev pub duals_alone : List DualDef
duals_alone = record { den = 1; num = [] } ∷ record { den = 1; num = [] } ∷ record { den = 1; num = [] } ∷ []
