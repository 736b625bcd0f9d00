-- A worked set: three tasks on three processors, and two resources. The first two tasks request both, and the third requests the first one.
use Rattle.std.specs.Prelude.{ℕ, ◌+◌, List, [], ◌∷◌, None}
use Rattle.program_form.specs.Program.{ProgramDef, columns, height}
use Rattle.sporadic_model.specs.SetDef.{SetDef, TaskDef, RequestDef}

-- A name of one letter.
abbrev pub letter : ℕ → List ℕ
letter n = (97 + n) ∷ []

-- One request of resource q, of this length.
abbrev pub one_request : ℕ → ℕ → RequestDef
one_request q length = record { resource = letter q; count = 1; length = length }

-- A task of period 100 on processor k, with this cost.
abbrev pub task_on : ℕ → ℕ → List RequestDef → TaskDef
task_on k cost requests = record {
  name = letter k;
  processor = k;
  period = 100;
  deadline = 100;
  cost = cost;
  local = cost;
  jitter = 0;
  requests = requests;
}

abbrev pub three_tasks : SetDef
three_tasks = record {
  processors = 3;
  resources = record { name = letter 0; home = None } ∷ record { name = letter 1; home = None } ∷ [];
  tasks = task_on 1 4 (one_request 0 1 ∷ one_request 1 1 ∷ [])
      ∷ task_on 2 4 (one_request 0 3 ∷ one_request 1 2 ∷ [])
      ∷ task_on 3 3 (one_request 0 2 ∷ []) ∷ [];
}

-- How many columns and rows has a program?
abbrev pub sizes : ProgramDef → ℕ × ℕ
sizes p = (columns p, height p)
