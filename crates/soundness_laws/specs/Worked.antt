-- Worked sets with valid certificates. First come two tasks on processors of their own, which request one resource.
use Rattle.std.specs.Prelude.{ℕ, ◌+◌, List, [], ◌∷◌, Some}
use Rattle.sporadic_model.specs.SetDef.{SetDef, TaskDef}
use Rattle.program_form.specs.Certificate.{DualDef, CertificateDef}

-- A task on processor k with the period 10 and this cost. It has one request, of this length. Its name is a digit.
abbrev pub task_on : ℕ → ℕ → ℕ → TaskDef
task_on k cost length = record {
  name = (48 + k) ∷ [];
  processor = k;
  period = 10;
  deadline = 10;
  cost = cost;
  local = cost;
  jitter = 0;
  requests = record { resource = 113 ∷ []; count = 1; length = length } ∷ [];
}

-- The resource is named q.
abbrev pub two_tasks : SetDef
two_tasks = record {
  processors = 2;
  resources = record { name = 113 ∷ []; home = Some 2 } ∷ [];
  tasks = task_on 1 3 1 ∷ task_on 2 4 2 ∷ [];
}

-- A dual of whole numbers, and a certificate of such duals.
abbrev pub whole_dual : List ℕ → DualDef
whole_dual num = record { den = 1; num = num }

abbrev pub certificate_of : List ℕ → List ℕ → List ℕ → CertificateDef
certificate_of bounds first second = record { bounds = bounds; duals = whole_dual first ∷ whole_dual second ∷ [] }

-- Each job waits for at most one request of the other: the first for 2 ticks, the second for 1. The programs of FMLP+ have four rows. Those
-- of MPCP and DPCP have three for the first task and two for the second.
abbrev pub two_bounds : CertificateDef
two_bounds = certificate_of (5 ∷ 5 ∷ []) (2 ∷ 0 ∷ 0 ∷ 0 ∷ []) (1 ∷ 0 ∷ 0 ∷ 0 ∷ [])

abbrev pub two_bounds_of_fewer_rows : CertificateDef
two_bounds_of_fewer_rows = certificate_of (5 ∷ 5 ∷ []) (2 ∷ 0 ∷ 0 ∷ []) (1 ∷ 0 ∷ [])

-- Bounds above the least, with duals over other rows.
abbrev pub greater_bounds : CertificateDef
greater_bounds = certificate_of (6 ∷ 5 ∷ []) (0 ∷ 0 ∷ 2 ∷ 0 ∷ []) (0 ∷ 0 ∷ 1 ∷ 0 ∷ [])

-- The same bounds, with the first dual of the least bounds. At these bounds two jobs of the second task count. So that dual is worth 4, and
-- 3 + 4 is more than 6.
abbrev pub too_small_bound : CertificateDef
too_small_bound = certificate_of (6 ∷ 5 ∷ []) (2 ∷ 0 ∷ 0 ∷ 0 ∷ []) (0 ∷ 0 ∷ 1 ∷ 0 ∷ [])

-- Then come two tasks on one processor that request nothing. Their names are digits, and each deadline is the period.
abbrev pub late_task : ℕ → ℕ → ℕ → ℕ → TaskDef
late_task digit period cost jitter = record {
  name = digit ∷ [];
  processor = 1;
  period = period;
  deadline = period;
  cost = cost;
  local = cost;
  jitter = jitter;
  requests = [];
}

-- A job of the first task may be released 4 ticks after it arrives, and so 6 ticks after the job before.
abbrev pub late_tasks : SetDef
late_tasks = record { processors = 1; resources = []; tasks = late_task 49 10 2 4 ∷ late_task 50 20 5 0 ∷ [] }

-- A certificate of bounds without multipliers: the tasks' programs have no column, so no row.
abbrev pub bounds_alone : List ℕ → CertificateDef
bounds_alone bounds = certificate_of bounds [] []
