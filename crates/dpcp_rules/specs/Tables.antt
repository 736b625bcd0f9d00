-- The two tables of a machine, with the least key at each processor.
use Rattle.std.specs.Prelude.{◌≡◌, ℕ, ◌≤◌, List, length}
use Rattle.sporadic_model.specs.Accepted.{IsAccepted}
use Rattle.phase_machine.specs.MachineDef.{MachineDef}
use Rattle.dpcp_rules.specs.Homes.{waiting_place, kept_place, ceiling_now, IsLeast}

-- Is it this place: a processor of the set, or 0?
pub record IsPlace (m : MachineDef) (place k : ℕ) : Type 0 where
  pub value : k ≡ place
  pub most : k ≤ m.list.set.processors

-- Does the table say for each processor which task is the first that waits there, and the number of tasks if none does?
abbrev pub TellsFirst : MachineDef → List ℕ → Type 0
TellsFirst m table = IsLeast (waiting_place m) (λ x. x) (length m.list.set.tasks) (length m.list.set.tasks) table

-- Does it say which ceiling is the least that is kept there, and the number of tasks if none is?
abbrev pub TellsBars : MachineDef → List ℕ → Type 0
TellsBars m table = IsLeast (kept_place m) (ceiling_now m) (length m.list.set.tasks) (length m.list.set.resources) table

-- Are these the two tables, and is the set accepted?
pub record AreTables (m : MachineDef) (t u : List ℕ) : Type 0 where
  pub first : TellsFirst m t
  pub bars : TellsBars m u
  pub accepted : IsAccepted m.list.set
