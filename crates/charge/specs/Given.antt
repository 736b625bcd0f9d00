-- What the functions here are given: bounds, and a lawful row whose ticks are charged.
use Rattle.std.specs.Prelude.{◌≡◌, ℕ, ◌<◌, List, length, slice_index}
use Rattle.sporadic_model.specs.SetDef.{SetDef}
use Rattle.schedule_model.specs.RowDef.{Trace}
use Rattle.schedule_model.specs.Fitting.{RowsDef}
use Rattle.schedule_model.specs.declared.rule.Rule.{Rule}
use Rattle.phase_machine.specs.MachineDef.{MachineDef}
use Rattle.charge_laws.specs.Windows.{AreBounds}
use Rattle.trace_walk.specs.LawfulRow.{IsAtLawfulRow}

-- Has each task of the set a bound, from 1 to its latest one?
pub record BoundEachTask (set : SetDef) (ticks : List ℕ) : Type 0 where
  pub one_each : length ticks ≡ length set.tasks
  pub bounds : AreBounds set (slice_index ticks)

-- Is x a task of the machine's set, with such bounds?
pub record IsBoundedTask (m : MachineDef) (bounds : List ℕ) (x : ℕ) : Type 0 where
  pub task : x < length m.list.set.tasks
  pub bounded : BoundEachTask m.list.set bounds

-- Is j a listed job of the machine, with such bounds?
pub record IsBoundedJob (m : MachineDef) (bounds : List ℕ) (j : ℕ) : Type 0 where
  pub listed : j < length m.list.jobs
  pub bounded : BoundEachTask m.list.set bounds

-- Can the machine's next row be charged? It is of run number i and keeps the rules, the set suits them, and each task has a bound.
pub record CanCharge (suited : SetDef → Type 0) (keeps : Rule → Trace → ℕ → Type 0) (rows : RowsDef) (i : ℕ) (m : MachineDef)
    (bounds : List ℕ) : Type 0
  where
    pub suits : suited m.list.set
    pub row : IsAtLawfulRow keeps rows i m
    pub bounded : BoundEachTask m.list.set bounds
