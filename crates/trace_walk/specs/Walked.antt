-- What a walk over a whole schedule answers.
use Rattle.std.specs.Prelude.{◌≡◌, ℕ, List, Result, Ok, Err}
use Rattle.schedule_model.specs.JobDef.{JobsDef}
use Rattle.schedule_model.specs.RowDef.{RunDef, Trace, row_in, trace_in, ticks_of}
use Rattle.schedule_model.specs.Keeping.{KeepsBefore, IsFirstUnlawful}
use Rattle.schedule_model.specs.declared.rule.Rule.{Rule}
use Rattle.phase_machine.specs.MachineDef.{MachineDef}
use Rattle.phase_machine.specs.Shows.{Shows}
use Rattle.schedule_answers.specs.declared.judged.Unlawful.{Unlawful}
use Rattle.schedule_answers.specs.declared.judged.Unlawful.TheVariants as stop

-- Has the machine taken all rows of the schedule, do they all keep the rules, and is this kept of them?
pub record IsWalked {R : Type 0} (keeps : Rule → Trace → ℕ → Type 0) (kept : Trace → ℕ → R → Type 0) (jobs : JobsDef) (runs : List RunDef)
    (now : R) (m : MachineDef) : Type 0
  where
    pub list : m.list ≡ jobs
    pub tick : m.tick ≡ ticks_of runs
    pub shows : Shows m (row_in runs)
    pub lawful : KeepsBefore keeps (trace_in jobs runs) (ticks_of runs)
    pub are_kept : kept (trace_in jobs runs) (ticks_of runs) now

-- Ok says that this is so. Else the answer names the first row that breaks a rule, and the first rule that it breaks. Only want of memory
-- says nothing of the schedule.
abbrev pub Walks : {R : Type 0} → (Rule → Trace → ℕ → Type 0) → (Trace → ℕ → R → Type 0) → JobsDef → List RunDef → R
    → Result MachineDef Unlawful → Type 0
Walks keeps kept jobs runs now (Ok m) = IsWalked keeps kept jobs runs now m
Walks keeps kept jobs runs now (Err (stop.Broken b)) = IsFirstUnlawful keeps (trace_in jobs runs) (ticks_of runs) b.tick b.rule
Walks keeps kept jobs runs now (Err stop.Memory) = Unit {0}
