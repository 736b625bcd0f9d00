-- The result of a walk over a schedule that measures and charges it.
use Rattle.std.specs.Prelude.{ℕ, Bool, Option, Result, Ok, Err}
use Rattle.std.specs.Global.{Global}
use Rattle.std.specs.declared.vec.Vec.{Vec}
use Rattle.schedule_model.specs.RowDef.{Trace}
use Rattle.schedule_model.specs.Keeping.{KeepsBefore, IsFirstUnlawful}
use Rattle.schedule_model.specs.declared.rule.Rule.{Rule}
use Rattle.schedule_answers.specs.declared.audited.TaskFigures.{TaskFigures}
use Rattle.schedule_answers.specs.declared.judged.Unlawful.{Unlawful}
use Rattle.schedule_answers.specs.declared.judged.Unlawful.TheVariants as stop
use Rattle.charge_laws.specs.Charges.{Charge}
use Rattle.figure_laws.specs.Figures.{AreFigures}

-- Each of the n rows keeps the rules, and these are the figures of each task, with the bounds and the values. Or this is the first row
-- that breaks a rule, with its first broken rule. Running out of memory says nothing about the schedule.
abbrev pub HasFigures : (Rule → Trace → ℕ → Type 0) → (Trace → ℕ → ℕ → Bool) → (Trace → ℕ → ℕ → Option Charge) → Trace → (ℕ → ℕ)
    → (ℕ → ℕ) → ℕ → Result (Vec TaskFigures Global) Unlawful → Type 0
HasFigures keeps interferes charges w bound value n (Ok figures) =
    KeepsBefore keeps w n × AreFigures charges interferes w bound value n figures.items
HasFigures keeps interferes charges w bound value n (Err (stop.Broken b)) = IsFirstUnlawful keeps w n b.tick b.rule
HasFigures keeps interferes charges w bound value n (Err stop.Memory) = Unit {0}
