-- Which tasks an analysis may name.
use Rattle.std.specs.Prelude.{◌<◌, length, Result, Ok, Err}
use Rattle.sporadic_model.specs.SetDef.{SetDef}
use Rattle.response_fixpoint.specs.declared.verdict.Verdict.{Verdict}
use Rattle.response_fixpoint.specs.declared.verdict.Verdict.TheVariants as verdict
use Rattle.response_fixpoint.specs.declared.verdict.Stop.{Stop}
use Rattle.response_fixpoint.specs.declared.verdict.Stop.TheVariants as stop

-- Is the task that the answer names, if any, a task of the set?
abbrev pub NamesTask : SetDef → Result Verdict Stop → Type 0
NamesTask set (Ok (verdict.NotShown task bound)) = task.0 < length set.tasks
NamesTask set (Err (stop.Wide task)) = task.0 < length set.tasks
NamesTask set _ = Unit {0}
