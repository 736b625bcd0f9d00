-- Which tasks a failure may name.
use Rattle.std.specs.Prelude.{◌<◌, length}
use Rattle.sporadic_model.specs.SetDef.{SetDef}
use Rattle.schedule_answers.specs.declared.checked.Invalid.{Invalid}
use Rattle.schedule_answers.specs.declared.checked.Invalid.TheVariants as invalid

-- Is the task that the failure names, if any, one of the set? Want of memory is no failure.
abbrev pub FailsTask : SetDef → Invalid → Type 0
FailsTask set invalid.Size = Unit {0}
FailsTask set (invalid.Bound i) = i.0 < length set.tasks
FailsTask set (invalid.DualSize i) = i.0 < length set.tasks
FailsTask set (invalid.Cover i k) = i.0 < length set.tasks
FailsTask set (invalid.Small i) = i.0 < length set.tasks
FailsTask set invalid.Memory = ⊥
