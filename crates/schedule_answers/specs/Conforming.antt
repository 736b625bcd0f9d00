-- What does the answer on a schedule say?
use Rattle.std.specs.Prelude.{◌≡◌, ℕ, ◌<◌, Bool, length, Result, Ok, Err, slice_index_or}
use Rattle.schedule_model.specs.RowDef.{Trace}
use Rattle.schedule_model.specs.Keeping.{KeepsBefore, IsFirstUnlawful}
use Rattle.schedule_model.specs.Measures.{measures_of}
use Rattle.schedule_model.specs.declared.rule.Rule.{Rule}
use Rattle.schedule_answers.specs.declared.judged.Measured.{Measured}
use Rattle.schedule_answers.specs.declared.judged.Unlawful.{Unlawful}
use Rattle.schedule_answers.specs.declared.judged.Unlawful.TheVariants as unlawful
use Rattle.schedule_answers.specs.TaskAnswers.{measure_seen, no_measure}

-- Are these the measures of each task over n rows?
pub record AreMeasures (interferes : Trace → ℕ → ℕ → Bool) (w : Trace) (n : ℕ) (m : Measured) : Type 0 where
  pub size : length m.tasks.items ≡ length w.set.tasks
  pub each : (x : ℕ) → x < length w.set.tasks → measure_seen (slice_index_or m.tasks.items x no_measure) ≡ measures_of interferes w n x

-- Either each of the n rows keeps the rules, and these are the measures. Or the answer names the first row that breaks a rule, and the
-- first rule that it breaks. Only want of memory says nothing of the schedule.
abbrev pub Conforms : (Rule → Trace → ℕ → Type 0) → (Trace → ℕ → ℕ → Bool) → Trace → ℕ → Result Measured Unlawful → Type 0
Conforms keeps interferes w n (Ok m) = KeepsBefore keeps w n × AreMeasures interferes w n m
Conforms keeps interferes w n (Err (unlawful.Broken b)) = IsFirstUnlawful keeps w n b.tick b.rule
Conforms keeps interferes w n (Err unlawful.Memory) = Unit {0}
