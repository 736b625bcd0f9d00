use Rattle.std.proofs.Common.{◌≡◌, ℕ, ◌<◌, length, get_or}
use Rattle.schedule_answers.specs.TaskAnswers.{no_measure, measure_seen}
use Rattle.trace_conform.specs.Measured.{measures_now}
use Rattle.trace_conform.proofs.measures.measure_all.Given as goal

abbrev pub invariant-loop-x : goal.invariant-loop-x
invariant-loop-x l = record {
  size : length l.measures.items ≡ l.x;
  each : (x : ℕ) → x < l.x → measure_seen (get_or l.measures.items x no_measure) ≡ measures_now l.machine l.counts x;
}
