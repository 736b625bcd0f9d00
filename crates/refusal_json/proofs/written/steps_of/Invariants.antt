-- What is read, and then what the rest writes, is all.
use Rattle.std.proofs.Common.{◌≡◌, ◌++◌, map, drop}
use Rattle.serde_json.specs.View.{view}
use Rattle.refusal_laws.specs.Seen.{step_seen}
use Rattle.refusal_json.specs.Written.{step_written}
use Rattle.refusal_json.proofs.written.steps_of.Given as goal

abbrev pub invariant-loop-value : goal.invariant-loop-value
invariant-loop-value l = map step_seen l.steps.items ++ map step_written (map view (drop l.value-index l.values))
    ≡ map step_written (map view l.values)
