-- What is made, and then the values of the rest, is all.
use Rattle.std.proofs.Common.{◌≡◌, ◌++◌, map, drop}
use Rattle.serde_json.specs.View.{view}
use Rattle.refusal_laws.specs.Seen.{step_seen}
use Rattle.refusal_json.specs.Value.{step_data}
use Rattle.refusal_json.proofs.value.values_of_steps.Given as goal

abbrev pub invariant-loop-step : goal.invariant-loop-step
invariant-loop-step l = map view l.values.items ++ map step_data (map step_seen (drop l.step-index l.steps))
    ≡ map step_data (map step_seen l.steps)
