-- What is read, and then what the rest writes, is all.
use Rattle.std.proofs.Common.{◌≡◌, ◌++◌, map, drop}
use Rattle.serde_json.specs.View.{view}
use Rattle.sporadic_model.specs.Seen.{request_seen}
use Rattle.taskset_json.specs.Written.{request_written}
use Rattle.taskset_json.proofs.written.requests_of.Given as goal

abbrev pub invariant-loop-value : goal.invariant-loop-value
invariant-loop-value l = map request_seen l.requests.items
    ++ map request_written (map view (drop l.value-index l.values)) ≡ map request_written (map view l.values)
