-- What is read, and then what the rest writes, is all.
use Rattle.std.proofs.Common.{◌≡◌, ◌++◌, map, drop}
use Rattle.serde_json.specs.View.{view}
use Rattle.cert_json.specs.Written.{numbers_written}
use Rattle.cert_json.proofs.written.numbers_of.Given as goal

abbrev pub invariant-loop-value : goal.invariant-loop-value
invariant-loop-value l = l.numbers.items ++ numbers_written (map view (drop l.value-index l.values)) ≡ numbers_written (map view l.values)
