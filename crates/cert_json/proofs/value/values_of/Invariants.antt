-- What is made, and then the values of the rest, is all.
use Rattle.std.proofs.Common.{◌≡◌, ◌++◌, map, drop}
use Rattle.serde_json.specs.View.{view}
use Rattle.cert_json.specs.Value.{number_data}
use Rattle.cert_json.proofs.value.values_of.Given as goal

abbrev pub invariant-loop-n : goal.invariant-loop-n
invariant-loop-n l = map view l.values.items ++ map number_data (drop l.n-index l.numbers) ≡ map number_data l.numbers
