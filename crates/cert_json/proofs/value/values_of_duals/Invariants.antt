-- What is made, and then the values of the rest, is all.
use Rattle.std.proofs.Common.{◌≡◌, ◌++◌, map, drop}
use Rattle.serde_json.specs.View.{view}
use Rattle.program_form.specs.Certificate.{dual_seen}
use Rattle.cert_json.specs.Value.{dual_data}
use Rattle.cert_json.proofs.value.values_of_duals.Given as goal

abbrev pub invariant-loop-dual : goal.invariant-loop-dual
invariant-loop-dual l = map view l.values.items ++ map dual_data (map dual_seen (drop l.dual-index l.duals))
    ≡ map dual_data (map dual_seen l.duals)
