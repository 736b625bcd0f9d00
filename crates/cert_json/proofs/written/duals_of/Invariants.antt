-- What is read, and then what the rest writes, is all.
use Rattle.std.proofs.Common.{◌≡◌, ◌++◌, map, drop}
use Rattle.serde_json.specs.View.{view}
use Rattle.program_form.specs.Certificate.{dual_seen}
use Rattle.cert_json.specs.Written.{dual_written}
use Rattle.cert_json.proofs.written.duals_of.Given as goal

abbrev pub invariant-loop-value : goal.invariant-loop-value
invariant-loop-value l = map dual_seen l.duals.items ++ map dual_written (map view (drop l.value-index l.values))
    ≡ map dual_written (map view l.values)
