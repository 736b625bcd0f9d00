use Rattle.std.proofs.Common.{◌≡◌, ◌++◌, map, drop}
use Rattle.sporadic_model.specs.Seen.{request_seen}
use Rattle.worked_sets.specs.Rows.{entry_in}
use Rattle.worked_sets.proofs.building.requests_of.Given as goal

abbrev pub invariant-loop-entry : goal.invariant-loop-entry
invariant-loop-entry l = map request_seen l.requests.items ++ map entry_in (drop l.entry-index l.entries) ≡ map entry_in l.entries
