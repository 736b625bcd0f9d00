use Rattle.blocking_columns.specs.Links.{AreParted}
use Rattle.blocking_columns.proofs.linking.links_by_processor.Given as goal

abbrev pub invariant-loop-k : goal.invariant-loop-k
invariant-loop-k l = AreParted l.k l.rivals l.links.items l.begins.items
