use Rattle.std.proofs.Common.{◌≡◌, ◌++◌, drop}
use Rattle.std.specs.List.{filter}
use Rattle.blocking_columns.specs.Links.{is_at}
use Rattle.blocking_columns.proofs.linking.add_links.Given as goal

abbrev pub invariant-loop-rival : goal.invariant-loop-rival
invariant-loop-rival l = l.links.items ++ filter (is_at l.k) (drop l.rival-index l.rivals)
    ≡ l.initial.links.items ++ filter (is_at l.k) l.rivals
