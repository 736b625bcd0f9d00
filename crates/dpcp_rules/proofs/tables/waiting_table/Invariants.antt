use Rattle.std.proofs.Common.{length}
use Rattle.dpcp_rules.specs.Homes.{waiting_place, IsLeast}
use Rattle.dpcp_rules.proofs.tables.waiting_table.Given as goal

abbrev pub invariant-loop-x : goal.invariant-loop-x
invariant-loop-x l = IsLeast (waiting_place l.machine) (λ x. x) (length l.machine.list.set.tasks) l.x l.table.keys
