use Rattle.std.proofs.Common.{length}
use Rattle.dpcp_rules.specs.Homes.{ceiling_now, kept_place, IsLeast}
use Rattle.dpcp_rules.proofs.tables.kept_table.Given as goal

abbrev pub invariant-loop-q : goal.invariant-loop-q
invariant-loop-q l = IsLeast (kept_place l.machine) (ceiling_now l.machine) (length l.machine.list.set.tasks) l.q l.table.keys
