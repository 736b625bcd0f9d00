use Rattle.std.proofs.Common.{take}
use Rattle.audit_figures.specs.Sums.{AreItemSums}
use Rattle.audit_figures.proofs.sums.add_items.Given as goal

-- the sums of the items so far
abbrev pub invariant-loop-item : goal.invariant-loop-item
invariant-loop-item l = AreItemSums l.jobs (take l.item-index l.items) l.sums
