use Rattle.std.proofs.Common.{take}
use Rattle.blocking_columns.specs.Links.{AreKnownRivals, AreRivalsOf}
use Rattle.blocking_columns.proofs.linking.rivals_of.Given as goal

abbrev pub invariant-loop-r : goal.invariant-loop-r
invariant-loop-r l = record {
  rivals : AreRivalsOf l.set l.i.0 (take l.r-index l.used) l.rivals.items;
  known : AreKnownRivals l.protocol l.set l.rivals.items;
}
