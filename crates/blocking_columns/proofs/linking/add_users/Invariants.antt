use Rattle.std.proofs.Common.{take}
use Rattle.blocking_columns.specs.Links.{AreKnownRivals, AreRivalsAmong}
use Rattle.blocking_columns.proofs.linking.add_users.Given as goal

abbrev pub invariant-loop-y : goal.invariant-loop-y
invariant-loop-y l = record {
  users : AreRivalsAmong l.i.0 l.r.0 (take l.y-index l.users) l.initial.rivals.items l.rivals.items;
  known : AreKnownRivals l.protocol l.set l.rivals.items;
}
