use Rattle.charge.specs.Due.{IsUntilDue}
use Rattle.charge.proofs.due.until_due.Given as goal

abbrev pub invariant-loop-x : goal.invariant-loop-x
invariant-loop-x l = IsUntilDue l.machine l.bounds l.ticks l.least l.x
