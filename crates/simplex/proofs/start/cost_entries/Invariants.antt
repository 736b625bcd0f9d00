use Rattle.program_form.specs.Program.{height}
use Rattle.simplex.specs.Starts.{AreFirstEntries}
use Rattle.simplex.proofs.start.cost_entries.Given as goal

abbrev pub invariant-loop-c : goal.invariant-loop-c
invariant-loop-c l = AreFirstEntries l.program (height l.program) l.c l.entries.items
