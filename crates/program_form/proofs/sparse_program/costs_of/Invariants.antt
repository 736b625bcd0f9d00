use Rattle.std.proofs.Common.{◌≡◌, take}
use Rattle.program_form.proofs.sparse_program.costs_of.Given as goal

abbrev pub invariant-loop-c : goal.invariant-loop-c
invariant-loop-c l = l.list.items ≡ take l.c l.program.costs
