use Rattle.std.proofs.Common.{ℕ, ◌<◌, ◌≤◌}
use Rattle.program_form.specs.Program.{entry}
use Rattle.program_form.proofs.sparse_program.bits_between.Given as goal

abbrev pub invariant-loop-c : goal.invariant-loop-c
invariant-loop-c l = (c : ℕ) → l.first ≤ c → c < l.c → entry l.program l.r c ≤ l.bits
