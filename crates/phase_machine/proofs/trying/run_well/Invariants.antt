use Rattle.std.proofs.Common.{ℕ, ◌<◌}
use Rattle.phase_machine.specs.Taking.{RunsAlone}
use Rattle.phase_machine.proofs.trying.run_well.Given as goal

abbrev pub invariant-loop-c : goal.invariant-loop-c
invariant-loop-c l = (c : ℕ) → c < l.c → RunsAlone l.machine l.running c
