use Rattle.std.proofs.Common.{◌≡◌, ℕ, ◌<◌, ◌≤◌}
use Rattle.phase_machine.specs.MachineDef.{task_in}
use Rattle.phase_machine.proofs.script.next_of.Given as goal

abbrev pub invariant-loop-j : goal.invariant-loop-j
invariant-loop-j l = (e : ℕ) → l.from ≤ e → e < l.j → task_in l.jobs.jobs e ≡ l.x → ⊥
