use Rattle.std.proofs.Common.{◌≡◌, ℕ, ◌<◌, ◌≤◌, length, get_or}
use Rattle.phase_machine.specs.MachineDef.{IsComing}
use Rattle.phase_machine.proofs.stepping.move_on.Given as goal

abbrev pub invariant-loop-x : goal.invariant-loop-x
invariant-loop-x l = record {
  len : length l.coming ≡ length l.initial.coming;
  moved : (y : ℕ) → y < l.x → IsComing l.jobs.jobs l.tick y (get_or l.coming y 0);
  rest : (y : ℕ) → l.x ≤ y → get_or l.coming y 0 ≡ get_or l.initial.coming y 0;
}
