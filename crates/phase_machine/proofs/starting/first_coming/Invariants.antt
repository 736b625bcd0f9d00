use Rattle.std.proofs.Common.{◌≡◌, ℕ, ◌<◌, length, get_or}
use Rattle.phase_machine.specs.MachineDef.{IsComing}
use Rattle.phase_machine.proofs.starting.first_coming.Given as goal

abbrev pub invariant-loop-x : goal.invariant-loop-x
invariant-loop-x l = record {
  len : length l.coming.items ≡ l.x;
  each : (x : ℕ) → x < l.x → IsComing l.jobs.jobs 0 x (get_or l.coming.items x 0);
}
