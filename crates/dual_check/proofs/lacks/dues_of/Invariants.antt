use Rattle.std.proofs.Common.{◌≡◌, ℕ, ◌*◌, ◌<◌, length, slice_index}
use Rattle.program_form.specs.Program.{cost}
use Rattle.dual_check.proofs.lacks.dues_of.Given as goal

abbrev pub invariant-loop-c : goal.invariant-loop-c
invariant-loop-c l = record {
  one_each : length l.lacks.items ≡ l.c;
  each : (k : ℕ) → k < l.c → slice_index l.lacks.items k ≡ l.dual.den * cost l.program k;
}
