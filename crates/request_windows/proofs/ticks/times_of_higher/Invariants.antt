use Rattle.std.proofs.Common.{◌≡◌, ℕ, ◌<◌, ◌≤◌, length}
use Rattle.std.specs.Prelude.{slice_index}
use Rattle.window_laws.specs.Windows.{time_at}
use Rattle.request_windows.proofs.ticks.times_of_higher.Given as goal

abbrev pub invariant-loop-x : goal.invariant-loop-x
invariant-loop-x l = record {
  len : length l.times ≡ 64;
  each : (x : ℕ) → x < l.x → slice_index l.times x ≡ time_at l.set x l.k;
  small : (x : ℕ) → x < l.x → slice_index l.times x ≤ 32000000000000;
}
