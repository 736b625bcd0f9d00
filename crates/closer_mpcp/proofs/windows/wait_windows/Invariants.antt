use Rattle.std.proofs.Common.{◌≡◌, ℕ, ◌<◌, ◌≤◌, true, length, None, unwrap_or}
use Rattle.std.specs.Prelude.{slice_index, slice_index_or}
use Rattle.sporadic_model.specs.Users.{is_user}
use Rattle.mpcp_window_laws.specs.MpcpWindows.{wait_window}
use Rattle.closer_mpcp.proofs.windows.wait_windows.Given as goal

abbrev pub invariant-loop-q : goal.invariant-loop-q
invariant-loop-q l = record {
  one_each : length l.windows.items ≡ l.q;
  each : (q : ℕ) → q < l.q → is_user l.set q l.i.0 ≡ true
      → slice_index_or l.windows.items q None ≡ wait_window l.set (slice_index l.bounds) l.i.0 q;
  small : (q : ℕ) → q < l.q → unwrap_or (slice_index_or l.windows.items q None) 0 ≤ 1000000000;
}
