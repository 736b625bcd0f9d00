use Rattle.std.proofs.Common.{◌≡◌, ℕ, ◌<◌, true}
use Rattle.std.specs.Prelude.{slice_index}
use Rattle.sporadic_model.specs.Users.{is_user}
use Rattle.mpcp_window_laws.specs.KeptWindows.{KeepsWindow}
use Rattle.closer_mpcp.proofs.keeping.keeps_windows.Given as goal

abbrev pub invariant-loop-q : goal.invariant-loop-q
invariant-loop-q l = (p : ℕ) → p < l.q → is_user l.set p l.i.0 ≡ true
    → KeepsWindow l.set (slice_index l.earlier) (slice_index l.bounds) l.i.0 p
