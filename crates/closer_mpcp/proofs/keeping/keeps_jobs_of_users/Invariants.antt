use Rattle.std.proofs.Common.{◌≡◌, ℕ, ◌<◌, true}
use Rattle.std.specs.Prelude.{slice_index}
use Rattle.sporadic_model.specs.Users.{is_user}
use Rattle.blocking_columns.specs.Windows.{jobs_during}
use Rattle.closer_mpcp.proofs.keeping.keeps_jobs_of_users.Given as goal

abbrev pub invariant-loop-x : goal.invariant-loop-x
invariant-loop-x l = (y : ℕ) → y < l.x → is_user l.set l.q.0 y ≡ true
    → jobs_during l.set (slice_index l.earlier) l.span y ≡ jobs_during l.set (slice_index l.bounds) l.span y
