use Rattle.std.proofs.Common.{◌≡◌, ℕ, ◌<◌}
use Rattle.std.specs.Prelude.{slice_index}
use Rattle.blocking_columns.specs.Windows.{jobs_in}
use Rattle.protocol_programs.proofs.keeping.keeps_jobs.Given as goal

-- as many jobs of the tasks above x can run
abbrev pub invariant-loop-x : goal.invariant-loop-x
invariant-loop-x l = (y : ℕ) → y < l.x → jobs_in l.set (slice_index l.earlier) l.i.0 y ≡ jobs_in l.set (slice_index l.bounds) l.i.0 y
