use Rattle.std.proofs.Common.{◌≡◌, length}
use Rattle.sim_engine.proofs.places.no_jobs.Given as goal

abbrev pub invariant-loop : goal.invariant-loop
invariant-loop l = length l.places.items ≡ l.counter
