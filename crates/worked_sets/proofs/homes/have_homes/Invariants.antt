-- The resources before q have homes.
use Rattle.std.proofs.Common.{ℕ, ◌<◌}
use Rattle.std.specs.Prelude.{IsSome}
use Rattle.sporadic_model.specs.SetDef.{resource_at}
use Rattle.worked_sets.proofs.homes.have_homes.Given as goal

abbrev pub invariant-loop-q : goal.invariant-loop-q
invariant-loop-q l = (k : ℕ) → k < l.q → IsSome (resource_at l.set k).home
