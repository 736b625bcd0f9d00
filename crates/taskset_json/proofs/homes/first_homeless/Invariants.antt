-- The resources before q have homes.
use Rattle.std.proofs.Common.{◌≡◌, ℕ, ◌<◌, false}
use Rattle.std.specs.Option.{is_none}
use Rattle.sporadic_model.specs.SetDef.{resource_at}
use Rattle.taskset_json.proofs.homes.first_homeless.Given as goal

abbrev pub invariant-loop-q : goal.invariant-loop-q
invariant-loop-q l = (k : ℕ) → k < l.q → is_none (resource_at l.set k).home ≡ false
