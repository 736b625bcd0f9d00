use Rattle.std.proofs.Common.{◌≡◌, ℕ, ◌||◌, Bool, length}
use Rattle.number_laws.specs.Tests.{found_below}
use Rattle.schedule_model.specs.Seen.{place_seen}
use Rattle.charge.specs.Due.{is_due_below}
use Rattle.charge.proofs.due.first_of_due.Given as goal

abbrev pub invariant-loop-x : goal.invariant-loop-x
invariant-loop-x l = (passes : ℕ → Bool) → place_seen l.fn.first ≡ found_below (length l.machine.list.jobs) passes
    → place_seen l.least ≡ found_below (length l.machine.list.jobs) (λ j. passes j || is_due_below l.machine l.bounds l.x j)
