use Rattle.std.proofs.Common.{◌≡◌, ◌-◌, length, map}
use Rattle.std.specs.List.{find, range_with_len}
use Rattle.sporadic_model.specs.Seen.{parts_seen}
use Rattle.sporadic_model.specs.Refusals.{is_due, at_tasks}
use Rattle.sporadic_model.specs.Faults.{task_refusal}
use Rattle.sporadic_model.proofs.judging.first_at_tasks.Given as goal

abbrev pub invariant-loop-x : goal.invariant-loop-x
invariant-loop-x l =
    find (is_due (parts_seen l.parts)) (map (task_refusal l.fault) (range_with_len l.x (length (parts_seen l.parts).tasks - l.x)))
    ≡ find (is_due (parts_seen l.parts)) (at_tasks (parts_seen l.parts) (task_refusal l.fault))
