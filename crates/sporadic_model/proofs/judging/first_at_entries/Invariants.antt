use Rattle.std.proofs.Common.{◌≡◌, ◌-◌, length, map}
use Rattle.std.specs.List.{find, range_with_len}
use Rattle.sporadic_model.specs.SetDef.{task_at}
use Rattle.sporadic_model.specs.Seen.{parts_seen}
use Rattle.sporadic_model.specs.Users.{numbers}
use Rattle.sporadic_model.specs.Refusals.{is_due}
use Rattle.sporadic_model.specs.Faults.{request_refusal}
use Rattle.sporadic_model.proofs.judging.first_at_entries.Given as goal

abbrev pub invariant-loop-j : goal.invariant-loop-j
invariant-loop-j l =
    find (is_due (parts_seen l.parts))
    (map (request_refusal l.fault l.x) (range_with_len l.j (length (task_at (parts_seen l.parts) l.x).requests - l.j)))
    ≡ find (is_due (parts_seen l.parts)) (map (request_refusal l.fault l.x) (numbers (length (task_at (parts_seen l.parts) l.x).requests)))
