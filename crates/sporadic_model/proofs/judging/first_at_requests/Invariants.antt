use Rattle.std.proofs.Common.{◌≡◌, ◌-◌, length, map}
use Rattle.std.specs.List.{find, range_with_len, flat_map}
use Rattle.sporadic_model.specs.SetDef.{task_at}
use Rattle.sporadic_model.specs.Seen.{parts_seen}
use Rattle.sporadic_model.specs.Users.{numbers}
use Rattle.sporadic_model.specs.Refusals.{is_due, at_requests}
use Rattle.sporadic_model.specs.Faults.{request_refusal}
use Rattle.sporadic_model.proofs.judging.first_at_requests.Given as goal

abbrev pub invariant-loop-x : goal.invariant-loop-x
invariant-loop-x l =
    find (is_due (parts_seen l.parts))
    (flat_map (λ x. map (request_refusal l.fault x) (numbers (length (task_at (parts_seen l.parts) x).requests)))
    (range_with_len l.x (length (parts_seen l.parts).tasks - l.x)))
    ≡ find (is_due (parts_seen l.parts)) (at_requests (parts_seen l.parts) (request_refusal l.fault))
