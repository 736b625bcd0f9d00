use Rattle.std.proofs.Common.{◌≡◌, ◌-◌, length, map}
use Rattle.std.specs.List.{find, range_with_len}
use Rattle.sporadic_model.specs.Seen.{parts_seen}
use Rattle.sporadic_model.specs.Refusals.{is_due, at_resources}
use Rattle.sporadic_model.specs.Faults.{resource_refusal}
use Rattle.sporadic_model.proofs.judging.first_at_resources.Given as goal

abbrev pub invariant-loop-q : goal.invariant-loop-q
invariant-loop-q l =
    find (is_due (parts_seen l.parts)) (map (resource_refusal l.fault) (range_with_len l.q (length (parts_seen l.parts).resources - l.q)))
    ≡ find (is_due (parts_seen l.parts)) (at_resources (parts_seen l.parts) (resource_refusal l.fault))
