use Rattle.std.proofs.Common.{◌≡◌, ◌+◌, ◌≤◌, drop}
use Rattle.response_fixpoint.specs.Sharing.{due_in}
use Rattle.response_fixpoint.proofs.ahead.due_in.Given as goal

-- those so far, and those of the rest, are all
abbrev pub invariant-loop-planned : goal.invariant-loop-planned
invariant-loop-planned l = record {
  few : l.due ≤ l.planned-index;
  left : l.due + due_in (drop l.planned-index l.plan) ≡ due_in l.plan;
}
