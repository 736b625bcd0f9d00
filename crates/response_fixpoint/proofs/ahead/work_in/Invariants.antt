use Rattle.std.proofs.Common.{◌≡◌, ◌+◌, ◌-◌, ◌^◌, ◌≤◌, min, drop}
use Rattle.response_fixpoint.specs.Sharing.{work_in}
use Rattle.response_fixpoint.proofs.ahead.work_in.Given as goal

-- what was counted so far, and the rest, is all, no further than the greatest number
abbrev pub invariant-loop-planned : goal.invariant-loop-planned
invariant-loop-planned l = record {
  small : l.work ≤ 2 ^ 64 - 1;
  left : min (l.work + work_in (drop l.planned-index l.plan)) (2 ^ 64 - 1) ≡ min (work_in l.plan) (2 ^ 64 - 1);
}
