use Rattle.std.proofs.Common.{◌≡◌, ◌<◌, ◌^◌, take}
use Rattle.std.specs.List.{All}
use Rattle.settling.proofs.reached.small_point.Given as goal

abbrev pub invariant-loop-number : goal.invariant-loop-number
invariant-loop-number l = record {
  done : l.numbers.items ≡ take l.number-index l.num;
  small : All (λ k. k < 2 ^ 63) l.numbers.items;
}
