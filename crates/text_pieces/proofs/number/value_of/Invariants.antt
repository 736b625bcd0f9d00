use Rattle.std.proofs.Common.{◌≡◌, ◌≤◌, ◌-◌, ◌^◌, min, drop}
use Rattle.text_pieces.specs.Numbers.{value_after}
use Rattle.text_pieces.proofs.number.value_of.Given as goal

abbrev pub invariant-loop-digit : goal.invariant-loop-digit
invariant-loop-digit l = record {
  small : l.value ≤ 2 ^ 128 - 1;
  left : min (value_after l.value (drop l.digit-index l.digits)) (2 ^ 128 - 1) ≡ min (value_after 0 l.digits) (2 ^ 128 - 1);
}
