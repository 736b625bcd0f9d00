use Rattle.std.proofs.Common.{arith}
use Rattle.whole_rows.proofs.Marking.{none_before, first_set}
use Rattle.whole_rows.proofs.mark_words.next_bit.Goals as goal

pub returns : goal.returns
returns c = record {
  order = omega arith;
  none = λ k l less within. none_before c.args.word c.args.bit k c.ranges.word.fits l less;
  found = λ within. first_set c.args.word c.args.bit c.ranges.word.fits within;
}
