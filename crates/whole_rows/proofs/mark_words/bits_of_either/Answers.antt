use Rattle.std.proofs.Common.{arith}
use Rattle.std.proofs.lemmas.Nat.Bits.{bit_at_or, bit_at-lt}
use Rattle.whole_rows.proofs.mark_words.bits_of_either.Goals as goal

pub returns : goal.returns
returns c = record {
  kept = λ k has. omega (arith, bit_at_or c.args.word c.args.more k, bit_at-lt c.args.more k, has);
  more = λ k has. omega (arith, bit_at_or c.args.word c.args.more k, bit_at-lt c.args.word k, has);
}
