use Rattle.std.proofs.Common.{w64}
use Rattle.std.proofs.lemmas.Nat.Bits.{bit_at_clear_same, bit_at_clear_other}
use Rattle.whole_rows.proofs.mark_words.without_bit.Goals as goal

pub returns : goal.returns
returns c = record {
  own = bit_at_clear_same w64 c.args.word c.args.bit c.requires;
  others = λ k l other. bit_at_clear_other w64 c.args.word c.args.bit c.requires k l other;
}
