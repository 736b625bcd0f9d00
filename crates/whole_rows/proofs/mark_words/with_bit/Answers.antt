use Rattle.std.proofs.Common.{inl, inr, w64, ◌∙◌}
use Rattle.std.proofs.lemmas.Bool.{cases_eq}
use Rattle.std.proofs.lemmas.Nat.Bits.{bit_at_set_same, bit_at_set_other}
use Rattle.whole_rows.proofs.mark_words.with_bit.Goals as goal

pub returns : goal.returns
returns c = record {
  own = bit_at_set_same w64 c.args.word c.args.bit c.requires;
  kept = λ k has. elim (cases_eq k c.args.bit) [
    | inl here ↦ rw here (bit_at_set_same w64 c.args.word c.args.bit c.requires)
    | inr other ↦ bit_at_set_other w64 c.args.word c.args.bit c.requires k other ∙ has
  ];
}
