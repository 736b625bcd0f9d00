use Rattle.std.proofs.Common.{refl, sym}
use Rattle.charge.specs.Tally.{ticks_before}
use Rattle.charge.proofs.PassedNext.{none_before}
use Rattle.charge.proofs.tally.Ledger.new.Goals as goal

pub returns : goal.returns
unfolding ticks_before
returns c = λ charges w bound. record {
  counted = λ p. rw c.new.ensures.empty refl;
  passed = sym (none_before w bound);
}
