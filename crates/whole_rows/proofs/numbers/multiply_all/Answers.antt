use Rattle.std.proofs.Common.{FitsSigned, w64, arith, rules}
use Rattle.whole_rows.proofs.Read.{read}
use Rattle.whole_rows.proofs.numbers.multiply_all.Goals as goal

pub multiply_block-requires : goal.multiply_block-requires
multiply_block-requires c =
    let fits : FitsSigned w64 c.args.by = search rules in
    record {
      order = omega arith;
      within = omega arith;
      room = λ k from. rw (read c.args.by fits, c.loop-nums.invariant.times.rest k from) (c.requires.room k);
    }

pub multiply_between-requires : goal.multiply_between-requires
multiply_between-requires c =
    let fits : FitsSigned w64 c.args.by = search rules in
    record {
      order = omega arith;
      within = omega arith;
      room = λ k from. rw (read c.args.by fits, c.loop-nums.invariant.times.rest k from) (c.requires.room k);
    }
