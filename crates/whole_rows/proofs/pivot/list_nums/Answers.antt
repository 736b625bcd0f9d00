use Rattle.std.proofs.Common.{◌+◌, refl, arith, rules}
use Rattle.whole_rows.specs.declared.pivot.TheConstants.{BLOCK}
use Rattle.whole_rows.proofs.Listed.{listed_all, listed_zeros}
use Rattle.whole_rows.proofs.pivot.list_nums.Goals as goal

pub loop-first-preserved-then-is_zero_block : goal.loop-first-preserved-then-is_zero_block
loop-first-preserved-then-is_zero_block c = record {
  within = (c.if-is_zero_block.ensures refl).whole;
  listed = listed_zeros c.loop-first.first (c.loop-first.first + BLOCK) c.args.nums.now c.loop-first.list.items (omega arith)
      c.loop-first.invariant.listed (c.if-is_zero_block.ensures refl).zero;
}

pub returns : goal.returns
returns c = record {
  from = search rules;
  all = listed_all c.loop-first.first c.args.nums.now c.loop-first.list.items (omega (arith, c.loop-first-test.false))
      c.loop-first.invariant.listed;
}
