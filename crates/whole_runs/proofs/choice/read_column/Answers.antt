use Rattle.std.proofs.Common.{◌<◌, ◌+◌, length, w64, arith}
use Rattle.std.proofs.lemmas.Int.{to_z-of_z, fits_signed_from_abs}
use Rattle.whole_runs.proofs.ColumnReading.{none_read, one_read, read_to, all_read}
use Rattle.whole_runs.proofs.choice.read_column.Goals as goal

pub loop-i-init : goal.loop-i-init
loop-i-init c =
    let p = c.args.program.now in
    let rows = c.args.rows.now in
    let next = c.next-i in
    record {
      within = next.ensures.within;
      marked = c.requires.marked;
      read = read_to 0 next.result p rows c.args.k c.args.marks.now c.clear.new.self.items c.requires.marked c.requires.place
          next.ensures.order next.ensures.within next.ensures.none
          (none_read p rows c.args.k c.clear.new.self.items c.clear.ensures.items);
    }

pub loop-i-preserved : goal.loop-i-preserved
loop-i-preserved c =
    let p = c.args.program.now in
    let rows = c.args.rows.now in
    let i = c.loop-i.i in
    let next = c.next-i-in-loop-i in
    let inside : c.loop-i.i < length c.args.rows.now = omega (arith, c.loop-i-test.true) in
    let num = to_z-of_z w64 c.num_of-num.result (fits_signed_from_abs w64 c.num_of-num.result c.num_of-num.ensures.small) in
    record {
      within = next.ensures.within;
      marked = c.unmark_zero.ensures;
      read = read_to (i + 1) next.result p rows c.args.k c.unmark_zero.new.marks c.push_num.new.list.items c.unmark_zero.ensures
          c.requires.place next.ensures.order next.ensures.within next.ensures.none
          (one_read i p rows c.args.k c.loop-i.column.items c.push_num.new.list.items c.num_of-num.result inside c.loop-i.invariant.read
          c.num_of-num.ensures.value (rw num at c.in_ok-push_num.ensures));
    }

pub returns : goal.returns
returns c = record {
  column = all_read c.loop-i.i c.args.program.now c.args.rows.now c.args.k c.loop-i.column.items c.loop-i.invariant.within
      (omega (arith, c.loop-i-test.false)) c.loop-i.invariant.read;
  marked = c.loop-i.invariant.marked;
}
