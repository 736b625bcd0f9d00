use Rattle.std.proofs.Common.{ℕ, ◌+◌, ◌<◌, List, arith, map, length, subst, sym}
use Rattle.number_laws.specs.Sums.{collect_below}
use Rattle.blocking_columns.specs.ColumnDef.{column_seen}
use Rattle.fragments.specs.Constraints.{ConstraintDef, per}
use Rattle.fragments.proofs.Rows.{next_number}
use Rattle.closer_spin.specs.Together.{row_together, paired}
use Rattle.closer_spin.specs.Groups.{TellsAt}
use Rattle.closer_spin.proofs.rows.add_pairs.Goals as goal

pub loop-there-preserved : goal.loop-there-preserved
loop-there-preserved g c =
    let set = c.args.task.now.set.now in
    let i = c.args.task.now.i.0 in
    let m = length set.resources in
    let n = c.loop-there.there-index in
    let cs = map column_seen c.args.task.now.columns.now in
    let rows : ℕ → List ConstraintDef = λ k. per m (λ q. row_together set i (k + 1) (paired c.args.pairing q)) in
    let within : n < set.processors = omega (arith, c.loop-there-test.true, c.requires.everywhere.one_each) in
    let at : TellsAt set i n c.there-item.result =
    subst (TellsAt set i n) (sym c.there-item.is) (c.requires.everywhere.each n c.there-item.result within) in
    let there = rw (at.place) at c.in_ok-add_pairs_there.ensures in
    next_number (λ all. g.T.RowTaker.takes c.args.taker.now cs all c.args.task.now.bounds.now c.add_pairs_there.new.taker) rows n
    (g.met.T.RowTaker.behind c.args.taker.now c.loop-there.taker c.add_pairs_there.new.taker cs (collect_below n rows) (rows n)
    c.args.task.now.bounds.now c.loop-there.invariant there)
