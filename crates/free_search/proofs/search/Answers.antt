use Rattle.std.proofs.Common.{inr, slice_index, sym, ◌∙◌, arith, add-one}
use Rattle.free_search.specs.Choice.{IsLeastPlace}
use Rattle.free_search.specs.Tables.{table_with}
use Rattle.free_search.proofs.Choosing.{objective_places, enters_seen}
use Rattle.free_search.proofs.Answering.{found_columns, found_den, found_rows, found_dual_den, found_within}
use Rattle.free_search.proofs.search.Goals as goal

pub entering-requires : goal.entering-requires
entering-requires c =
    let t = c.loop-exchanges.tableau in
    let h = c.loop-exchanges.invariant.after in
    rw (c.deref.ensures.value, c.nums.ensures)
    (h.are.placed.place_each ∙ sym (objective_places c.args.program.now t h.stands h.are))

pub returns-then-exchanges-units-clause-searches : goal.returns-then-exchanges-units-clause-searches
returns-then-exchanges-units-clause-searches c =
    let p = c.args.program.now in
    let t = c.loop-exchanges.tableau in
    let h = c.loop-exchanges.invariant.after in
    let least : IsLeastPlace c.loop-exchanges.tableau.objective.nums c.loop-exchanges.tableau.outside.items c.in-Some.k
    = rw (c.nums.ensures, c.deref.ensures.value) at c.in-Some.ensures in
    let enters = enters_seen p t h.stands c.in-Some.k h.are least in
    inr (
      c.loop-exchanges.exchanges,
      table_with p t h.stands,
      slice_index t.outside.items c.in-Some.k,
      c.if-exchanges-units.true,
      h.reached,
      enters.1,
    )

pub loop-exchanges-preserved : goal.loop-exchanges-preserved
loop-exchanges-preserved c = record {
  after = rw (add-one c.loop-exchanges.exchanges) (c.in_ok-step.ensures c.loop-exchanges.exchanges c.loop-exchanges.invariant.after);
  left = λ some. omega (arith, c.loop-exchanges-test.true, c.if-exchanges-units.false);
}

pub returns-in-None : goal.returns-in-None
returns-in-None c =
    let p = c.args.program.now in
    let units = c.args.units in
    let answer = c.answer_at_end.result in
    let searches = c.answer_at_end.ensures.searches units (omega (arith, c.loop-exchanges-test.true)) in
    record {
      searches = searches;
      columns = found_columns p units answer searches;
      point_den = found_den p units answer searches;
      rows = found_rows p units answer searches;
      dual_den = found_dual_den p units answer searches;
      used = found_within p units answer searches;
    }
