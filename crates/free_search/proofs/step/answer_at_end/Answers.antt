use Rattle.free_search.specs.Tables.{table_with}
use Rattle.free_search.proofs.Answering.{finished, finished_used}
use Rattle.free_search.proofs.Choosing.{rows_are, last_seen, limits_not_below}
use Rattle.free_search.proofs.LeastPlaces.{none_above}
use Rattle.free_search.proofs.Runs.{sizes_of, limit_below}
use Rattle.free_search.proofs.step.answer_at_end.Goals as goal

pub finish-requires : goal.finish-requires
finish-requires c =
    let p = c.args.program.now in
    let t = c.args.tableau.now in
    let n = c.requires.after.0 in
    let h = c.requires.after.2 in
    record {
      sizes = sizes_of p t h.stands h.are;
      rows = rows_are p t h.stands h.are;
      positive = h.positive;
      last = none_above t.objective.nums c.requires.last;
      below = limit_below p t h.stands h.are n h.reached (last_seen p t h.stands h.are c.requires.last);
      limits = limits_not_below p n t h.stands h.are h.reached;
    }

pub returns : goal.returns
returns c =
    let p = c.args.program.now in
    let t = c.args.tableau.now in
    let h = c.requires.after.2 in
    record {
      searches = λ units within.
          finished c.finish.result p c.requires.after.0 units c.args.used t h c.requires.after.1 within
          (last_seen p t h.stands h.are c.requires.last) (c.finish.ensures h.stands h.are);
      units = finished_used c.finish.result p (table_with p t h.stands) c.args.used (c.finish.ensures h.stands h.are);
    }
