use Rattle.std.proofs.Common.{◌+◌, ap, ◌∙◌, arith}
use Rattle.free_search.specs.Begun.{AreFirstParts}
use Rattle.free_search.specs.declared.tableau.Tableau.{Tableau}
use Rattle.free_search.proofs.FirstTables.{first_is}
use Rattle.free_search.proofs.Runs.{sizes_of}
use Rattle.free_search.proofs.start.first_tableau.Goals as goal

pub returns : goal.returns
returns c =
    let p = c.args.program.now in
    let rows = c.in_ok-first_rows.ensures in
    let basis = c.in_ok-count_from.ensures in
    let outside = c.in_ok-count_from-2.ensures in
    let t : Tableau = record {
      rows = c.in_ok-first_rows.field-0;
      objective = c.in_ok-cost_row.field-0;
      basis = c.in_ok-count_from.field-0;
      outside = c.in_ok-count_from-2.field-0;
    } in
    let parts : AreFirstParts p t = record {
      rows = rows;
      costs = c.in_ok-cost_row.ensures;
      basis = record {
        basic_each = basis.as_many ∙ c.rows-rows.ensures.value;
        slacks = λ i l. basis.each i (omega (arith, l, c.rows-rows.ensures.value)) ∙ ap (λ n. n + i) c.columns-columns.ensures.value;
      };
      outside = record {
        place_each = outside.as_many ∙ c.columns-columns.ensures.value;
        own = λ k l. omega (arith, outside.each k (omega (arith, l, c.columns-columns.ensures.value)));
      };
    } in
    let first = first_is p t parts in
    record { sizes = sizes_of p t first.stands first.are; parts = parts; first = first }
