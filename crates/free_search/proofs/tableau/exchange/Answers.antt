use Rattle.std.proofs.Common.{◌≡◌, List, set, slice_index, sym, ap, ◌∙◌, subst, arith}
use Rattle.std.specs.Vec.{with_items}
use Rattle.std.proofs.lemmas.List.{get_or_default, with_items_is}
use Rattle.whole_rows.specs.Rows.{RowDef}
use Rattle.free_search.specs.Exchanges.{AreExchanged, ExchangesRows}
use Rattle.free_search.specs.Rows.{IsLeftRow}
use Rattle.free_search.specs.Tables.{row_at}
use Rattle.free_search.proofs.tableau.exchange.Goals as goal

pub returns : goal.returns
returns c =
    let old = c.args.tableau.now in
    let new = c.exchange_rows.new.rows in
    let rows : ExchangesRows c.args.tableau.now.rows.items c.exchange_rows.new.rows c.args.k c.args.r c.in_ok-pivot.pivot
    = rw c.deref_mut.ensures.value at c.in_ok-pivot.ensures in
    let same : (with_items c.args.tableau.now.rows c.exchange_rows.new.rows).items ≡ c.exchange_rows.new.rows
    = with_items_is old.rows new (c.in_ok-pivot.ensures.0.as_many ∙ c.deref_mut.ensures.len) in
    let entered : c.index-entered.result.now ≡ slice_index c.args.tableau.now.outside.items c.args.k
    = c.index-entered.ensures ∙ get_or_default old.outside.items c.args.k c.index-entered.result.now 0 c.requires.place in
    let left : c.index.result.now ≡ slice_index c.args.tableau.now.basis.items c.args.r
    = c.index.ensures ∙ get_or_default old.basis.items c.args.r c.index.result.now 0
    (omega (arith, c.requires.row.row, c.requires.sizes.basic_each)) in
    record {
      rows = subst (λ (after : List RowDef). AreExchanged old.rows.items after c.args.k c.args.r) (sym same) rows.0;
      objective = subst (λ (after : List RowDef). IsLeftRow old.objective c.args.k (row_at after c.args.r) c.take_from.new.row) (sym same)
          (c.in_ok-take_from.ensures.changed _ rows.1 rows.0.divided.positive);
      basis = ap (set old.basis.items c.args.r) entered;
      outside = ap (set old.outside.items c.args.k) left;
    }
