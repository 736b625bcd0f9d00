use Rattle.std.proofs.Common.{◌∙◌, sym, arith, inl, inr}
use Rattle.std.proofs.lemmas.Bool.{cases_lt}
use Rattle.blocking_columns.specs.ColumnDef.{column_seen}
use Rattle.fragments.proofs.Zeros.{list_is_map}
use Rattle.fragments.proofs.constraints.coefficients.Goals as goal

pub returns : goal.returns
returns g c =
    let row = g.K.RowKind.row_of c.args.kind.now c.args.set.now c.args.i.0 in
    list_is_map (λ x. row.coefficient (column_seen x)) c.loop-place.list.items c.args.columns.now
    c.loop-place.invariant.len (λ k d l. elim (cases_lt k c.loop-place.place) [
      | inl first ↦ c.loop-place.invariant.done k d first
      | inr second ↦ c.loop-place.invariant.left k second l ∙ sym (c.requires.row.stretch.behind k d (omega arith) l)
    ])
