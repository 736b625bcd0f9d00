use Rattle.std.proofs.Common.{◌≡◌, ℕ, List, map, sym, ◌∙◌, subst}
use Rattle.std.specs.Result.{OnOk}
use Rattle.std.proofs.lemmas.Simd.{map-map}
use Rattle.program_form.specs.RowBlock.{block_seen}
use Rattle.blocking_columns.specs.ColumnDef.{column_seen}
use Rattle.fragments.specs.Constraints.{pushed_row}
use Rattle.fragments.proofs.constraints.push_kind.Goals as goal

pub returns : goal.returns
returns g c =
    let row = g.K.RowKind.row_of c.args.kind.now c.args.set.now c.args.i.0 in
    let list : c.in_ok-list.list.items ≡ map row.coefficient (map column_seen c.args.columns.now) =
    c.in_ok-list.ensures ∙ sym (map-map row.coefficient column_seen c.args.columns.now) in
    subst (λ (xs : List ℕ). OnOk c.push_row.result (block_seen c.push_row.new.block
    ≡ pushed_row (block_seen c.args.block.now) xs c.args.limit)) list c.push_row.ensures
