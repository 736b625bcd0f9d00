use Rattle.std.proofs.Common.{◌≡◌, rules, false, map, subst, sym, ◌∙◌}
use Rattle.std.specs.Prelude.{slice_index_or}
use Rattle.blocking_columns.specs.ColumnDef.{column_seen}
use Rattle.fragments.specs.Constraints.{holds_some}
use Rattle.spin_protocol.specs.SpinRows.{row_of_kind, is_spun_for}
use Rattle.spin_protocol.specs.Origins.{origin_place}
use Rattle.spin_protocol.proofs.NoneFrom.{none_from, spinning_only, kind_missing}
use Rattle.spin_protocol.proofs.rows.SpinningFromPerNumber.add.Goals as goal

pub returns-then-not-is_origin : goal.returns-then-not-is_origin
returns-then-not-is_origin g c =
    let set = c.args.set.now in
    let i = c.args.i.0 in
    let k = c.args.self.now.processor in
    let q = c.args.number in
    let table = c.args.self.now.origins.now in
    let row = row_of_kind c.args.self.now.spinning set i k q in
    let fails : c.is_origin.result ≡ false = search rules in
    let free : slice_index_or table (origin_place k q) false ≡ false = sym c.is_origin.ensures ∙ fails in
    g.met.T.RowTaker.missing c.args.taker.now (map column_seen c.args.columns.now) row c.args.bounds.now
    (none_from set c.args.columns.now table k q row c.requires.fits.1.0 (spinning_only c.args.self.now.spinning set i k q) free)

pub returns-then-not-is_spun_for : goal.returns-then-not-is_spun_for
returns-then-not-is_spun_for g c =
    let set = c.args.set.now in
    let i = c.args.i.0 in
    let k = c.args.self.now.processor in
    let q = c.args.number in
    let kind = c.args.self.now.spinning in
    let row = row_of_kind kind set i k q in
    let fails : c.is_spun_for.result ≡ false = search rules in
    let unspun : is_spun_for kind set i q ≡ false = sym c.is_spun_for.ensures ∙ fails in
    g.met.T.RowTaker.missing c.args.taker.now (map column_seen c.args.columns.now) row c.args.bounds.now
    (subst (λ cs. holds_some cs row ≡ false) (sym c.requires.fits.1.1) (kind_missing kind set i k q unspun))
