use Rattle.std.proofs.Common.{◌≡◌, rules, false, map, sym, ◌∙◌}
use Rattle.blocking_columns.specs.ColumnDef.{column_seen}
use Rattle.closer_spin.specs.Together.{row_together, paired, is_paired}
use Rattle.closer_spin.proofs.Told.{none_paired}
use Rattle.closer_spin.proofs.rows.add_paired.Goals as goal

pub returns-then-not-is_paired : goal.returns-then-not-is_paired
returns-then-not-is_paired g c =
    let set = c.args.task.now.set.now in
    let i = c.args.task.now.i.0 in
    let k = c.args.there.now.processor in
    let pairing = c.args.pairing in
    let q = c.args.q in
    let cs = map column_seen c.args.task.now.columns.now in
    let fails : c.is_paired.result ≡ false = search rules in
    let unspun : is_paired set i k pairing q ≡ false = sym c.is_paired.ensures ∙ fails in
    g.met.T.RowTaker.missing c.args.taker.now cs (row_together set i k (paired pairing q)) c.args.task.now.bounds.now
    (none_paired set i k q pairing cs unspun)
