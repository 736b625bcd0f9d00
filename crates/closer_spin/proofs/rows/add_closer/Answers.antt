use Rattle.std.proofs.Common.{◌≡◌, ◌<◌, rules, true, false, map, length, sym, ◌∙◌}
use Rattle.std.specs.Prelude.{slice_index_or}
use Rattle.std.proofs.lemmas.Bool.{and_from}
use Rattle.std.proofs.lemmas.List.{get_or_default}
use Rattle.blocking_columns.specs.ColumnDef.{column_seen}
use Rattle.closer_spin_laws.specs.CloserSpinRows.{is_spun_below, is_lone, leaves_lone_out, closer_spinning_row}
use Rattle.spin_protocol.specs.Origins.{origin_place}
use Rattle.spin_protocol.proofs.NoneFrom.{none_from}
use Rattle.closer_spin.proofs.Told.{closer_only, lone_missing}
use Rattle.closer_spin.proofs.rows.add_closer.Goals as goal

pub returns-then-index : goal.returns-then-index
returns-then-index g c =
    let set = c.args.task.now.set.now in
    let i = c.args.task.now.i.0 in
    let there = c.requires.there.there in
    let k = c.args.there.now.processor in
    let q = c.args.q in
    let cs = map column_seen c.args.task.now.columns.now in
    let table = c.args.there.now.lone.items in
    let within : q < length table = rw (there.lone_is.one_each) c.requires.resource in
    let is : slice_index_or table q true ≡ true = search rules in
    let told : slice_index_or table q false ≡ true = get_or_default table q false true within ∙ is in
    let lone : is_lone set i k q ≡ true = sym (there.lone_is.each q c.requires.resource) ∙ told in
    let leaves : leaves_lone_out set i k ≡ true = sym there.leaves_is ∙ c.if-there.true in
    g.met.T.RowTaker.missing c.args.taker.now cs (closer_spinning_row set i k q) c.args.task.now.bounds.now
    (lone_missing set i k q cs (and_from _ _ lone leaves))

pub returns-then-not-is_origin : goal.returns-then-not-is_origin
returns-then-not-is_origin g c =
    let set = c.args.task.now.set.now in
    let i = c.args.task.now.i.0 in
    let there = c.requires.there.there in
    let k = c.args.there.now.processor in
    let q = c.args.q in
    let table = c.args.task.now.origins.now in
    let row = closer_spinning_row set i k q in
    let told : slice_index_or c.args.there.now.spun.items q false ≡ false = search rules in
    let unspun : is_spun_below set i k q ≡ false = sym (there.spun_is.each q c.requires.resource) ∙ told in
    let fails : c.is_origin.result ≡ false = search rules in
    let free : slice_index_or table (origin_place k q) false ≡ false = sym c.is_origin.ensures ∙ fails in
    g.met.T.RowTaker.missing c.args.taker.now (map column_seen c.args.task.now.columns.now) row c.args.task.now.bounds.now
    (none_from set c.args.task.now.columns.now table k q row c.requires.there.rows.origins (closer_only set i k q unspun) free)
