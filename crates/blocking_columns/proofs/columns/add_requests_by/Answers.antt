use Rattle.std.proofs.Common.{◌≡◌, ◌++◌, List, map, length, false, sym, ap, ◌∙◌}
use Rattle.std.proofs.lemmas.List.{append-nil}
use Rattle.blocking_columns.specs.ColumnDef.{ColumnDef, column_seen}
use Rattle.blocking_columns.specs.Links.{may_have_columns}
use Rattle.blocking_columns.proofs.SharedColumns.{no_columns}
use Rattle.blocking_columns.proofs.columns.add_requests_by.Goals as goal

pub returns-then-not-may_have_columns : goal.returns-then-not-may_have_columns
returns-then-not-may_have_columns c =
    let p = c.args.protocol in
    let set = c.args.set.now in
    let i = c.args.i.0 in
    let x = c.args.x.0 in
    let m = length set.resources in
    let before = map column_seen c.args.columns.now.items in
    let never : may_have_columns set i x ≡ false =
    sym c.may_have_columns.ensures ∙ c.if-not-may_have_columns.true in
    sym (ap (λ (cs : List ColumnDef). before ++ cs) (no_columns p set i x m c.requires.sharing.sharing never) ∙ append-nil before)
