use Rattle.std.proofs.Common.{◌≡◌, ◌++◌, List, [], map, ap, ◌∙◌, sym, arith}
use Rattle.std.specs.List.{flat_map, filter}
use Rattle.std.proofs.lemmas.List.{drop_all, append-nil}
use Rattle.sporadic_model.specs.Users.{is_user}
use Rattle.sporadic_model.specs.declared.ids.ResourceId.{ResourceId}
use Rattle.blocking_columns.specs.ColumnDef.{ColumnDef, column_seen, classes_of}
use Rattle.blocking_columns.specs.Columns.{is_column}
use Rattle.blocking_columns.specs.Requested.{linked_requests}
use Rattle.blocking_columns.proofs.KeptNumbers.{kept_pass}
use Rattle.blocking_columns.proofs.UsedColumns.{used_columns}
use Rattle.blocking_columns.proofs.columns.add_requests_of.Goals as goal

pub add_requests-requires-clause-user : goal.add_requests-requires-clause-user
add_requests-requires-clause-user c =
    let set = c.args.set.now in
    record {
      task = c.requires.to.task;
      other = c.requires.to.other;
      resource = c.used_by-used.ensures.within c.loop-q.q-index _ c.loop-q-test.true;
      used = kept_pass (λ (q : ResourceId). q.0) c.used_by-used.result.now (λ q. is_user set q c.args.x.0) _ c.used_by-used.ensures.value
          c.loop-q.q-index _ c.loop-q-test.true;
    }

pub returns : goal.returns
returns c =
    let set = c.args.set.now in
    let x = c.args.x.0 in
    let used = c.used_by-used.result.now in
    let test = is_column c.args.protocol set c.args.i.0 in
    let added : map column_seen c.loop-q.columns.items ++ []
    ≡ map column_seen c.args.columns.now.items ++ flat_map (λ (q : ResourceId). filter test (classes_of x q.0)) used =
    rw (drop_all c.loop-q.q-index used (omega (arith, c.loop-q-test.false))) at c.loop-q.invariant in
    sym (append-nil (map column_seen c.loop-q.columns.items)) ∙ (added
    ∙ ap (λ (cs : List ColumnDef). map column_seen c.args.columns.now.items ++ cs)
    (used_columns test set x used (linked_requests c.args.protocol set c.args.i.0) c.used_by-used.ensures.value))
