use Rattle.std.proofs.Common.{◌∷◌, [], ◌++◌, map, length, List}
use Rattle.std.proofs.lemmas.List.{append_assoc}
use Rattle.blocking_columns.specs.ColumnDef.{column_seen}
use Rattle.blocking_columns.specs.Columns.{is_lower_local}
use Rattle.fragments.specs.Constraints.{ConstraintDef, per, per_pair, per_where}
use Rattle.closer_laws.specs.CloserRows.{local_preemption_row}
use Rattle.closer_mpcp_laws.specs.CloserMpcpRows.{shared_holding_row, resource_holding_row, away_row, shared_interval_row, lower_wait_row}
use Rattle.mpcp_window_laws.specs.WaitRows.{held_in_waits}
use Rattle.closer_mpcp.proofs.rows.add_further_rows.Goals as goal

pub returns : goal.returns
returns g c =
    let set = c.args.set.now in
    let i = c.args.i.0 in
    let seen = map column_seen c.args.columns.now in
    let behind = g.met.T.RowTaker.behind in
    let of_tasks : List ConstraintDef = per (length set.tasks) (shared_holding_row set (held_in_waits set i) i) in
    let of_requests : List ConstraintDef = per_pair (length set.tasks) (length set.resources) (resource_holding_row set (held_in_waits set i) i) in
    let aways : List ConstraintDef = per (length set.tasks) (away_row set i) in
    let intervals : List ConstraintDef = per_where (is_lower_local set i) (length set.tasks) (shared_interval_row set i) in
    let singles : List ConstraintDef = local_preemption_row set i ∷ lower_wait_row set i ∷ [] in
    rw (← append_assoc of_tasks of_requests (aways ++ (intervals ++ singles)))
    (behind c.args.taker.now c.add_holding_rows.new.taker c.add_single_rows.new.taker seen (of_tasks ++ of_requests)
    (aways ++ (intervals ++ singles)) c.args.bounds.now c.in_ok-add_holding_rows.ensures
    (behind c.add_holding_rows.new.taker c.add_per_task.new.taker c.add_single_rows.new.taker seen aways (intervals ++ singles)
    c.args.bounds.now c.in_ok-add_per_task.ensures
    (behind c.add_per_task.new.taker c.add_interval_rows.new.taker c.add_single_rows.new.taker seen intervals singles c.args.bounds.now
    c.in_ok-add_interval_rows.ensures c.in_ok-add_single_rows.ensures)))
