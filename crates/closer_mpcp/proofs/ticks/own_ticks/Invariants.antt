use Rattle.std.proofs.Common.{◌≡◌, ◌+◌, ◌*◌, ◌≤◌, nat_lt, drop}
use Rattle.std.specs.Prelude.{slice_index}
use Rattle.std.specs.List.{sum_by}
use Rattle.number_laws.specs.Sums.{only_if}
use Rattle.sporadic_model.specs.declared.ids.TaskId.{TaskId}
use Rattle.mpcp_window_laws.specs.MpcpWindows.{own_ticks}
use Rattle.closer_mpcp.proofs.ticks.own_ticks.Given as goal

abbrev pub invariant-loop-x : goal.invariant-loop-x
invariant-loop-x l = record {
  value : l.total + sum_by (λ (x : TaskId). only_if (nat_lt x.0 l.i.0) (own_ticks l.set (slice_index l.bounds) l.q.0 l.span x.0)) (drop l.x-index l.users)
      ≡ sum_by (λ (x : TaskId). only_if (nat_lt x.0 l.i.0) (own_ticks l.set (slice_index l.bounds) l.q.0 l.span x.0)) l.users;
  most : l.total ≤ l.x-index * 128000000000000000000000;
}
