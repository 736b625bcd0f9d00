use Rattle.std.proofs.Common.{◌≡◌, ◌+◌, ◌*◌, ◌≤◌, drop}
use Rattle.std.specs.Prelude.{slice_index}
use Rattle.std.specs.List.{sum_by}
use Rattle.number_laws.specs.Sums.{only_if}
use Rattle.sporadic_model.specs.declared.ids.ResourceId.{ResourceId}
use Rattle.closer_laws.specs.CloserRows.{is_held_there}
use Rattle.closer_mpcp.specs.Holdings.{runs_there}
use Rattle.closer_mpcp.proofs.holdings.run_beside_away_holdings.Given as goal

abbrev pub invariant-loop-k : goal.invariant-loop-k
invariant-loop-k l = record {
  value : l.total + sum_by (λ (r : ResourceId). only_if (is_held_there l.set l.fn.i.0 l.x.0 r.0) (runs_there l.set (slice_index l.fn.bounds) l.fn.i.0 l.x.0 r.0))
      (drop l.k l.used)
      ≡ sum_by (λ (r : ResourceId). only_if (is_held_there l.set l.fn.i.0 l.x.0 r.0) (runs_there l.set (slice_index l.fn.bounds) l.fn.i.0 l.x.0 r.0)) l.used;
  most : l.total ≤ l.k * 128000000002000;
}
