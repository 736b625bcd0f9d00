use Rattle.std.proofs.Common.{◌≡◌, ◌+◌, ◌*◌, ◌≤◌, drop}
use Rattle.std.specs.Prelude.{slice_index}
use Rattle.std.specs.List.{sum_by}
use Rattle.number_laws.specs.Sums.{only_if}
use Rattle.sporadic_model.specs.declared.ids.ResourceId.{ResourceId}
use Rattle.closer_mpcp.specs.Holdings.{counts, held_beside}
use Rattle.closer_mpcp.proofs.holdings.shared_holdings.Given as goal

abbrev pub invariant-loop-k : goal.invariant-loop-k
invariant-loop-k l = record {
  value : l.total + sum_by (λ (r : ResourceId). only_if (counts l.set l.fn.i.0 l.x.0 l.q r.0) (held_beside l.set (slice_index l.fn.bounds) l.fn.i.0 l.x.0 r.0))
      (drop l.k l.used)
      ≡ sum_by (λ (r : ResourceId). only_if (counts l.set l.fn.i.0 l.x.0 l.q r.0) (held_beside l.set (slice_index l.fn.bounds) l.fn.i.0 l.x.0 r.0)) l.used;
  most : l.total ≤ l.k * 128000000001000;
}
