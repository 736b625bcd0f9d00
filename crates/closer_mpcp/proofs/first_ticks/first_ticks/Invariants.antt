use Rattle.std.proofs.Common.{◌≡◌, ◌+◌, ◌*◌, ◌≤◌, max, map, drop}
use Rattle.std.specs.List.{sum_by}
use Rattle.number_laws.specs.Sums.{only_if}
use Rattle.sporadic_model.specs.Users.{count_of, length_of}
use Rattle.sporadic_model.specs.declared.ids.ResourceId.{ResourceId}
use Rattle.window_laws.proofs.KeptGreatest.{greatest_of}
use Rattle.closer_mpcp_laws.specs.CloserMpcpRows.{goes_first}
use Rattle.closer_mpcp.proofs.first_ticks.first_ticks.Given as goal

abbrev pub invariant-loop-r : goal.invariant-loop-r
invariant-loop-r l = record {
  longest : max l.longest (greatest_of (map (λ (r : ResourceId). only_if (goes_first l.set l.x.0 r.0 l.q.0) (length_of l.set l.x.0 r.0)) (drop l.r-index l.used)))
      ≡ greatest_of (map (λ (r : ResourceId). only_if (goes_first l.set l.x.0 r.0 l.q.0) (length_of l.set l.x.0 r.0)) l.used);
  all : l.all + sum_by (λ (r : ResourceId). only_if (goes_first l.set l.x.0 r.0 l.q.0) (count_of l.set l.x.0 r.0 * length_of l.set l.x.0 r.0)) (drop l.r-index l.used)
      ≡ sum_by (λ (r : ResourceId). only_if (goes_first l.set l.x.0 r.0 l.q.0) (count_of l.set l.x.0 r.0 * length_of l.set l.x.0 r.0)) l.used;
  longest_to : l.longest ≤ 1000000000;
  all_to : l.all ≤ l.r-index * 1000000000000;
}
