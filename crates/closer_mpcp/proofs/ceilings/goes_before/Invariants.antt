use Rattle.std.proofs.Common.{◌≡◌, false, take}
use Rattle.std.specs.List.{list_any}
use Rattle.closer_mpcp_laws.specs.CloserMpcpRows.{goes_first}
use Rattle.closer_mpcp.proofs.ceilings.goes_before.Given as goal

abbrev pub invariant-loop-q : goal.invariant-loop-q
invariant-loop-q l = list_any (λ q. goes_first l.set l.x.0 q.0 l.r.0) (take l.q-index l.used) ≡ false
