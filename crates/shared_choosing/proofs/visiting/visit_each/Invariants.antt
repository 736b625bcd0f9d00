use Rattle.std.proofs.Common.{◌≡◌, ℕ, map}
use Rattle.schedule_model.specs.Seen.{place_seen}
use Rattle.phase_machine.specs.Now.{current_now}
use Rattle.shared_choosing.specs.Walks.{walked}
use Rattle.shared_choosing.proofs.visiting.visit_each.Given as goal

abbrev pub invariant-loop-x : goal.invariant-loop-x
invariant-loop-x g l = record {
  needs : g.V.Visitor.needs l.visitor l.machine (map place_seen l.places);
  each : (k : ℕ) → g.V.Visitor.view (map place_seen l.places) k
      ≡ walked (g.V.Visitor.step l.visitor l.machine) (current_now l.machine) l.x k (g.V.Visitor.view (map place_seen l.initial.places) k);
}
