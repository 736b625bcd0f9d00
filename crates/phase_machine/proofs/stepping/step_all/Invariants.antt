use Rattle.std.proofs.Common.{◌≡◌, ℕ, ◌<◌, length, map, take, get_or}
use Rattle.schedule_model.specs.Seen.{place_seen}
use Rattle.phase_machine.specs.MachineDef.{no_place}
use Rattle.phase_machine.specs.Steps.{MovesTo}
use Rattle.phase_machine.proofs.stepping.step_all.Given as goal

abbrev pub invariant-loop-named : goal.invariant-loop-named
invariant-loop-named l = record {
  len : length l.places ≡ length l.initial.places;
  moved : (x : ℕ) → x < length l.jobs.set.tasks
      → MovesTo l.jobs.jobs l.after l.more (take l.named-index (map place_seen l.running)) x
      (get_or l.initial.places x no_place) (get_or l.places x no_place);
}
