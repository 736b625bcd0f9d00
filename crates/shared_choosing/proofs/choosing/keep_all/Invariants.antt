use Rattle.std.proofs.Common.{◌≡◌, ℕ, ◌<◌, length, map}
use Rattle.schedule_model.specs.Seen.{place_seen}
use Rattle.phase_machine.specs.Now.{holder_now, requester_now}
use Rattle.shared_choosing.specs.Scene.{place_in, stays}
use Rattle.shared_choosing.proofs.choosing.keep_all.Given as goal

abbrev pub invariant-loop-q : goal.invariant-loop-q
invariant-loop-q l = record {
  len : length l.holders ≡ length l.initial.holders;
  each : (r : ℕ) → r < l.q → place_in (map place_seen l.holders) r ≡ stays (requester_now l.machine r) (holder_now l.machine r);
}
