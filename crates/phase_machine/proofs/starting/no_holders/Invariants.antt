use Rattle.std.proofs.Common.{◌≡◌, map, replicate, None}
use Rattle.schedule_model.specs.Seen.{place_seen}
use Rattle.phase_machine.proofs.starting.no_holders.Given as goal

abbrev pub invariant-loop : goal.invariant-loop
invariant-loop l = map place_seen l.holders.items ≡ replicate l.counter None
