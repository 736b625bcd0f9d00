use Rattle.std.proofs.Common.{◌≡◌, map, true, leb}
use Rattle.number_laws.specs.Tests.{all_below}
use Rattle.sporadic_model.specs.Users.{count_of}
use Rattle.schedule_model.specs.JobDef.{number_of_requests}
use Rattle.schedule_model.specs.Seen.{segment_seen}
use Rattle.schedule_model.proofs.script.keeps_counts.Given as goal

abbrev pub invariant-loop-q : goal.invariant-loop-q
invariant-loop-q l = all_below l.q (λ q. leb (number_of_requests (map segment_seen l.script) q) (count_of l.set l.x.0 q)) ≡ true
