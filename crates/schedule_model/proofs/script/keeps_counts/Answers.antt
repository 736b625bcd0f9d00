use Rattle.std.proofs.Common.{sym, map, leb, ℕ, length, arith, ◌<◌}
use Rattle.std.proofs.lemmas.Bool.{lt-leb}
use Rattle.number_laws.proofs.TestLaws.{all_below-fails_from}
use Rattle.sporadic_model.specs.Users.{count_of}
use Rattle.schedule_model.specs.JobDef.{number_of_requests}
use Rattle.schedule_model.specs.Seen.{segment_seen}
use Rattle.schedule_model.proofs.script.keeps_counts.Goals as goal

pub returns-then-count : goal.returns-then-count
returns-then-count c =
    let more : count_of c.args.set.now c.args.x.0 c.loop-q.q
    < number_of_requests (map segment_seen c.args.script.now) c.loop-q.q =
    omega (arith, c.count.ensures.value, c.number_of_requests-count.ensures) in
    sym (all_below-fails_from (length c.args.set.now.resources)
    (λ (q : ℕ). leb (number_of_requests (map segment_seen c.args.script.now) q) (count_of c.args.set.now c.args.x.0 q))
    c.loop-q.q (omega arith) (lt-leb _ _ more))
