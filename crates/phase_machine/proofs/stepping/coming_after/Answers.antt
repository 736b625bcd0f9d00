use Rattle.std.proofs.Common.{◌<◌, length, subst, ap, arith}
use Rattle.phase_machine.specs.Given.{KeepsItsRules}
use Rattle.phase_machine.proofs.Coming.{coming_next}
use Rattle.phase_machine.proofs.Lawful.{task_listed}
use Rattle.phase_machine.proofs.stepping.coming_after.Goals as goal

pub returns-then-job-tick : goal.returns-then-job-tick
returns-then-job-tick c =
    let rules : KeepsItsRules c.args.jobs.now = c.list_is_lawful.ensures in
    let listed : c.args.due < length c.args.jobs.now.jobs = omega (arith, c.if-due-len.true, c.len.ensures.value) in
    let task : c.args.x < length c.args.jobs.now.set.tasks =
    subst (λ x. x < length c.args.jobs.now.set.tasks) (c.requires.own listed)
    (task_listed c.args.jobs.now c.args.due rules.lawful listed) in
    coming_next c.args.jobs.now c.args.tick c.args.x c.args.due c.next_of.result rules.lawful (rules.numbers c.args.x task) c.requires
    listed (omega (arith, c.if-job-tick.true, ap (λ j. j.release) c.job.ensures.value)) c.next_of.ensures
