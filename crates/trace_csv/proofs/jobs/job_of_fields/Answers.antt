use Rattle.std.proofs.Common.{sym}
use Rattle.trace_csv.proofs.LongScripts.{too_long}
use Rattle.trace_csv.proofs.jobs.job_of_fields.Goals as goal

pub returns-in-Err-TooLong : goal.returns-in-Err-TooLong
returns-in-Err-TooLong c =
    let a = c.args in
    let read = rw c.in-Err-TooLong.field-0-is at c.in-Err-TooLong.ensures in
    too_long a.set.now a.name.now a.arrival.now a.release.now a.script.now a.line c.in-Some.arrival c.in-Some-number_between.release
    c.in-Some-task_named.task.0 read.0 c.keeps_the_model.ensures.accepted (sym c.in-Some.ensures) (sym c.in-Some-number_between.ensures)
    (sym c.in-Some-task_named.ensures.value) c.in-Some-task_named.ensures.within read.1 read.2 read.3
