use Rattle.std.proofs.Common.{◌≡◌, ◌<◌, length, false, sym, ◌∙◌, arith}
use Rattle.std.proofs.lemmas.List.{length-map}
use Rattle.sporadic_model.specs.SetDef.{SetDef}
use Rattle.sporadic_model.specs.Seen.{parts_seen, task_seen}
use Rattle.sporadic_model.specs.Faults.{task_refusal}
use Rattle.sporadic_model.specs.Refusals.{is_due}
use Rattle.sporadic_model.proofs.Finding.{find_later}
use Rattle.sporadic_model.proofs.judging.first_at_tasks.Goals as goal

pub loop-x-preserved : goal.loop-x-preserved
loop-x-preserved c =
    let set : SetDef = parts_seen c.args.parts.now in
    let within : c.loop-x.x < length set.tasks = rw (length-map c.args.parts.now.tasks.items task_seen) (omega arith) in
    let fails : is_due set (task_refusal c.args.fault c.loop-x.x) ≡ false = sym c.is_due_at_task.ensures ∙ c.if-is_due_at_task.false in
    sym (find_later (is_due set) (task_refusal c.args.fault) c.loop-x.x (length set.tasks) within fails) ∙ c.loop-x.invariant
