use Rattle.std.proofs.Common.{◌≡◌, map, take, ap, sym, ◌∙◌}
use Rattle.std.specs.List.{slice_index_or}
use Rattle.std.proofs.lemmas.List.{take-map}
use Rattle.sporadic_model.specs.SetDef.{SetDef, no_task, task_at}
use Rattle.sporadic_model.specs.Seen.{parts_seen, task_seen}
use Rattle.sporadic_model.specs.Refusals.{is_due, has_task_named}
use Rattle.sporadic_model.proofs.judging.is_due_at_task.Goals as goal

pub returns-in-TwiceName : goal.returns-in-TwiceName
unfolding is_due
returns-in-TwiceName c =
    let set : SetDef = parts_seen c.args.parts.now in
    let earlier : map task_seen (take c.args.x c.deref-in-TwiceName.result.now) ≡ take c.args.x set.tasks =
    ap (λ l. map task_seen (take c.args.x l)) c.deref-in-TwiceName.ensures.value
    ∙ sym (take-map task_seen c.args.x c.args.parts.now.tasks.items) in
    let name : c.as_bytes-name.result.now ≡ (task_at set c.args.x).name =
    c.as_bytes-name.ensures.value ∙ ap (λ p. p.name) c.task_part-task.ensures
    ∙ ap (λ l. (slice_index_or (map task_seen l) c.args.x no_task).name) c.deref.ensures.value in
    rw c.in-TwiceName.is (c.is_task_named.ensures ∙ ap (λ l. has_task_named l c.as_bytes-name.result.now) earlier
    ∙ ap (λ n. has_task_named (take c.args.x set.tasks) n) name)
