use Rattle.std.proofs.Common.{◌≡◌, map, take, ap, sym, ◌∙◌}
use Rattle.std.specs.List.{slice_index_or}
use Rattle.std.proofs.lemmas.List.{take-map}
use Rattle.sporadic_model.specs.SetDef.{SetDef, task_at, request_at, no_task, no_request}
use Rattle.sporadic_model.specs.Seen.{parts_seen, request_seen, task_seen}
use Rattle.sporadic_model.specs.Refusals.{is_due, has_entry_for}
use Rattle.sporadic_model.proofs.judging.is_due_at_request.Goals as goal

pub returns-in-TwiceRequest : goal.returns-in-TwiceRequest
unfolding is_due
returns-in-TwiceRequest c =
    let set : SetDef = parts_seen c.args.parts.now in
    let task : task_seen c.task_part-task.result.now ≡ task_at set c.args.x =
    c.task_part-task.ensures ∙ ap (λ l. slice_index_or (map task_seen l) c.args.x no_task) c.deref.ensures.value in
    let entries : map request_seen c.task_part-task.result.now.requests.items ≡ (task_at set c.args.x).requests =
    ap (λ t. t.requests) task in
    let earlier : map request_seen (take c.args.j c.deref-in-TwiceRequest.result.now) ≡ take c.args.j (task_at set c.args.x).requests =
    ap (λ l. map request_seen (take c.args.j l)) c.deref-in-TwiceRequest.ensures.value
    ∙ sym (take-map request_seen c.args.j c.task_part-task.result.now.requests.items)
    ∙ ap (take c.args.j) entries in
    let name : c.as_bytes-name.result.now ≡ (request_at set c.args.x c.args.j).resource =
    c.as_bytes-name.ensures.value
    ∙ ap (λ e. e.resource) c.request_part-request.ensures
    ∙ ap (λ l. (slice_index_or (map request_seen l) c.args.j no_request).resource) c.deref-2.ensures.value
    ∙ ap (λ l. (slice_index_or l c.args.j no_request).resource) entries in
    rw c.in-TwiceRequest.is (c.is_entry_for.ensures ∙ ap (λ l. has_entry_for l c.as_bytes-name.result.now) earlier
    ∙ ap (λ n. has_entry_for (take c.args.j (task_at set c.args.x).requests) n) name)
