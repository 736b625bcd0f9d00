use Rattle.std.proofs.Common.{◌≡◌, ◌<◌, length, map, false, sym, ap, ◌∙◌, arith}
use Rattle.std.specs.List.{slice_index_or}
use Rattle.std.proofs.lemmas.List.{length-map}
use Rattle.sporadic_model.specs.SetDef.{SetDef, task_at, no_task}
use Rattle.sporadic_model.specs.Seen.{parts_seen, task_seen, request_seen}
use Rattle.sporadic_model.specs.Faults.{request_refusal}
use Rattle.sporadic_model.specs.Refusals.{is_due}
use Rattle.sporadic_model.proofs.Finding.{find_later}
use Rattle.sporadic_model.proofs.judging.first_at_entries.Goals as goal

pub loop-j-preserved : goal.loop-j-preserved
loop-j-preserved c =
    let set : SetDef = parts_seen c.args.parts.now in
    let task : task_seen c.task_part.result.now ≡ task_at set c.args.x =
    c.task_part.ensures ∙ ap (λ l. slice_index_or (map task_seen l) c.args.x no_task) c.deref.ensures.value in
    let seen : length (task_at set c.args.x).requests
    ≡ length (map request_seen c.task_part.result.now.requests.items) = sym (ap (λ t. length t.requests) task) in
    let parts : length (map request_seen c.task_part.result.now.requests.items)
    ≡ length c.task_part.result.now.requests.items = length-map c.task_part.result.now.requests.items request_seen in
    let within : c.loop-j.j < length (task_at set c.args.x).requests = omega arith in
    let fails : is_due set (request_refusal c.args.fault c.args.x c.loop-j.j) ≡ false =
    sym c.is_due_at_request.ensures ∙ c.if-is_due_at_request.false in
    sym (find_later (is_due set) (request_refusal c.args.fault c.args.x) c.loop-j.j
    (length (task_at set c.args.x).requests) within fails) ∙ c.loop-j.invariant
