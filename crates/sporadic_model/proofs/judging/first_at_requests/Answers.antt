use Rattle.std.proofs.Common.{◌<◌, length, map, sym, ◌∙◌, arith}
use Rattle.std.proofs.lemmas.List.{length-map}
use Rattle.sporadic_model.specs.SetDef.{SetDef, task_at}
use Rattle.sporadic_model.specs.Seen.{parts_seen, task_seen}
use Rattle.sporadic_model.specs.Users.{numbers}
use Rattle.sporadic_model.specs.Faults.{request_refusal}
use Rattle.sporadic_model.specs.Refusals.{is_due}
use Rattle.sporadic_model.proofs.Finding.{find_in_later, find_in_here}
use Rattle.sporadic_model.proofs.judging.first_at_requests.Goals as goal

pub loop-x-preserved : goal.loop-x-preserved
loop-x-preserved c =
    let set : SetDef = parts_seen c.args.parts.now in
    let within : c.loop-x.x < length set.tasks = rw (length-map c.args.parts.now.tasks.items task_seen) (omega arith) in
    sym
    (find_in_later (is_due set) (λ x. map (request_refusal c.args.fault x) (numbers (length (task_at set x).requests)))
    c.loop-x.x (length set.tasks) within (sym c.first_at_entries.ensures ∙ c.in_default.is)) ∙ c.loop-x.invariant

pub returns-in-Some : goal.returns-in-Some
returns-in-Some c =
    let set : SetDef = parts_seen c.args.parts.now in
    let within : c.loop-x.x < length set.tasks = rw (length-map c.args.parts.now.tasks.items task_seen) (omega arith) in
    sym
    (find_in_here (is_due set) (λ x. map (request_refusal c.args.fault x) (numbers (length (task_at set x).requests)))
    c.loop-x.x (length set.tasks) c.in-Some.refusal within (sym c.first_at_entries.ensures ∙ c.in-Some.is))
    ∙ c.loop-x.invariant
