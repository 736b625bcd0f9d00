use Rattle.std.proofs.Common.{◌≡◌, ◌<◌, length, false, sym, ◌∙◌, arith}
use Rattle.std.proofs.lemmas.List.{length-map}
use Rattle.sporadic_model.specs.SetDef.{SetDef}
use Rattle.sporadic_model.specs.Seen.{parts_seen, resource_seen}
use Rattle.sporadic_model.specs.Faults.{resource_refusal}
use Rattle.sporadic_model.specs.Refusals.{is_due}
use Rattle.sporadic_model.proofs.Finding.{find_later}
use Rattle.sporadic_model.proofs.judging.first_at_resources.Goals as goal

pub loop-q-preserved : goal.loop-q-preserved
loop-q-preserved c =
    let set : SetDef = parts_seen c.args.parts.now in
    let within : c.loop-q.q < length set.resources = rw (length-map c.args.parts.now.resources.items resource_seen) (omega arith) in
    let fails : is_due set (resource_refusal c.args.fault c.loop-q.q) ≡ false =
    sym c.is_due_at_resource.ensures ∙ c.if-is_due_at_resource.false in
    sym (find_later (is_due set) (resource_refusal c.args.fault) c.loop-q.q (length set.resources) within fails) ∙ c.loop-q.invariant
