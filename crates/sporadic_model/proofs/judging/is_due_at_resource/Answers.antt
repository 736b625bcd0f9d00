use Rattle.std.proofs.Common.{◌≡◌, map, take, ap, sym, ◌∙◌}
use Rattle.std.specs.List.{slice_index_or}
use Rattle.std.proofs.lemmas.List.{take-map}
use Rattle.sporadic_model.specs.SetDef.{SetDef, no_resource, resource_at}
use Rattle.sporadic_model.specs.Seen.{parts_seen, resource_seen}
use Rattle.sporadic_model.specs.Refusals.{is_due, has_resource_named}
use Rattle.sporadic_model.proofs.judging.is_due_at_resource.Goals as goal

pub returns-in-TwiceName : goal.returns-in-TwiceName
unfolding is_due
returns-in-TwiceName c =
    let set : SetDef = parts_seen c.args.parts.now in
    let earlier : map resource_seen (take c.args.q c.deref-in-TwiceName.result.now) ≡ take c.args.q set.resources =
    ap (λ l. map resource_seen (take c.args.q l)) c.deref-in-TwiceName.ensures.value
    ∙ sym (take-map resource_seen c.args.q c.args.parts.now.resources.items) in
    let name : c.as_bytes-name.result.now ≡ (resource_at set c.args.q).name =
    c.as_bytes-name.ensures.value ∙ ap (λ p. p.name) c.resource_part-resource.ensures
    ∙ ap (λ l. (slice_index_or (map resource_seen l) c.args.q no_resource).name) c.deref.ensures.value in
    rw c.in-TwiceName.is
    (c.is_resource_named.ensures ∙ ap (λ l. has_resource_named l c.as_bytes-name.result.now) earlier
    ∙ ap (λ n. has_resource_named (take c.args.q set.resources) n) name)
