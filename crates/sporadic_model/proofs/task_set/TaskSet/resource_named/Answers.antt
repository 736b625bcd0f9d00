use Rattle.std.proofs.Common.{◌≡◌, ◌<◌, length, map, ap, ◌∙◌, subst, arith, sym, Some}
use Rattle.std.specs.List.{position}
use Rattle.std.specs.Str.{bytes_eq}
use Rattle.sporadic_model.specs.SetDef.{SetDef, resource_at}
use Rattle.sporadic_model.specs.Seen.{parts_seen, resource_seen}
use Rattle.sporadic_model.specs.Users.{resource_with_name}
use Rattle.sporadic_model.specs.Accepted.{SetSizes}
use Rattle.sporadic_model.proofs.Laws.{sizes_of_accepted, named_resource}
use Rattle.sporadic_model.proofs.task_set.TaskSet.resource_named.Goals as goal

pub overflow_cast-result : goal.overflow_cast-result
overflow_cast-result c =
    let set : SetDef = parts_seen c.self.inside.parts in
    let found : resource_with_name set c.args.name.now ≡ Some c.in-Some.q =
    ap (λ l. position (λ r. bytes_eq r.name c.args.name.now) (map resource_seen l)) (sym c.deref.ensures.value)
    ∙ sym c.place_of_resource.ensures ∙ c.in-Some.is in
    let sizes : SetSizes set = sizes_of_accepted set c.self.invariant.accepted in
    let within : c.in-Some.q < length set.resources = (named_resource set c.args.name.now c.in-Some.q found).0 in
    omega arith

pub returns-in-Some-clause-named : goal.returns-in-Some-clause-named
returns-in-Some-clause-named c =
    let set : SetDef = parts_seen c.self.inside.parts in
    let found : resource_with_name set c.args.name.now ≡ Some c.in-Some.q =
    ap (λ l. position (λ r. bytes_eq r.name c.args.name.now) (map resource_seen l)) (sym c.deref.ensures.value)
    ∙ sym c.place_of_resource.ensures ∙ c.in-Some.is in
    let name : (resource_at set c.in-Some.q).name ≡ c.args.name.now = (named_resource set c.args.name.now c.in-Some.q found).1 in
    subst (λ s. (resource_at s c.in-Some.q).name ≡ c.args.name.now) c.self.view_is name
