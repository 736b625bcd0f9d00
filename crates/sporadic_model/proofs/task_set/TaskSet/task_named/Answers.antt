use Rattle.std.proofs.Common.{◌≡◌, ◌<◌, length, map, ap, ◌∙◌, subst, arith, sym, Some}
use Rattle.std.specs.List.{position}
use Rattle.std.specs.Str.{bytes_eq}
use Rattle.sporadic_model.specs.SetDef.{SetDef, task_at}
use Rattle.sporadic_model.specs.Seen.{parts_seen, task_seen}
use Rattle.sporadic_model.specs.Users.{task_with_name}
use Rattle.sporadic_model.specs.Accepted.{SetSizes}
use Rattle.sporadic_model.proofs.Laws.{sizes_of_accepted, named_task}
use Rattle.sporadic_model.proofs.task_set.TaskSet.task_named.Goals as goal

pub overflow_cast-result : goal.overflow_cast-result
overflow_cast-result c =
    let set : SetDef = parts_seen c.self.inside.parts in
    let found : task_with_name set c.args.name.now ≡ Some c.in-Some.x =
    ap (λ l. position (λ t. bytes_eq t.name c.args.name.now) (map task_seen l)) (sym c.deref.ensures.value)
    ∙ sym c.place_of_task.ensures ∙ c.in-Some.is in
    let sizes : SetSizes set = sizes_of_accepted set c.self.invariant.accepted in
    let within : c.in-Some.x < length set.tasks = (named_task set c.args.name.now c.in-Some.x found).0 in
    omega arith

pub returns-in-Some-clause-named : goal.returns-in-Some-clause-named
returns-in-Some-clause-named c =
    let set : SetDef = parts_seen c.self.inside.parts in
    let found : task_with_name set c.args.name.now ≡ Some c.in-Some.x =
    ap (λ l. position (λ t. bytes_eq t.name c.args.name.now) (map task_seen l)) (sym c.deref.ensures.value)
    ∙ sym c.place_of_task.ensures ∙ c.in-Some.is in
    let name : (task_at set c.in-Some.x).name ≡ c.args.name.now = (named_task set c.args.name.now c.in-Some.x found).1 in
    subst (λ s. (task_at s c.in-Some.x).name ≡ c.args.name.now) c.self.view_is name
