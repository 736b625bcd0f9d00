use Rattle.std.proofs.Common.{◌∙◌, ap, sym, length}
use Rattle.std.specs.List.{slice_get}
use Rattle.std.specs.Option.{option_map}
use Rattle.sporadic_model.specs.SetDef.{SetDef}
use Rattle.sporadic_model.specs.Users.{numbers, is_user}
use Rattle.sporadic_model.specs.declared.ids.TaskId.{TaskId}
use Rattle.sporadic_model.proofs.Filtered.{find_first, get-map}
use Rattle.sporadic_model.proofs.Kept.{ceiling_highest, ceiling_none}
use Rattle.sporadic_model.proofs.task_set.TaskSet.ceiling.Goals as goal

pub returns-clause-value : goal.returns-clause-value
returns-clause-value c =
    let set : SetDef = c.args.self.now in
    ap (option_map (λ (x : TaskId). x.0)) (c.copied.ensures ∙ c.first.ensures.value) ∙ sym (get-map (λ (x : TaskId). x.0) c.users.result.now)
    ∙ ap (λ l. slice_get l 0) c.users.ensures.value ∙ sym (find_first (is_user set c.args.q.0) (numbers (length set.tasks)))

pub returns-clause-highest : goal.returns-clause-highest
returns-clause-highest c =
    let set : SetDef = c.args.self.now in
    ceiling_highest set c.args.q.0 c.copied.result
    (ap (option_map (λ (x : TaskId). x.0)) (c.copied.ensures ∙ c.first.ensures.value) ∙ sym (get-map (λ (x : TaskId). x.0) c.users.result.now)
    ∙ ap (λ l. slice_get l 0) c.users.ensures.value ∙ sym (find_first (is_user set c.args.q.0) (numbers (length set.tasks))))

pub returns-clause-none : goal.returns-clause-none
returns-clause-none c =
    let set : SetDef = c.args.self.now in
    ceiling_none set c.args.q.0 c.copied.result
    (ap (option_map (λ (x : TaskId). x.0)) (c.copied.ensures ∙ c.first.ensures.value) ∙ sym (get-map (λ (x : TaskId). x.0) c.users.result.now)
    ∙ ap (λ l. slice_get l 0) c.users.ensures.value ∙ sym (find_first (is_user set c.args.q.0) (numbers (length set.tasks))))
