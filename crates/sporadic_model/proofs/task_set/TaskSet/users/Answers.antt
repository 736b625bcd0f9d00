use Rattle.std.specs.Prelude.{Vec}
use Rattle.std.proofs.Common.{◌∙◌, ◌<◌, All, length, map, ap, sym, subst}
use Rattle.std.specs.Global.{Global}
use Rattle.sporadic_model.specs.Users.{is_user}
use Rattle.sporadic_model.specs.declared.ids.TaskId.{TaskId}
use Rattle.sporadic_model.proofs.Kept.{ids_kept}
use Rattle.sporadic_model.proofs.task_set.TaskSet.users.Goals as goal

pub row_at-requires : goal.row_at-requires
row_at-requires c =
    (ids_kept (λ (v : Vec TaskId Global). v.items) (λ (i : TaskId). i.0) is_user (λ s. length s.tasks) (λ s. length s.resources)
    c.args.q.0 _ c.args.self.now _ c.deref.result.now c.self.view_is c.deref.ensures.value c.self.invariant.users c.requires).within

pub returns-clause-value : goal.returns-clause-value
returns-clause-value c =
    ap (map (λ (i : TaskId). i.0)) c.row_at.ensures
    ∙ (ids_kept (λ (v : Vec TaskId Global). v.items) (λ (i : TaskId). i.0) is_user (λ s. length s.tasks) (λ s. length s.resources)
    c.args.q.0 _ c.args.self.now _ c.deref.result.now c.self.view_is c.deref.ensures.value c.self.invariant.users c.requires).ids

pub returns-clause-within : goal.returns-clause-within
returns-clause-within c =
    subst (All (λ (i : TaskId). i.0 < length c.args.self.now.tasks)) (sym c.row_at.ensures)
    (ids_kept (λ (v : Vec TaskId Global). v.items) (λ (i : TaskId). i.0) is_user (λ s. length s.tasks) (λ s. length s.resources)
    c.args.q.0 _ c.args.self.now _ c.deref.result.now c.self.view_is c.deref.ensures.value c.self.invariant.users c.requires).below
