use Rattle.std.specs.Prelude.{Vec}
use Rattle.std.proofs.Common.{◌∙◌, ◌<◌, All, length, map, ap, sym, subst}
use Rattle.std.specs.Global.{Global}
use Rattle.sporadic_model.specs.Users.{is_user}
use Rattle.sporadic_model.specs.declared.ids.ResourceId.{ResourceId}
use Rattle.sporadic_model.proofs.Kept.{ids_kept}
use Rattle.sporadic_model.proofs.task_set.TaskSet.used_by.Goals as goal

pub row_at-requires : goal.row_at-requires
row_at-requires c =
    (ids_kept (λ (v : Vec ResourceId Global). v.items) (λ (i : ResourceId). i.0) (λ s x q. is_user s q x) (λ s. length s.resources) (λ s. length s.tasks)
    c.args.x.0 _ c.args.self.now _ c.deref.result.now c.self.view_is c.deref.ensures.value c.self.invariant.used c.requires).within

pub returns-clause-value : goal.returns-clause-value
returns-clause-value c =
    ap (map (λ (i : ResourceId). i.0)) c.row_at.ensures
    ∙ (ids_kept (λ (v : Vec ResourceId Global). v.items) (λ (i : ResourceId). i.0) (λ s x q. is_user s q x) (λ s. length s.resources) (λ s. length s.tasks)
    c.args.x.0 _ c.args.self.now _ c.deref.result.now c.self.view_is c.deref.ensures.value c.self.invariant.used c.requires).ids

pub returns-clause-within : goal.returns-clause-within
returns-clause-within c =
    subst (All (λ (i : ResourceId). i.0 < length c.args.self.now.resources)) (sym c.row_at.ensures)
    (ids_kept (λ (v : Vec ResourceId Global). v.items) (λ (i : ResourceId). i.0) (λ s x q. is_user s q x) (λ s. length s.resources) (λ s. length s.tasks)
    c.args.x.0 _ c.args.self.now _ c.deref.result.now c.self.view_is c.deref.ensures.value c.self.invariant.used c.requires).below
