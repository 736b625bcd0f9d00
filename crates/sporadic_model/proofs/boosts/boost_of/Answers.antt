use Rattle.std.specs.Prelude.{Vec}
use Rattle.std.proofs.Common.{◌≡◌, ◌∙◌, ◌<◌, All, length, map, ap, sym, subst}
use Rattle.std.specs.Global.{Global}
use Rattle.std.specs.List.{slice_get}
use Rattle.std.specs.Option.{option_map, option_or}
use Rattle.sporadic_model.specs.SetDef.{SetDef}
use Rattle.sporadic_model.specs.Seen.{parts_seen}
use Rattle.sporadic_model.specs.Users.{numbers, users_of, is_user, ceiling_of}
use Rattle.sporadic_model.specs.declared.ids.TaskId.{TaskId}
use Rattle.sporadic_model.proofs.Filtered.{has_ids, find_first, get-map}
use Rattle.sporadic_model.proofs.Kept.{ceiling_seen}
use Rattle.sporadic_model.proofs.boosts.boost_of.Goals as goal

pub row_at-of_resource-requires : goal.row_at-of_resource-requires
row_at-of_resource-requires c =
    let set : SetDef = parts_seen c.args.parts.now in
    (has_ids (λ (v : Vec TaskId Global). v.items) (λ (i : TaskId). i.0) (is_user set) (length set.tasks) (length set.resources) c.args.q
    c.args.users.now c.requires.kept c.requires.resource).within

pub first_beyond-requires : goal.first_beyond-requires
first_beyond-requires c =
    let set : SetDef = parts_seen c.args.parts.now in
    subst (All (λ (i : TaskId). i.0 < length set.tasks)) (sym c.row_at-of_resource.ensures)
    (has_ids (λ (v : Vec TaskId Global). v.items) (λ (i : TaskId). i.0) (is_user set) (length set.tasks) (length set.resources) c.args.q
    c.args.users.now c.requires.kept c.requires.resource).below

pub returns-in-Some : goal.returns-in-Some
returns-in-Some c =
    let set : SetDef = parts_seen c.args.parts.now in
    let listed : map (λ (i : TaskId). i.0) c.row_at-of_resource.result.now ≡ users_of set c.args.q =
    ap (map (λ (i : TaskId). i.0)) c.row_at-of_resource.ensures
    ∙ (has_ids (λ (v : Vec TaskId Global). v.items) (λ (i : TaskId). i.0) (is_user set) (length set.tasks) (length set.resources) c.args.q
    c.args.users.now c.requires.kept c.requires.resource).ids in
    ap (λ o. option_or (option_map (λ (i : TaskId). i.0) o) (ceiling_of set c.args.q)) (sym c.in-Some.is)
    ∙ ceiling_seen set c.args.q c.args.k c.row_at-of_resource.result.now c.first_beyond.result listed c.first_beyond.ensures

pub returns-in-None : goal.returns-in-None
returns-in-None c =
    let set : SetDef = parts_seen c.args.parts.now in
    let listed : map (λ (i : TaskId). i.0) c.row_at-of_resource.result.now ≡ users_of set c.args.q =
    ap (map (λ (i : TaskId). i.0)) c.row_at-of_resource.ensures
    ∙ (has_ids (λ (v : Vec TaskId Global). v.items) (λ (i : TaskId). i.0) (is_user set) (length set.tasks) (length set.resources) c.args.q
    c.args.users.now c.requires.kept c.requires.resource).ids in
    ap (option_map (λ (i : TaskId). i.0)) (c.copied.ensures ∙ c.first.ensures.value)
    ∙ sym (get-map (λ (i : TaskId). i.0) c.row_at-of_resource.result.now) ∙ ap (λ l. slice_get l 0) listed
    ∙ sym (find_first (is_user set c.args.q) (numbers (length set.tasks)))
    ∙ ap (λ o. option_or (option_map (λ (i : TaskId). i.0) o) (ceiling_of set c.args.q)) (sym c.in-None.is)
    ∙ ceiling_seen set c.args.q c.args.k c.row_at-of_resource.result.now c.first_beyond.result listed c.first_beyond.ensures
