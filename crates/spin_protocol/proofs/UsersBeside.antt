-- A resource is used beside a task if one of its users is another task of the same processor, and below it if one is a lower one.
use Rattle.std.proofs.Common.{◌≡◌, ℕ, ◌==◌, ◌&&◌, not, Bool, List, map, length, ◌∙◌}
use Rattle.std.proofs.Math.Bool.{and_comm}
use Rattle.std.specs.List.{list_any}
use Rattle.number_laws.proofs.TestLaws.{any_below-agree}
use Rattle.sporadic_model.specs.SetDef.{SetDef}
use Rattle.sporadic_model.specs.Users.{is_user, users_of}
use Rattle.sporadic_model.specs.declared.ids.TaskId.{TaskId}
use Rattle.blocking_columns.specs.Columns.{have_one_processor, is_lower_local}
use Rattle.blocking_columns.proofs.KeptNumbers.{any_of_kept}
use Rattle.spin_charging.specs.SpinPrograms.{is_used_beside, is_used_below}

pub used_beside : (set : SetDef) (i q : ℕ) (users : List TaskId) → map (λ z. z.0) users ≡ users_of set q
    → list_any (λ z. not (z.0 == i) && have_one_processor set z.0 i) users ≡ is_used_beside set i q
used_beside set i q users same =
    let beside : ℕ → Bool = λ z. not (z == i) && have_one_processor set z i in
    any_of_kept (λ (z : TaskId). z.0) users (is_user set q) beside (length set.tasks) same
    ∙ any_below-agree (length set.tasks) (λ z. is_user set q z && beside z) (λ z. beside z && is_user set q z)
    (λ z l. and_comm (is_user set q z) (beside z))

pub used_below : (set : SetDef) (i q : ℕ) (users : List TaskId) → map (λ x. x.0) users ≡ users_of set q
    → list_any (λ x. is_lower_local set i x.0) users ≡ is_used_below set i q
used_below set i q users same =
    any_of_kept (λ (x : TaskId). x.0) users (is_user set q) (is_lower_local set i) (length set.tasks) same
    ∙ any_below-agree (length set.tasks) (λ x. is_user set q x && is_lower_local set i x) (λ x. is_lower_local set i x && is_user set q x)
    (λ x l. and_comm (is_user set q x) (is_lower_local set i x))
