-- A resource is used on a processor where one of its users is there.
use Rattle.std.proofs.Common.{◌≡◌, ℕ, ◌==◌, ◌&&◌, Bool, List, map, length, ◌∙◌, nat_le}
use Rattle.std.proofs.Math.Bool.{and_comm}
use Rattle.std.specs.List.{list_any}
use Rattle.number_laws.proofs.TestLaws.{any_below-agree}
use Rattle.sporadic_model.specs.SetDef.{SetDef, task_at}
use Rattle.sporadic_model.specs.Users.{is_user, users_of}
use Rattle.sporadic_model.specs.declared.ids.TaskId.{TaskId}
use Rattle.blocking_columns.proofs.KeptNumbers.{any_of_kept}
use Rattle.blocking_columns.specs.Columns.{have_one_processor}
use Rattle.closer_spin_laws.specs.CloserSpinRows.{is_used_on, is_used_above}

pub used_on : (set : SetDef) (k q : ℕ) (users : List TaskId) → map (λ x. x.0) users ≡ users_of set q
    → list_any (λ x. (task_at set x.0).processor == k) users ≡ is_used_on set k q
used_on set k q users same =
    let there : ℕ → Bool = λ x. (task_at set x).processor == k in
    any_of_kept (λ (x : TaskId). x.0) users (is_user set q) there (length set.tasks) same
    ∙ any_below-agree (length set.tasks) (λ x. is_user set q x && there x) (λ x. there x && is_user set q x)
    (λ x l. and_comm (is_user set q x) (there x))

pub used_above : (set : SetDef) (i q : ℕ) (users : List TaskId) → map (λ x. x.0) users ≡ users_of set q
    → list_any (λ x. nat_le x.0 i && have_one_processor set x.0 i) users ≡ is_used_above set i q
used_above set i q users same =
    let there : ℕ → Bool = λ x. nat_le x i && have_one_processor set x i in
    any_of_kept (λ (x : TaskId). x.0) users (is_user set q) there (length set.tasks) same
    ∙ any_below-agree (length set.tasks) (λ x. is_user set q x && there x) (λ x. there x && is_user set q x)
    (λ x l. and_comm (is_user set q x) (there x))
