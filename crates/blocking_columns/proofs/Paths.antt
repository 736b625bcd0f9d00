-- Paths looked for by their resource first: the tests that don't speak of the task stand outside.
use Rattle.std.proofs.Common.{◌≡◌, ℕ, ◌==◌, ◌&&◌, not, Bool, true, false, length, refl, sym, ◌∙◌, inl, inr}
use Rattle.std.proofs.lemmas.Bool.{cases_Bool}
use Rattle.number_laws.specs.Tests.{any_below}
use Rattle.number_laws.proofs.TestLaws.{any_below-from, any_below-some, any_below-none, any_below-none_from, any_below-agree}
use Rattle.sporadic_model.specs.SetDef.{SetDef, task_at}
use Rattle.sporadic_model.specs.Users.{is_user}
use Rattle.sporadic_model.specs.declared.ids.Protocol.{Protocol}
use Rattle.blocking_columns.specs.Columns.{is_path, have_one_processor, may_run_before}

-- Some number with some other is some other with some number.
pub any_below-swap : (n m : ℕ) (p : ℕ → ℕ → Bool)
    → any_below n (λ y. any_below m (λ r. p y r)) ≡ any_below m (λ r. any_below n (λ y. p y r))
any_below-swap n m p = elim (cases_Bool (any_below n (λ y. any_below m (λ r. p y r)))) [
  | inl some ↦
      let y = any_below-some n (λ y. any_below m (λ r. p y r)) some in
      let r = any_below-some m (λ r. p y.0 r) y.2 in
      some ∙ sym (any_below-from m (λ r. any_below n (λ y. p y r)) r.0 r.1 (any_below-from n (λ y. p y r.0) y.0 y.1 r.2))
  | inr none ↦
      none ∙ sym (any_below-none_from m (λ r. any_below n (λ y. p y r)) (λ r b. any_below-none_from n (λ y. p y r) (λ y a.
      any_below-none m (λ r. p y r) (any_below-none n (λ y. any_below m (λ r. p y r)) none y a) r b)))
]

pub any_below-both : (b : Bool) (n : ℕ) (p : ℕ → Bool) → any_below n (λ y. b && p y) ≡ (b && any_below n p)
any_below-both true n p = refl
any_below-both false n p = any_below-none_from n (λ y. false) (λ y a. refl)

path_parts : (beside apart mine its before : Bool)
    → (beside && ((apart && (mine && its)) && before)) ≡ ((apart && (mine && before)) && (beside && its))
path_parts true false mine its before = refl
path_parts true true false its before = refl
path_parts true true true true true = refl
path_parts true true true true false = refl
path_parts true true true false true = refl
path_parts true true true false false = refl
path_parts false false mine its before = refl
path_parts false true false its before = refl
path_parts false true true its true = refl
path_parts false true true its false = refl

-- A resource is that of a path where i may wait for it and a task beside x uses it.
pub paths_by : (p : Protocol) (set : SetDef) (i x q r : ℕ)
    → any_below (length set.tasks) (λ y. is_path p set i x q y r)
    ≡ ((not (r == q) && (is_user set r i && may_run_before p set (task_at set x).processor q r))
    && any_below (length set.tasks) (λ y. (have_one_processor set y x && (not (y == x) && not (y == i))) && is_user set r y))
paths_by p set i x q r =
    let behind : Bool = not (r == q) && (is_user set r i && may_run_before p set (task_at set x).processor q r) in
    let beside : ℕ → Bool = λ y. (have_one_processor set y x && (not (y == x) && not (y == i))) && is_user set r y in
    any_below-agree (length set.tasks) (λ y. is_path p set i x q y r) (λ y. behind && beside y) (λ y a.
    path_parts (have_one_processor set y x && (not (y == x) && not (y == i))) (not (r == q)) (is_user set r i)
    (is_user set r y) (may_run_before p set (task_at set x).processor q r))
    ∙ any_below-both behind (length set.tasks) beside
