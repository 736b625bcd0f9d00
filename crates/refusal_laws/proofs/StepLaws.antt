-- How the vectors of a refusal's steps follow one another.
use Rattle.std.proofs.Common.{◌≡◌, ◌≢◌, ℕ, ◌+◌, ◌<◌, ◌≤◌, List, [], ◌∷◌, ◌++◌, length, take, refl, ap, ◌∙◌}
use Rattle.std.proofs.lemmas.List.{take_more, get_or-map, get_or-set_same, get_or-set_other, length-map, length-set, take-append-le}
use Rattle.std.specs.Prelude.{slice_index}
use Rattle.sporadic_model.specs.SetDef.{SetDef, TaskDef, no_task, task_at}
use Rattle.refusal_laws.specs.Steps.{StepDef, no_step, step_at, place_of, with_step, after_steps, costs_of, vector_before}

-- One list of steps, and then another.
pub after_both : (v : List ℕ) (xs ys : List StepDef) → after_steps v (xs ++ ys) ≡ after_steps (after_steps v xs) ys
after_both v [] ys = refl
after_both v (x ∷ xs) ys = after_both (with_step v x) xs ys

-- No step changes how many bounds there are.
pub after_length : (v : List ℕ) (xs : List StepDef) → length (after_steps v xs) ≡ length v
after_length v [] = refl
after_length v (x ∷ xs) = after_length (with_step v x) xs ∙ length-set v (place_of x) x.value

-- The costs are one bound a task.
pub costs_length : (set : SetDef) → length (costs_of set) ≡ length set.tasks
costs_length set = length-map set.tasks (λ (t : TaskDef). t.cost)

pub cost_at : (set : SetDef) (i : ℕ) → i < length set.tasks → slice_index (costs_of set) i ≡ (task_at set i).cost
cost_at set i here = get_or-map (λ t. t.cost) set.tasks i no_task 0 here

-- There is a bound for each task before each step.
pub before_length : (set : SetDef) (steps : List StepDef) (k : ℕ) → length (vector_before set steps k) ≡ length set.tasks
before_length set steps k = after_length (costs_of set) (take k steps) ∙ costs_length set

-- The bounds before the next step have this one's value in its task's place.
pub vector_next : (set : SetDef) (steps : List StepDef) (k : ℕ) → k < length steps
    → vector_before set steps (k + 1) ≡ with_step (vector_before set steps k) (step_at steps k)
vector_next set steps k here =
    ap (after_steps (costs_of set)) (take_more steps k no_step here) ∙ after_both (costs_of set) (take k steps) (step_at steps k ∷ [])

-- Steps that come behind change no bounds before them.
pub before_more : (set : SetDef) (steps more : List StepDef) (k : ℕ) → k ≤ length steps
    → vector_before set (steps ++ more) k ≡ vector_before set steps k
before_more set steps more k here = ap (after_steps (costs_of set)) (take-append-le k steps more here)

-- The task's own place has the step's value, and every other place keeps its bound.
pub own_place : (v : List ℕ) (s : StepDef) → place_of s < length v → slice_index (with_step v s) (place_of s) ≡ s.value
own_place v s here = get_or-set_same v (place_of s) s.value 0 here

pub other_place : (v : List ℕ) (s : StepDef) (i : ℕ) → i ≢ place_of s → slice_index (with_step v s) i ≡ slice_index v i
other_place v s i other = get_or-set_other v (place_of s) i s.value 0 other
