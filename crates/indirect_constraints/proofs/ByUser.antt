-- Sums over the users of a resource and over the resources of a task, which are lists.
use Rattle.std.proofs.Common.{◌≡◌, ℕ, zero, suc, ◌+◌, ◌*◌, ◌<◌, ◌≤◌, ◌==◌, ◌&&◌, Bool, true, false, nat_lt, List, length, map, drop, get_or}
use Rattle.std.proofs.Common.{refl, ap, ◌∙◌, arith, inl, inr}
use Rattle.std.specs.List.{filter, sum_by}
use Rattle.std.proofs.lemmas.Bool.{cases_eq, eq-eqb, ne_eqb, lt-ltb}
use Rattle.std.proofs.lemmas.List.{drop_more, length-map}
use Rattle.std.proofs.lemmas.List.FromFn.{length-range_with_len}
use Rattle.std.proofs.lemmas.List.Sums.{sum_by-cons, length-filter, count_by-le-length}
use Rattle.number_laws.specs.Sums.{sum_below, only_if, flag}
use Rattle.number_laws.proofs.SumLaws.{sum_below-agree, sum_below-one, only_if-true, only_if-at_most}
use Rattle.number_laws.proofs.OnlyIfLaws.{only_if-nothing}
use Rattle.sporadic_model.specs.SetDef.{SetDef, task_at}
use Rattle.sporadic_model.specs.Users.{numbers, is_user, count_of, users_of, used_by}
use Rattle.sporadic_model.specs.declared.ids.TaskId.{TaskId}
use Rattle.sporadic_model.specs.declared.ids.ResourceId.{ResourceId}
use Rattle.blocking_columns.specs.Windows.{requests_in, jobs_in}
use Rattle.blocking_columns.proofs.KeptNumbers.{sum_of_kept}
use Rattle.indirect_constraints.specs.Tables.{sum_on, lower_user}

-- At most as many are kept as there are.
kept_few : {X : Type 0} (id : X → ℕ) (xs : List X) (p : ℕ → Bool) (n : ℕ) → map id xs ≡ filter p (numbers n) → length xs ≤ n
kept_few id xs p n same =
    omega (arith, length-map xs id, ap length same, length-filter p (numbers n), count_by-le-length p (numbers n), length-range_with_len 0 n)

pub users_few : (set : SetDef) (q : ℕ) (ys : List TaskId) → map (λ (y : TaskId). y.0) ys ≡ users_of set q → length ys ≤ length set.tasks
users_few set q ys same = kept_few (λ (y : TaskId). y.0) ys (is_user set q) (length set.tasks) same

-- The next one's term, and those behind it.
pub rest_more : {X : Type 0} (f : X → ℕ) (xs : List X) (k : ℕ) (d : X) → k < length xs
    → sum_by f (drop k xs) ≡ f (get_or xs k d) + sum_by f (drop (k + 1) xs)
rest_more f xs k d l = ap (sum_by f) (drop_more xs k d l) ∙ sum_by-cons f (get_or xs k d) (drop (k + 1) xs)

-- Of one number alone there is its own term, where it is kept.
pub kept_at : {X : Type 0} (id : X → ℕ) (xs : List X) (p : ℕ → Bool) (f : ℕ → ℕ) (n k : ℕ) → map id xs ≡ filter p (numbers n) → k < n
    → sum_by (λ x. only_if (id x == k) (f (id x))) xs ≡ only_if (p k) (f k)
kept_at id xs p f n k same l = sum_of_kept id xs p (λ j. only_if (j == k) (f j)) n same
    ∙ (sum_below-one n (λ j. only_if (p j) (only_if (j == k) (f j))) k l away
    ∙ ap (only_if (p k)) (only_if-true (k == k) (f k) (eq-eqb k k refl))) where
      away : (j : ℕ) → j < n → (j ≡ k → ⊥) → only_if (p j) (only_if (j == k) (f j)) ≡ 0
      away j m other = rw (ne_eqb j k other) (only_if-nothing (p j))

none_of_none : (c jobs : ℕ) → only_if (nat_lt 0 c) (c * jobs) ≡ c * jobs
none_of_none zero jobs = omega arith
none_of_none (suc c) jobs = only_if-true (nat_lt 0 (suc c)) (suc c * jobs) (lt-ltb 0 (suc c) (omega arith))

-- A resource's users make all of its requests.
pub users_requests : (set : SetDef) (bounds : ℕ → ℕ) (i k q : ℕ) (ys : List TaskId)
    → map (λ (y : TaskId). y.0) ys ≡ users_of set q → k < length set.tasks
    → sum_by (λ (y : TaskId). only_if (y.0 == k) (requests_in set bounds i y.0 q)) ys ≡ requests_in set bounds i k q
users_requests set bounds i k q ys same l =
    kept_at (λ (y : TaskId). y.0) ys (is_user set q) (λ y. requests_in set bounds i y q) (length set.tasks) k same l
    ∙ none_of_none (count_of set k q) (jobs_in set bounds i k)

-- Each of them is there once.
pub users_once : (set : SetDef) (k q most : ℕ) (ys : List TaskId)
    → map (λ (y : TaskId). y.0) ys ≡ users_of set q → k < length set.tasks
    → sum_by (λ (y : TaskId). only_if (y.0 == k) most) ys ≤ most
users_once set k q most ys same l = omega (
  arith,
  kept_at (λ (y : TaskId). y.0) ys (is_user set q) (λ y. most) (length set.tasks) k same l,
  only_if-at_most (is_user set q k) most,
)

-- Where one more is counted at p, the first one of its place counts so much.
pub first_at : (table : ℕ → ℕ) (p k count : ℕ) → only_if (nat_lt 0 (table k)) count + only_if (p == k) (only_if (table p == 0) count)
    ≡ only_if (nat_lt 0 (table k + only_if (p == k) 1)) count
first_at table p k count = elim (cases_eq p k) [
  | inl same ↦ rw same (rw (eq-eqb k k refl) (first_one (table k)))
  | inr apart ↦ rw (ne_eqb p k apart) (omega (arith, ap (λ (n : ℕ). only_if (nat_lt 0 n) count) none))
] where
  none : table k + 0 ≡ table k
  none = omega arith

  first_one : (n : ℕ) → only_if (nat_lt 0 n) count + only_if (n == 0) count ≡ only_if (nat_lt 0 (n + 1)) count
  first_one zero = omega arith
  first_one (suc n) = rw (lt-ltb 0 (suc n) (omega arith), ne_eqb (suc n) 0 (omega arith), lt-ltb 0 (suc n + 1) (omega arith)) (omega arith)

lower_parts : (user here lower : Bool) → only_if user (only_if here (flag lower)) ≡ only_if here (flag (lower && user))
lower_parts true true true = refl
lower_parts true true false = refl
lower_parts true false lower = refl
lower_parts false true true = refl
lower_parts false true false = refl
lower_parts false false lower = refl

-- The lower users of a processor, and of all.
pub users_on : (set : SetDef) (i q k : ℕ) (ys : List TaskId)
    → map (λ (y : TaskId). y.0) ys ≡ users_of set q
    → sum_by (λ (y : TaskId). only_if ((task_at set y.0).processor == k) (flag (nat_lt i y.0))) ys
    ≡ sum_on set (lower_user set i q) (length set.tasks) k
users_on set i q k ys same =
    sum_of_kept (λ (y : TaskId). y.0) ys (is_user set q) (λ y. only_if ((task_at set y).processor == k) (flag (nat_lt i y))) (length set.tasks) same
    ∙ sum_below-agree (length set.tasks) (λ y. only_if (is_user set q y) (only_if ((task_at set y).processor == k) (flag (nat_lt i y))))
    (λ y. only_if ((task_at set y).processor == k) (lower_user set i q y))
    (λ y l. lower_parts (is_user set q y) ((task_at set y).processor == k) (nat_lt i y))

pub users_all : (set : SetDef) (i q : ℕ) (ys : List TaskId)
    → map (λ (y : TaskId). y.0) ys ≡ users_of set q
    → sum_by (λ (y : TaskId). flag (nat_lt i y.0)) ys ≡ sum_below (length set.tasks) (lower_user set i q)
users_all set i q ys same =
    sum_of_kept (λ (y : TaskId). y.0) ys (is_user set q) (λ y. flag (nat_lt i y)) (length set.tasks) same
    ∙ sum_below-agree (length set.tasks) (λ y. only_if (is_user set q y) (flag (nat_lt i y))) (lower_user set i q)
    (λ y l. lower_parts (is_user set q y) true (nat_lt i y))

-- What all resources that i uses add up to, in their list and over all resources.
pub used_sum : (set : SetDef) (i : ℕ) (f : ℕ → ℕ) (qs : List ResourceId) → map (λ (q : ResourceId). q.0) qs ≡ used_by set i
    → sum_by (λ (q : ResourceId). f q.0) qs ≡ sum_below (length set.resources) (λ q. only_if (is_user set q i) (f q))
used_sum set i f qs same = sum_of_kept (λ (q : ResourceId). q.0) qs (λ q. is_user set q i) f (length set.resources) same

pub used_few : (set : SetDef) (i : ℕ) (qs : List ResourceId) → map (λ (q : ResourceId). q.0) qs ≡ used_by set i → length qs ≤ length set.resources
used_few set i qs same = kept_few (λ (q : ResourceId). q.0) qs (λ q. is_user set q i) (length set.resources) same
