-- If no refusal of a task set is due, all of it is in its range. And if all of it is, none is due.
use Rattle.std.proofs.Common.{◌≡◌, ◌≢◌, ℕ, ◌+◌, ◌-◌, ◌<◌, ◌≤◌, Bool, true, false, not, List, [], ◌∷◌, map, length, take, refl}
use Rattle.std.proofs.Common.{arith, Some, None, suc, nat_lt, ◌&&◌, ◌==◌, lit<, IsTrue, inl, inr}
use Rattle.std.specs.List.{find, slice_index_or, list_any}
use Rattle.std.specs.Int.{is_in_range}
use Rattle.std.specs.Str.{bytes_eq}
use Rattle.std.proofs.lemmas.Bool.Decides.{nat_tests}
use Rattle.std.proofs.lemmas.List.{get_or-take, length-take}
use Rattle.std.proofs.lemmas.List.Folds.{list_any_at}
use Rattle.std.proofs.lemmas.Slice.Eq.{bytes_eq-Decides}
use Rattle.std.proofs.lemmas.Bool.{ltb-false, or_cases}
use Rattle.sporadic_model.specs.SetDef.{SetDef, task_at, resource_at, request_at, request_count, no_task, no_resource, no_request}
use Rattle.sporadic_model.specs.Names.{is_name}
use Rattle.sporadic_model.specs.Users.{numbers}
use Rattle.sporadic_model.specs.Refusals.{is_due, size_refusals, at_tasks, at_resources, at_requests, name_refusals}
use Rattle.sporadic_model.specs.Refusals.{number_refusals, request_refusals, has_resource_named, first_refusal}
use Rattle.sporadic_model.specs.Accepted.{IsAccepted, SetSizes, TaskNumbers, RequestNumbers, AreNamed, AreEntries, AreHomes}
use Rattle.sporadic_model.specs.declared.limits.TheConstants.{MOST_PROCESSORS, MOST_TASKS, MOST_RESOURCES}
use Rattle.sporadic_model.specs.declared.limits.TheConstants.{MOST_REQUESTS, MOST_TICKS, MOST_COUNT}
use Rattle.sporadic_model.specs.declared.refusal.Place.TheVariants as place
use Rattle.sporadic_model.specs.declared.refusal.ModelRefusal.{ModelRefusal}
use Rattle.sporadic_model.specs.declared.refusal.ModelRefusal.TheVariants as refusal
use Rattle.sporadic_model.proofs.Finding.{none_at, none_in_at, none_of_both, each_fails}

-- No refusal of any of the six groups is due.
pub record NoneDue (set : SetDef) : Type 0 where
  pub sizes : find (is_due set) size_refusals ≡ None
  pub names : find (is_due set) (name_refusals set) ≡ None
  pub numbers : find (is_due set) (number_refusals set) ≡ None
  pub requests : find (is_due set) (request_refusals set) ≡ None
  pub homes : find (is_due set) (at_resources set (λ q. refusal.Home (record { 0 = q }))) ≡ None
  pub jitters : find (is_due set) (at_tasks set (λ x. refusal.Jitter (record { 0 = x }))) ≡ None

none_due : (set : SetDef) → first_refusal set ≡ None → NoneDue set
none_due set h =
    let a = none_of_both (is_due set) size_refusals _ h in
    let b = none_of_both (is_due set) (name_refusals set) _ a.back in
    let c = none_of_both (is_due set) (number_refusals set) _ b.back in
    let d = none_of_both (is_due set) (request_refusals set) _ c.back in
    let e = none_of_both (is_due set) (at_resources set (λ q. refusal.Home (record { 0 = q }))) _ d.back in
    record { sizes = a.front; names = b.front; numbers = c.front; requests = d.front; homes = e.front; jitters = e.back }

pub not_at_task : (set : SetDef) (f : ℕ → ModelRefusal) (x : ℕ) → x < length set.tasks
    → find (is_due set) (at_tasks set f) ≡ None → is_due set (f x) ≡ false
not_at_task set f x h none = none_at (is_due set) f 0 (length set.tasks) x x (omega arith) h none

pub not_at_resource : (set : SetDef) (f : ℕ → ModelRefusal) (q : ℕ) → q < length set.resources
    → find (is_due set) (at_resources set f) ≡ None → is_due set (f q) ≡ false
not_at_resource set f q h none = none_at (is_due set) f 0 (length set.resources) q q (omega arith) h none

pub not_at_request : (set : SetDef) (f : ℕ → ℕ → ModelRefusal) (x j : ℕ) → x < length set.tasks
    → j < length (task_at set x).requests → find (is_due set) (at_requests set f) ≡ None → is_due set (f x j) ≡ false
not_at_request set f x j h i none =
    none_at (is_due set) (f x) 0 (length (task_at set x).requests) j j (omega arith) i
    (none_in_at (is_due set) (λ y. map (f y) (numbers (length (task_at set y).requests))) 0 (length set.tasks) x x (omega arith) h none)

-- A number that isn't outside a range is in it.
pub record IsBetween (least most n : ℕ) : Type 0 where
  pub from : least ≤ n
  pub to : n ≤ most

pub between : (least most n : ℕ) → not (is_in_range least most n) ≡ false → IsBetween least most n
between least most n h = record { from = grind (arith, nat_tests); to = grind (arith, nat_tests) }

pub length_between : (n most : ℕ) → not (nat_lt 0 n && nat_lt n most) ≡ false → (1 ≤ n) × (n < most)
length_between n most h = (grind (arith, nat_tests), grind (arith, nat_tests))

-- If the cost is within the deadline, a jitter that isn't above the rest fits together with it.
pub jitter_fits : (deadline cost jitter : ℕ) → cost ≤ deadline → nat_lt (deadline - cost) jitter ≡ false → cost + jitter ≤ deadline
jitter_fits deadline cost jitter h none = grind (arith, nat_tests)

-- The numbers of each task are in their ranges.
pub numbers_of_free : (set : SetDef) (x : ℕ) → first_refusal set ≡ None → x < length set.tasks → TaskNumbers set x
unfolding is_due
numbers_of_free set x h i =
    let n = (none_due set h).numbers in
    let a = none_of_both (is_due set) (at_tasks set (λ y. refusal.Processor (record { 0 = y }))) _ n in
    let b = none_of_both (is_due set) (at_tasks set (λ y. refusal.Period (record { 0 = y }))) _ a.back in
    let c = none_of_both (is_due set) (at_tasks set (λ y. refusal.Deadline (record { 0 = y }))) _ b.back in
    let d = none_of_both (is_due set) (at_tasks set (λ y. refusal.Cost (record { 0 = y }))) _ c.back in
    let processor = between 1 set.processors (task_at set x).processor
    (not_at_task set (λ y. refusal.Processor (record { 0 = y })) x i a.front) in
    let period = between 1 MOST_TICKS (task_at set x).period (not_at_task set (λ y. refusal.Period (record { 0 = y })) x i b.front) in
    let deadline = between 1 (task_at set x).period (task_at set x).deadline
    (not_at_task set (λ y. refusal.Deadline (record { 0 = y })) x i c.front) in
    let cost = between 1 (task_at set x).deadline (task_at set x).cost
    (not_at_task set (λ y. refusal.Cost (record { 0 = y })) x i d.front) in
    let local = between 1 (task_at set x).cost (task_at set x).local (not_at_task set (λ y. refusal.Local (record { 0 = y })) x i d.back) in
    let late = not_at_task set (λ y. refusal.Jitter (record { 0 = y })) x i (none_due set h).jitters in
    record {
      processor_from = processor.from;
      processor_to = processor.to;
      local_from = local.from;
      local_to = local.to;
      cost_from = cost.from;
      cost_to = cost.to;
      jitter_to = jitter_fits (task_at set x).deadline (task_at set x).cost (task_at set x).jitter cost.to late;
      deadline_to = deadline.to;
      period_to = period.to;
    }

-- The numbers of each request entry are in their ranges.
pub requests_of_free : (set : SetDef) (x j : ℕ) → first_refusal set ≡ None → x < length set.tasks
    → j < length (task_at set x).requests → RequestNumbers set x j
unfolding is_due
requests_of_free set x j h i k =
    let n = (none_due set h).requests in
    let a = none_of_both (is_due set) (at_requests set (λ y l. refusal.Resource (place.Request y l))) _ n in
    let b = none_of_both (is_due set) (at_requests set (λ y l. refusal.TwiceRequest (place.Request y l))) _ a.back in
    let c = none_of_both (is_due set) (at_requests set (λ y l. refusal.Count (place.Request y l))) _ b.back in
    let count = between 1 MOST_COUNT (request_at set x j).count
    (not_at_request set (λ y l. refusal.Count (place.Request y l)) x j i k c.front) in
    let length = length_between (request_at set x j).length (task_at set x).cost
    (not_at_request set (λ y l. refusal.Length (place.Request y l)) x j i k c.back) in
    record { count_from = count.from; count_to = count.to; length_from = length.0; length_to = length.1 }

pub not_zero : (n : ℕ) → (n == 0) ≡ false → 1 ≤ n
not_zero n h = grind (arith, nat_tests)

-- The sizes are in their ranges.
pub sizes_of_free : (set : SetDef) → first_refusal set ≡ None → SetSizes set
unfolding is_due size_refusals
sizes_of_free set h =
    let fails : (k : ℕ) → k < 5 → is_due set (slice_index_or size_refusals k refusal.NoTask) ≡ false =
    λ k l. each_fails (is_due set) size_refusals k refusal.NoTask l (none_due set h).sizes in
    let processors = between 1 MOST_PROCESSORS set.processors (fails 1 (lit< tt)) in
    record {
      processors_from = processors.from;
      processors_to = processors.to;
      tasks_from = not_zero (length set.tasks) (fails 0 (lit< tt));
      tasks_to = ltb-false MOST_TASKS (length set.tasks) (fails 2 (lit< tt));
      resources_to = ltb-false MOST_RESOURCES (length set.resources) (fails 3 (lit< tt));
      requests_to = ltb-false MOST_REQUESTS (request_count set) (fails 4 (lit< tt));
    }

-- Take a set for which no refusal is due. If a resource has a home, it is a processor of the set.
pub home_of_free : (set : SetDef) (q k : ℕ) → first_refusal set ≡ None → q < length set.resources
    → (resource_at set q).home ≡ Some k → IsBetween 1 set.processors k
unfolding is_due
home_of_free set q k h i e =
    let fact = not_at_resource set (λ y. refusal.Home (record { 0 = y })) q i (none_due set h).homes in
    between 1 set.processors k (rw e at fact)

-- If no earlier element has the name of an element, it differs in name from each earlier one.
pub differs : {A : Type 0} (name : A → List ℕ) (xs : List A) (i j : ℕ) (d : A) → i < j → j < length xs
    → list_any (λ e. bytes_eq (name e) (name (slice_index_or xs j d))) (take j xs) ≡ false
    → name (slice_index_or xs i d) ≢ name (slice_index_or xs j d)
differs {A} name xs i j d h k none same =
    let test : A → Bool = λ e. bytes_eq (name e) (name (slice_index_or xs j d)) in
    let within : i < length (take j xs) = rw (length-take j xs) (omega arith) in
    let passes : test (slice_index_or (take j xs) i d) ≡ true = rw (get_or-take j xs i d h)
    ((bytes_eq-Decides (name (slice_index_or xs i d)) (name (slice_index_or xs j d))).1 same) in
    let there : list_any test (take j xs) ≡ true = list_any_at test (take j xs) i d within passes in
    cc

-- If some element passes, it is at some place.
pub passing : {A : Type 0} (p : A → Bool) (xs : List A) (d : A) → list_any p xs ≡ true
    → (k : ℕ) × (k < length xs) × (p (slice_index_or xs k d) ≡ true)
passing p [] d h = absurd (cc)
passing p (x ∷ xs) d h =
    elim (or_cases (p x) (list_any p xs) h) [
      | inl here ↦ (0, omega arith, here)
      | inr later ↦ let rest = passing p xs d later in (suc rest.0, omega (arith, rest.1), rest.2)
    ]

pub truth : (b : Bool) → not b ≡ false → IsTrue b
truth true h = refl
truth false h = cc

-- Take a set for which no refusal is due. Every resource and task is named, and no two in the same way.
pub names_of_free : (set : SetDef) → first_refusal set ≡ None → AreNamed set
unfolding is_due
names_of_free set h =
    let n = (none_due set h).names in
    let a = none_of_both (is_due set) (at_resources set (λ q. refusal.Name (place.Resource q))) _ n in
    let b = none_of_both (is_due set) (at_tasks set (λ x. refusal.Name (place.Task x))) _ a.back in
    let c = none_of_both (is_due set) (at_resources set (λ q. refusal.TwiceName (place.Resource q))) _ b.back in
    record {
      resource_names = λ q i. truth (is_name (resource_at set q).name)
          (not_at_resource set (λ r. refusal.Name (place.Resource r)) q i a.front);
      task_names = λ x i. truth (is_name (task_at set x).name) (not_at_task set (λ y. refusal.Name (place.Task y)) x i b.front);
      resources_apart = λ p q i k. differs (λ r. r.name) set.resources p q no_resource i k
          (not_at_resource set (λ r. refusal.TwiceName (place.Resource r)) q k c.front);
      tasks_apart = λ x y i k. differs (λ t. t.name) set.tasks x y no_task i k
          (not_at_task set (λ z. refusal.TwiceName (place.Task z)) y k c.back);
    }

-- Take a set for which no refusal is due. Each entry names a resource of the set, and no two of a task name the same one.
pub entries_of_free : (set : SetDef) (x : ℕ) → first_refusal set ≡ None → x < length set.tasks → AreEntries set x
unfolding is_due
entries_of_free set x h i =
    let n = (none_due set h).requests in
    let a = none_of_both (is_due set) (at_requests set (λ y l. refusal.Resource (place.Request y l))) _ n in
    let b = none_of_both (is_due set) (at_requests set (λ y l. refusal.TwiceRequest (place.Request y l))) _ a.back in
    record {
      known = λ j k.
          let name : List ℕ = (request_at set x j).resource in
          let r =
          passing (λ r. bytes_eq r.name name) set.resources no_resource (truth (has_resource_named set.resources name)
          (not_at_request set (λ y l. refusal.Resource (place.Request y l)) x j i k a.front)) in
          (r.0, r.1, (bytes_eq-Decides (resource_at set r.0).name name).0 r.2);
      apart = λ j l k m. differs (λ e. e.resource) (task_at set x).requests j l no_request k m
          (not_at_request set (λ y o. refusal.TwiceRequest (place.Request y o)) x l i m b.front);
    }

-- Take a set for which no refusal is due. Each home that is given is one of its processors.
pub homes_of_free : (set : SetDef) → first_refusal set ≡ None → AreHomes set
homes_of_free set h = record {
  homes_from = λ q k i e. (home_of_free set q k h i e).from;
  homes_to = λ q k i e. (home_of_free set q k h i e).to;
}

-- A set for which no refusal is due is accepted.
pub accepted_from_free : (set : SetDef) → first_refusal set ≡ None → IsAccepted set
unfolding IsAccepted
accepted_from_free set h = record {
  sizes = sizes_of_free set h;
  names = names_of_free set h;
  numbers = λ x. numbers_of_free set x h;
  entries = λ x. entries_of_free set x h;
  requests = λ x j. requests_of_free set x j h;
  homes = homes_of_free set h;
}
