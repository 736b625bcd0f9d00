-- Of an accepted set no refusal is due.
use Rattle.std.proofs.Common.{◌≡◌, ◌≢◌, ℕ, ◌+◌, ◌-◌, ◌<◌, ◌≤◌, Bool, true, false, cond, not, List, map, length, take, refl, arith}
use Rattle.std.proofs.Common.{Option, Some, None, nat_lt, ◌&&◌, ◌==◌, IsTrue, inl, inr}
use Rattle.std.specs.List.{find, slice_index_or, list_any}
use Rattle.std.specs.Int.{is_in_range}
use Rattle.std.specs.Option.{option_map_or}
use Rattle.std.specs.Str.{bytes_eq}
use Rattle.std.proofs.lemmas.Bool.{cases_Bool, le-ltb}
use Rattle.std.proofs.lemmas.Bool.Decides.{nat_tests}
use Rattle.std.proofs.lemmas.List.{get_or-take, length-take}
use Rattle.std.proofs.lemmas.List.Folds.{list_any_at}
use Rattle.std.proofs.lemmas.Slice.Eq.{bytes_eq-Decides}
use Rattle.sporadic_model.specs.SetDef.{SetDef, task_at, resource_at, request_at, request_count, no_task, no_resource, no_request}
use Rattle.sporadic_model.specs.Names.{is_name}
use Rattle.sporadic_model.specs.Users.{numbers}
use Rattle.sporadic_model.specs.Refusals.{is_due, size_refusals, at_tasks, at_resources, at_requests, name_refusals}
use Rattle.sporadic_model.specs.Refusals.{number_refusals, request_refusals, has_resource_named, first_refusal}
use Rattle.sporadic_model.specs.Accepted.{KeepsRanges, IsAccepted, SetSizes, TaskNumbers}
use Rattle.sporadic_model.specs.declared.limits.TheConstants.{MOST_PROCESSORS, MOST_TASKS, MOST_RESOURCES}
use Rattle.sporadic_model.specs.declared.limits.TheConstants.{MOST_REQUESTS, MOST_TICKS, MOST_COUNT}
use Rattle.sporadic_model.specs.declared.refusal.Place.TheVariants as place
use Rattle.sporadic_model.specs.declared.refusal.SizeOf.TheVariants as size
use Rattle.sporadic_model.specs.declared.refusal.ModelRefusal.{ModelRefusal}
use Rattle.sporadic_model.specs.declared.refusal.ModelRefusal.TheVariants as refusal
use Rattle.sporadic_model.proofs.Finding.{none_joined, none_mapped, none_nested}
use Rattle.sporadic_model.proofs.Ranges.{passing}

-- A refusal that is due at no task, resource or entry isn't found.
tasks_free : (set : SetDef) (f : ℕ → ModelRefusal) → ((x : ℕ) → x < length set.tasks → is_due set (f x) ≡ false)
    → find (is_due set) (at_tasks set f) ≡ None
tasks_free set f h = none_mapped (is_due set) f 0 (length set.tasks) (λ x l m. h x (omega arith))

resources_free : (set : SetDef) (f : ℕ → ModelRefusal) → ((q : ℕ) → q < length set.resources → is_due set (f q) ≡ false)
    → find (is_due set) (at_resources set f) ≡ None
resources_free set f h = none_mapped (is_due set) f 0 (length set.resources) (λ q l m. h q (omega arith))

requests_free : (set : SetDef) (f : ℕ → ℕ → ModelRefusal)
    → ((x j : ℕ) → x < length set.tasks → j < length (task_at set x).requests → is_due set (f x j) ≡ false)
    → find (is_due set) (at_requests set f) ≡ None
requests_free set f h =
    none_nested (is_due set) (λ x. map (f x) (numbers (length (task_at set x).requests))) 0 (length set.tasks)
    (λ x l m. none_mapped (is_due set) (f x) 0 (length (task_at set x).requests) (λ j k n. h x j (omega arith) (omega arith)))

inside : (least most n : ℕ) → least ≤ n → n ≤ most → not (is_in_range least most n) ≡ false
inside least most n h l = grind (arith, nat_tests)

length_inside : (n most : ℕ) → 1 ≤ n → n < most → not (nat_lt 0 n && nat_lt n most) ≡ false
length_inside n most h l = grind (arith, nat_tests)

some : (n : ℕ) → 1 ≤ n → (n == 0) ≡ false
some n h = grind (arith, nat_tests)

holds : (b : Bool) → IsTrue b → not b ≡ false
holds true h = refl
holds false h = cc

-- If no earlier element has the name, none is found.
none_alike : {A : Type 0} (name : A → List ℕ) (xs : List A) (j : ℕ) (d : A)
    → ((i : ℕ) → i < j → name (slice_index_or xs i d) ≢ name (slice_index_or xs j d))
    → list_any (λ e. bytes_eq (name e) (name (slice_index_or xs j d))) (take j xs) ≡ false
none_alike {A} name xs j d apart = elim (cases_Bool (list_any test (take j xs))) [
  | inr none ↦ none
  | inl there ↦
      let one : (k : ℕ) × (k < length (take j xs)) × (test (slice_index_or (take j xs) k d) ≡ true) = passing test (take j xs) d there in
      let early : one.0 < j = earlier one.0 one.1 in
      let passes : test (slice_index_or xs one.0 d) ≡ true = rw (get_or-take j xs one.0 d early) at one.2 in
      absurd (apart one.0 early ((bytes_eq-Decides (name (slice_index_or xs one.0 d)) (name (slice_index_or xs j d))).0 passes))
] where
  test : A → Bool
  test = λ e. bytes_eq (name e) (name (slice_index_or xs j d))

  earlier : (k : ℕ) → k < length (take j xs) → k < j
  earlier k l = let m = length-take j xs in omega arith

known_named : (set : SetDef) (name : List ℕ) → (q : ℕ) × (q < length set.resources) × ((resource_at set q).name ≡ name)
    → IsTrue (has_resource_named set.resources name)
known_named set name a =
    list_any_at (λ r. bytes_eq r.name name) set.resources a.0 no_resource a.1 ((bytes_eq-Decides (resource_at set a.0).name name).1 a.2)

home_inside : (set : SetDef) (o : Option ℕ) → ((k : ℕ) → o ≡ Some k → (1 ≤ k) × (k ≤ set.processors))
    → option_map_or (λ k. not (is_in_range 1 set.processors k)) o false ≡ false
home_inside set None h = refl
home_inside set (Some k) h = inside 1 set.processors k (h k refl).0 (h k refl).1

five : (a b c d e : Bool) → a ≡ false → b ≡ false → c ≡ false → d ≡ false → e ≡ false
    → cond a (Some refusal.NoTask)
    (cond b (Some (refusal.Size size.Processors)) (cond c (Some (refusal.Size size.Tasks))
    (cond d (Some (refusal.Size size.Resources)) (cond e (Some (refusal.Size size.Requests)) None)))) ≡ None
five a b c d e f g h i j = rw (f, g, h, i, j) refl

sizes_free : (set : SetDef) → SetSizes set → find (is_due set) size_refusals ≡ None
unfolding is_due size_refusals
sizes_free set s =
    five (length set.tasks == 0) (not (is_in_range 1 MOST_PROCESSORS set.processors))
    (nat_lt MOST_TASKS (length set.tasks)) (nat_lt MOST_RESOURCES (length set.resources))
    (nat_lt MOST_REQUESTS (request_count set))
    (some _ s.tasks_from) (inside 1 MOST_PROCESSORS set.processors s.processors_from s.processors_to)
    (le-ltb MOST_TASKS _ s.tasks_to) (le-ltb MOST_RESOURCES _ s.resources_to) (le-ltb MOST_REQUESTS _ s.requests_to)

names_free : (set : SetDef) → KeepsRanges set → find (is_due set) (name_refusals set) ≡ None
unfolding is_due
names_free set h =
    none_joined (is_due set) (at_resources set (λ q. refusal.Name (place.Resource q))) _
    (resources_free set (λ q. refusal.Name (place.Resource q))
    (λ q l. holds (is_name (resource_at set q).name) (h.names.resource_names q l)))
    (none_joined (is_due set) (at_tasks set (λ x. refusal.Name (place.Task x))) _ (tasks_free set
    (λ x. refusal.Name (place.Task x)) (λ x l. holds (is_name (task_at set x).name) (h.names.task_names x l)))
    (none_joined (is_due set) (at_resources set (λ q. refusal.TwiceName (place.Resource q))) _
    (resources_free set (λ q. refusal.TwiceName (place.Resource q))
    (λ q l. none_alike (λ r. r.name) set.resources q no_resource (λ p k. h.names.resources_apart p q k l)))
    (tasks_free set (λ x. refusal.TwiceName (place.Task x))
    (λ x l. none_alike (λ t. t.name) set.tasks x no_task (λ y k. h.names.tasks_apart y x k l)))))

numbers_free : (set : SetDef) → KeepsRanges set → find (is_due set) (number_refusals set) ≡ None
unfolding is_due
numbers_free set h =
    none_joined (is_due set) (at_tasks set (λ x. refusal.Processor (record { 0 = x }))) _
    (tasks_free set (λ x. refusal.Processor (record { 0 = x }))
    (λ x l. inside 1 set.processors (task_at set x).processor (at x l).processor_from (at x l).processor_to))
    (none_joined (is_due set) (at_tasks set (λ x. refusal.Period (record { 0 = x }))) _
    (tasks_free set (λ x. refusal.Period (record { 0 = x }))
    (λ x l. inside 1 MOST_TICKS (task_at set x).period (period_from x l) (at x l).period_to))
    (none_joined (is_due set) (at_tasks set (λ x. refusal.Deadline (record { 0 = x }))) _
    (tasks_free set (λ x. refusal.Deadline (record { 0 = x }))
    (λ x l. inside 1 (task_at set x).period (task_at set x).deadline (deadline_from x l) (at x l).deadline_to))
    (none_joined (is_due set) (at_tasks set (λ x. refusal.Cost (record { 0 = x }))) _
    (tasks_free set (λ x. refusal.Cost (record { 0 = x }))
    (λ x l. inside 1 (task_at set x).deadline (task_at set x).cost (at x l).cost_from (at x l).cost_to))
    (tasks_free set (λ x. refusal.Local (record { 0 = x }))
    (λ x l. inside 1 (task_at set x).cost (task_at set x).local (at x l).local_from (at x l).local_to))))) where
      at : (x : ℕ) → x < length set.tasks → TaskNumbers set x
      at x l = h.numbers x l

      deadline_from : (x : ℕ) → x < length set.tasks → 1 ≤ (task_at set x).deadline
      deadline_from x l = let n : TaskNumbers set x = h.numbers x l in omega (arith, n.cost_from, n.cost_to)

      period_from : (x : ℕ) → x < length set.tasks → 1 ≤ (task_at set x).period
      period_from x l = let n : TaskNumbers set x = h.numbers x l in omega (arith, n.cost_from, n.cost_to, n.deadline_to)

entries_free : (set : SetDef) → KeepsRanges set → find (is_due set) (request_refusals set) ≡ None
unfolding is_due
entries_free set h =
    none_joined (is_due set) (at_requests set (λ x j. refusal.Resource (place.Request x j))) _
    (requests_free set (λ x j. refusal.Resource (place.Request x j))
    (λ x j l k. holds (has_resource_named set.resources (request_at set x j).resource)
    (known_named set (request_at set x j).resource ((h.entries x l).known j k))))
    (none_joined (is_due set) (at_requests set (λ x j. refusal.TwiceRequest (place.Request x j))) _
    (requests_free set (λ x j. refusal.TwiceRequest (place.Request x j)) (λ x j l k.
    none_alike (λ e. e.resource) (task_at set x).requests j no_request (λ i m. (h.entries x l).apart i j m k)))
    (none_joined (is_due set) (at_requests set (λ x j. refusal.Count (place.Request x j))) _
    (requests_free set (λ x j. refusal.Count (place.Request x j)) (λ x j l k.
    inside 1 MOST_COUNT (request_at set x j).count (h.requests x j l k).count_from (h.requests x j l k).count_to))
    (requests_free set (λ x j. refusal.Length (place.Request x j)) (λ x j l k. length_inside (request_at set x j).length
    (task_at set x).cost (h.requests x j l k).length_from (h.requests x j l k).length_to))))

homes_free : (set : SetDef) → KeepsRanges set → find (is_due set) (at_resources set (λ q. refusal.Home (record { 0 = q }))) ≡ None
unfolding is_due
homes_free set h =
    resources_free set (λ q. refusal.Home (record { 0 = q }))
    (λ q l. home_inside set (resource_at set q).home (λ k e. (h.homes.homes_from q k l e, h.homes.homes_to q k l e)))

jitter_within : (deadline cost jitter : ℕ) → cost + jitter ≤ deadline → nat_lt (deadline - cost) jitter ≡ false
jitter_within deadline cost jitter h = grind (arith, nat_tests)

jitters_free : (set : SetDef) → KeepsRanges set → find (is_due set) (at_tasks set (λ x. refusal.Jitter (record { 0 = x }))) ≡ None
unfolding is_due
jitters_free set h =
    tasks_free set (λ x. refusal.Jitter (record { 0 = x }))
    (λ x l. jitter_within (task_at set x).deadline (task_at set x).cost (task_at set x).jitter (h.numbers x l).jitter_to)

-- Of an accepted set no refusal is due.
pub free_from_accepted : (set : SetDef) → IsAccepted set → first_refusal set ≡ None
unfolding IsAccepted
free_from_accepted set h =
    none_joined (is_due set) size_refusals _ (sizes_free set h.sizes)
    (none_joined (is_due set) (name_refusals set) _ (names_free set h)
    (none_joined (is_due set) (number_refusals set) _ (numbers_free set h)
    (none_joined (is_due set) (request_refusals set) _ (entries_free set h)
    (none_joined (is_due set) (at_resources set (λ q. refusal.Home (record { 0 = q }))) _ (homes_free set h) (jitters_free set h)))))
