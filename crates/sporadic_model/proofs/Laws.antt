-- What follows if a set is accepted.
use Rattle.std.proofs.Common.{◌≡◌, ◌≢◌, ℕ, ◌+◌, ◌<◌, ◌≤◌, ◌↔◌, Bool, true, false, cond, not, List, [], ◌∷◌, length, arith, Option}
use Rattle.std.proofs.Common.{Some, None, suc, subst, nat_lt, ◌&&◌, ◌==◌, ◌⊎◌, inl, inr, sym, IfSome, refl, ap, ◌∙◌}
use Rattle.std.specs.List.{find, slice_index_or}
use Rattle.std.specs.Option.{option_map, option_or}
use Rattle.std.specs.Str.{bytes_eq}
use Rattle.std.proofs.lemmas.Bool.{ltb-true}
use Rattle.std.proofs.lemmas.Bool.Decides.{nat_tests}
use Rattle.std.proofs.lemmas.List.Quantifiers.{position-Some}
use Rattle.std.proofs.lemmas.Slice.Eq.{bytes_eq-Decides}
use Rattle.sporadic_model.specs.SetDef.{SetDef, RequestDef, latest_bound, task_at, resource_at, request_at, no_task, no_resource, no_request}
use Rattle.sporadic_model.specs.Users.{numbers, count_of, is_user, is_remote_user, ceiling_of, remote_ceiling_of}
use Rattle.sporadic_model.specs.Users.{task_with_name, resource_with_name}
use Rattle.sporadic_model.specs.Accepted.{IsAccepted, SetSizes, TaskNumbers, RequestNumbers, EntryNumbers, AreNamed}
use Rattle.sporadic_model.specs.Accepted.{AreEntries, AreHomes, IsHighestUser, HasNoUser, IsHighestRemoteUser}
use Rattle.sporadic_model.specs.Accepted.{HasNoRemoteUser, IsBoost, IsFormed, IsWithinLimits, TaskOrder, EntryOrder}
use Rattle.sporadic_model.proofs.Finding.{first_of_range, none_in_range, find_alike}

pub found_or : {A : Type 0} (b : Bool) (x e : A) (o : Option A) → cond b (Some x) o ≡ Some e → (x ≡ e) ⊎ (o ≡ Some e)
found_or true x e o h = inl (cc)
found_or false x e o h = inr h

pub zero_of : (n : ℕ) → nat_lt 0 n ≡ false → n ≡ 0
zero_of n h = grind (arith, nat_tests)

-- An element that is found is at some place.
pub found_at : {A : Type 0} (p : A → Bool) (xs : List A) (d e : A) → find p xs ≡ Some e
    → (k : ℕ) × (k < length xs) × (slice_index_or xs k d ≡ e)
found_at p [] d e h = absurd (cc)
found_at p (x ∷ xs) d e h =
    elim (found_or (p x) x e (find p xs) h) [
      | inl here ↦ (0, omega arith, here)
      | inr later ↦ let rest = found_at p xs d e later in (suc rest.0, omega (arith, rest.1), rest.2)
    ]

-- The parts of being accepted.
pub numbers_of_accepted : (set : SetDef) (x : ℕ) → IsAccepted set → x < length set.tasks → TaskNumbers set x
unfolding IsAccepted
numbers_of_accepted set x h = h.numbers x

pub requests_of_accepted : (set : SetDef) (x j : ℕ) → IsAccepted set → x < length set.tasks
    → j < length (task_at set x).requests → RequestNumbers set x j
unfolding IsAccepted
requests_of_accepted set x j h = h.requests x j

pub sizes_of_accepted : (set : SetDef) → IsAccepted set → SetSizes set
unfolding IsAccepted
sizes_of_accepted set h = h.sizes

pub names_of_accepted : (set : SetDef) → IsAccepted set → AreNamed set
unfolding IsAccepted
names_of_accepted set h = h.names

pub entries_of_accepted : (set : SetDef) (x : ℕ) → IsAccepted set → x < length set.tasks → AreEntries set x
unfolding IsAccepted
entries_of_accepted set x h = h.entries x

pub homes_of_accepted : (set : SetDef) → IsAccepted set → AreHomes set
unfolding IsAccepted
homes_of_accepted set h = h.homes

-- An accepted set is well formed and within the limits.
pub formed_of_accepted : (set : SetDef) → IsAccepted set → IsFormed set
formed_of_accepted set h = let sizes : SetSizes set = sizes_of_accepted set h in
    record {
      processors = sizes.processors_from;
      tasks = sizes.tasks_from;
      names = names_of_accepted set h;
      numbers = λ x l. let n : TaskNumbers set x = numbers_of_accepted set x h l in
          record {
            processor_from = n.processor_from;
            processor_to = n.processor_to;
            local_from = n.local_from;
            local_to = n.local_to;
            jitter_to = n.jitter_to;
            deadline_to = n.deadline_to;
          };
      entries = λ x. entries_of_accepted set x h;
      requests = λ x j l m. let n : RequestNumbers set x j = requests_of_accepted set x j h l m in
          record { count_from = n.count_from; length_from = n.length_from; length_to = n.length_to };
      homes = homes_of_accepted set h;
    }

pub limits_of_accepted : (set : SetDef) → IsAccepted set → IsWithinLimits set
limits_of_accepted set h = let sizes : SetSizes set = sizes_of_accepted set h in
    record {
      processors = sizes.processors_to;
      tasks = sizes.tasks_to;
      resources = sizes.resources_to;
      requests = sizes.requests_to;
      periods = λ x l. let n : TaskNumbers set x = numbers_of_accepted set x h l in n.period_to;
      counts = λ x j l m. let n : RequestNumbers set x j = requests_of_accepted set x j h l m in n.count_to;
    }

-- Only such a set is accepted.
pub accepted_of_formed : (set : SetDef) → IsFormed set → IsWithinLimits set → IsAccepted set
unfolding IsAccepted
accepted_of_formed set formed limits = record {
  sizes = record {
    processors_from = formed.processors;
    processors_to = limits.processors;
    tasks_from = formed.tasks;
    tasks_to = limits.tasks;
    resources_to = limits.resources;
    requests_to = limits.requests;
  };
  names = formed.names;
  numbers = λ x l. let n : TaskOrder set x = formed.numbers x l in
      record {
        processor_from = n.processor_from;
        processor_to = n.processor_to;
        local_from = n.local_from;
        local_to = n.local_to;
        cost_from = omega (arith, n.local_from, n.local_to);
        cost_to = omega (arith, n.jitter_to);
        jitter_to = n.jitter_to;
        deadline_to = n.deadline_to;
        period_to = limits.periods x l;
      };
  entries = formed.entries;
  requests = λ x j l m. let n : EntryOrder set x (request_at set x j) = formed.requests x j l m in
      record {
        count_from = n.count_from;
        count_to = limits.counts x j l m;
        length_from = n.length_from;
        length_to = n.length_to;
      };
  homes = formed.homes;
}

-- A well formed set's costs are at least 1 tick, and at most the deadlines.
pub cost_of_formed : (set : SetDef) (x : ℕ) → IsFormed set → x < length set.tasks → 1 ≤ (task_at set x).cost
cost_of_formed set x formed l = let n : TaskOrder set x = formed.numbers x l in omega (arith, n.local_from, n.local_to)

-- A bound is at most the latest one exactly if bound and jitter together are at most the deadline.
pub latest_meets : (set : SetDef) (x bound : ℕ) → IsAccepted set → x < length set.tasks
    → (bound ≤ latest_bound (task_at set x)) ↔ (bound + (task_at set x).jitter ≤ (task_at set x).deadline)
latest_meets set x bound h i =
    let n : TaskNumbers set x = numbers_of_accepted set x h i in
    (λ below. omega (arith, n.jitter_to), λ within. omega (arith))

-- The numbers of each entry that is found among a task's are in their ranges.
pub entry_of_accepted : (set : SetDef) (x : ℕ) (p : RequestDef → Bool) (e : RequestDef) → IsAccepted set
    → x < length set.tasks → find p (task_at set x).requests ≡ Some e → EntryNumbers set x e
entry_of_accepted set x p e h i found =
    let place = found_at p (task_at set x).requests no_request e found in
    subst (EntryNumbers set x) place.2 (requests_of_accepted set x place.0 h i place.1)

-- An entry that is found among a task's of a well formed set has a length.
pub length_of_formed : (set : SetDef) (x : ℕ) (p : RequestDef → Bool) (e : RequestDef) → IsFormed set
    → x < length set.tasks → find p (task_at set x).requests ≡ Some e → 1 ≤ e.length
length_of_formed set x p e formed i found =
    let place = found_at p (task_at set x).requests no_request e found in
    let n : EntryOrder set x (request_at set x place.0) = formed.requests x place.0 i place.1 in
    subst (λ r. 1 ≤ r.length) place.2 n.length_from

-- The ceiling of a resource is its highest user. If there is no ceiling, no task uses it.
pub highest_user : (set : SetDef) (q x : ℕ) → ceiling_of set q ≡ Some x → IsHighestUser set q x
highest_user set q x e =
    let first = first_of_range (is_user set q) 0 (length set.tasks) x e in
    record {
      task = omega arith;
      user = ltb-true 0 (count_of set x q) first.passes;
      highest = λ y h. zero_of (count_of set y q) (first.before y (omega arith) h);
    }

pub no_user : (set : SetDef) (q : ℕ) → ceiling_of set q ≡ None → HasNoUser set q
no_user set q e =
    λ x h. let none = none_in_range (is_user set q) 0 (length set.tasks) e x (omega arith) (omega arith) in
    zero_of (count_of set x q) none

pub numbers_of_found : {B : Type 0} (set : SetDef) (x : ℕ) (p : RequestDef → Bool) (seen : B → RequestDef)
    (o : Option B) → IsAccepted set → x < length set.tasks → option_map seen o ≡ find p (task_at set x).requests
    → IfSome o (λ b. EntryNumbers set x (seen b))
numbers_of_found set x p seen None h i e = tt
numbers_of_found set x p seen (Some b) h i e = entry_of_accepted set x p (seen b) h i (sym e)

-- The task that is found by a name has this name, and so has the resource.
pub named_task : (set : SetDef) (name : List ℕ) (x : ℕ) → task_with_name set name ≡ Some x
    → (x < length set.tasks) × ((task_at set x).name ≡ name)
named_task set name x e =
    let found = position-Some (λ t. bytes_eq t.name name) set.tasks x no_task e in
    (found.0, (bytes_eq-Decides (task_at set x).name name).0 found.1)

pub named_resource : (set : SetDef) (name : List ℕ) (q : ℕ) → resource_with_name set name ≡ Some q
    → (q < length set.resources) × ((resource_at set q).name ≡ name)
named_resource set name q e =
    let found = position-Some (λ r. bytes_eq r.name name) set.resources q no_resource e in
    (found.0, (bytes_eq-Decides (resource_at set q).name name).0 found.1)

pub not_positive : (n : ℕ) → n ≤ 0 → nat_lt 0 n ≡ false
not_positive n h = grind (arith, nat_tests)

pub positive : (n : ℕ) → 0 < n → nat_lt 0 n ≡ true
positive n h = grind (arith, nat_tests)

pub remote_same : (n p k : ℕ) → p ≡ k → (nat_lt 0 n && not (p == k)) ≡ true → ⊥
remote_same n p k same h = grind (arith, nat_tests)

pub remote_true : (n p k : ℕ) → (nat_lt 0 n && not (p == k)) ≡ true → (0 < n) × (p ≢ k)
remote_true n p k h = (grind (arith, nat_tests), λ same. remote_same n p k same h)

pub remote_false : (n p k : ℕ) → (nat_lt 0 n && not (p == k)) ≡ false → p ≢ k → n ≡ 0
remote_false n p k h apart = grind (arith, nat_tests)

-- The same for the users that aren't on processor k.
pub highest_remote_user : (set : SetDef) (q k x : ℕ)
    → find (is_remote_user set q k) (numbers (length set.tasks)) ≡ Some x → IsHighestRemoteUser set q k x
highest_remote_user set q k x e =
    let first = first_of_range (is_remote_user set q k) 0 (length set.tasks) x e in
    let here = remote_true (count_of set x q) (task_at set x).processor k first.passes in
    record {
      task = omega arith;
      user = here.0;
      remote = here.1;
      highest = λ y h apart. remote_false (count_of set y q) (task_at set y).processor k (first.before y (omega arith) h) apart;
    }

pub no_remote_user : (set : SetDef) (q k : ℕ) → find (is_remote_user set q k) (numbers (length set.tasks)) ≡ None → HasNoRemoteUser set q k
no_remote_user set q k e = λ x h apart.
    let none = none_in_range (is_remote_user set q k) 0 (length set.tasks) e x (omega arith) (omega arith) in
    remote_false (count_of set x q) (task_at set x).processor k none apart

-- The first of the remote users, or if there is none the first of all users, is the boost. If there is none of either, no task uses the
-- resource.
pub boost_of_found : (set : SetDef) (q k x : ℕ) (o : Option ℕ) → find (is_remote_user set q k) (numbers (length set.tasks)) ≡ o
    → option_or o (ceiling_of set q) ≡ Some x → IsBoost set q k x
boost_of_found set q k x None found e = inr (no_remote_user set q k found, highest_user set q x e)
boost_of_found set q k x (Some y) found e = inl (highest_remote_user set q k x (found ∙ e))

pub no_user_found : (set : SetDef) (q : ℕ) (o : Option ℕ) → option_or o (ceiling_of set q) ≡ None → HasNoUser set q
no_user_found set q None e = no_user set q e
no_user_found set q (Some y) e = absurd (cc)

pub boost_is_task : (set : SetDef) (q k x : ℕ) → IsBoost set q k x → x < length set.tasks
boost_is_task set q k x boost = elim boost [ inl remote ↦ remote.task | inr all ↦ all.1.task ]

-- No task is on a processor above the set's. So the ceiling that such a processor sees is the plain one.
pub remote_beyond : (n p k : ℕ) → p < k → (nat_lt 0 n && not (p == k)) ≡ nat_lt 0 n
remote_beyond n p k h = grind (arith, nat_tests)

pub or_itself : {A : Type 0} (o : Option A) → option_or o o ≡ o
or_itself None = refl
or_itself (Some x) = refl

pub ceiling_beyond : (set : SetDef) (q k : ℕ) → IsAccepted set → set.processors < k → remote_ceiling_of set q k ≡ ceiling_of set q
ceiling_beyond set q k accepted beyond =
    ap (λ o. option_or o (ceiling_of set q)) (find_alike (is_remote_user set q k) (is_user set q) 0 (length set.tasks)
    (λ x from to. remote_beyond (count_of set x q) (task_at set x).processor k
    (omega (arith, (numbers_of_accepted set x accepted (omega arith)).processor_to)))) ∙ or_itself (ceiling_of set q)
