-- Every set of a study is accepted: what holds of each task that is drawn holds of the tasks in order.
use Rattle.std.proofs.Common.{◌≡◌, ◌≢◌, ℕ, zero, suc, ◌+◌, ◌-◌, ◌*◌, ◌/◌, ◌%◌, ◌<◌, ◌≤◌, Bool, true, false, cond, List}
use Rattle.std.proofs.Common.{[], ◌∷◌, ◌++◌, length, drop, codes, decimal, IsTrue, IsSome, Some, refl, sym, ◌∙◌, ap}
use Rattle.std.proofs.Common.{subst, arith, inl, inr}
use Rattle.std.specs.Prelude.{slice_index, slice_index_or}
use Rattle.std.specs.List.{AllPairs}
use Rattle.std.proofs.Math.Nat.{mod-lt, le-div_iff_mul-le, div-le_of_le-mul, mul-le-mul_left, mul-le-mul_right}
use Rattle.std.proofs.lemmas.Bool.{cond_both}
use Rattle.std.proofs.lemmas.Fmt.{decimal_digit, decimal_injective}
use Rattle.std.proofs.lemmas.List.Kept.{AllPairs-cons}
use Rattle.std.proofs.lemmas.List.Sums.{sum_by-le}
use Rattle.sporadic_model.specs.SetDef.{SetDef, TaskDef, RequestDef, ResourceDef, no_task, no_resource, no_request, task_at, request_count}
use Rattle.sporadic_model.specs.Names.{is_name}
use Rattle.sporadic_model.specs.Accepted.{IsAccepted, KeepsRanges, SetSizes}
use Rattle.sporadic_model.specs.Homes.{EachHasHome}
use Rattle.sporadic_model.specs.declared.limits.TheConstants.{MOST_PROCESSORS, MOST_TASKS, MOST_RESOURCES}
use Rattle.sporadic_model.specs.declared.limits.TheConstants.{MOST_REQUESTS, MOST_TICKS, MOST_COUNT}
use Rattle.study_gen.specs.Generator.{next_state, drawn, picked}
use Rattle.study_gen.specs.Sets.{periods, resources, is_asked, entry_at, behind_entry, entries_at, period_at}
use Rattle.study_gen.specs.Sets.{task_drawn, behind_task, behind_tasks, tasks_drawn, in_period_order}
use Rattle.study_gen.specs.Sets.{with_task_in_place, set_made}
use Rattle.study_gen.proofs.EachLaws.{Each, each_at, each_all, each_append}
use Rattle.study_gen.proofs.OrderLaws.{put, in_place_is_put, each_put, length-put, AreApart, apart-put, apart_pairs}
use Rattle.study_gen.proofs.OrderLaws.{IsRising, IsAmong, ordered_more}

-- A number that is picked is between its ends.
pub picked_from : (s least most : ℕ) → least ≤ picked s least most
picked_from s least most = omega arith

pub picked_to : (s least most : ℕ) → least ≤ most → picked s least most ≤ most
picked_to s least most order =
    let small : drawn s % (most - least + 1) < most - least + 1 = mod-lt (drawn s) {m = most - least + 1} (omega arith) in
    omega (arith, small, order)

-- What is known of each period.
record IsPeriod (p : ℕ) : Type 0 where
  among : IsAmong p periods
  from : 10000 ≤ p
  to : p ≤ 1000000

a_period : (k : ℕ) → k < 8 → IsPeriod (slice_index periods k)
a_period zero h = record { among = inl refl; from = omega arith; to = omega arith }
a_period (suc zero) h = record { among = inr (inl refl); from = omega arith; to = omega arith }
a_period (suc (suc zero)) h = record { among = inr (inr (inl refl)); from = omega arith; to = omega arith }
a_period (suc (suc (suc zero))) h = record { among = inr (inr (inr (inl refl))); from = omega arith; to = omega arith }
a_period (suc (suc (suc (suc zero)))) h = record { among = inr (inr (inr (inr (inl refl)))); from = omega arith; to = omega arith }
a_period (suc (suc (suc (suc (suc zero))))) h =
    record { among = inr (inr (inr (inr (inr (inl refl))))); from = omega arith; to = omega arith }
a_period (suc (suc (suc (suc (suc (suc zero)))))) h =
    record { among = inr (inr (inr (inr (inr (inr (inl refl)))))); from = omega arith; to = omega arith }
a_period (suc (suc (suc (suc (suc (suc (suc zero))))))) h =
    record { among = inr (inr (inr (inr (inr (inr (inr (inl refl))))))); from = omega arith; to = omega arith }
a_period (suc (suc (suc (suc (suc (suc (suc (suc k)))))))) h = absurd (omega (arith, h))

is_period : (s : ℕ) → IsPeriod (period_at s)
is_period s = a_period (picked s 0 7) (omega (arith, picked_to s 0 7 (omega arith)))

pub period_most : (s : ℕ) → period_at s ≤ 1000000
period_most s = (is_period s).to

pub periods_rise : IsRising periods
periods_rise = (
  (omega arith, (omega arith, (omega arith, (omega arith, (omega arith, (omega arith, (omega arith, tt))))))),
  (
    (omega arith, (omega arith, (omega arith, (omega arith, (omega arith, (omega arith, tt)))))),
    (
      (omega arith, (omega arith, (omega arith, (omega arith, (omega arith, tt))))),
      (
        (omega arith, (omega arith, (omega arith, (omega arith, tt)))),
        (
          (omega arith, (omega arith, (omega arith, tt))),
          (
            (omega arith, (omega arith, tt)),
            (
              (omega arith, tt),
              (
                tt,
                tt,
              ),
            ),
          ),
        ),
      ),
    ),
  ),
)

-- What is known of each entry: its resource is one of the three, and its numbers are in their ranges.
record IsEntry (e : RequestDef) : Type 0 where
  resource : ℕ
  within : resource < 3
  named : (slice_index_or resources resource no_resource).name ≡ e.resource
  count_from : 1 ≤ e.count
  count_to : e.count ≤ 2
  length_from : 1 ≤ e.length
  length_to : e.length ≤ 100

entry_is : (q : ℕ) (name : List ℕ) (s : ℕ) → q < 3 → (slice_index_or resources q no_resource).name ≡ name → Each IsEntry (entry_at name s)
entry_is q name s here named =
    let one : List RequestDef =
    record { resource = name; count = picked (next_state s) 1 2; length = picked (next_state (next_state s)) 1 100 }
    ∷ [] in
    cond_both (is_asked s) one [] (λ l. Each IsEntry l)
    (λ e. (
      record {
        resource = q;
        within = here;
        named = named;
        count_from = picked_from (next_state s) 1 2;
        count_to = picked_to (next_state s) 1 2 (omega arith);
        length_from = picked_from (next_state (next_state s)) 1 100;
        length_to = picked_to (next_state (next_state s)) 1 100 (omega arith);
      },
      tt,
    ))
    (λ e. tt)

entries_are : (s : ℕ) → Each IsEntry (entries_at s)
entries_are s =
    let second : ℕ = behind_entry s in
    let third : ℕ = behind_entry second in
    each_append IsEntry (entry_at (codes "r1") s) (entry_at (codes "r2") second ++ entry_at (codes "r3") third)
    (entry_is 0 (codes "r1") s (omega arith) refl)
    (each_append IsEntry (entry_at (codes "r2") second) (entry_at (codes "r3") third)
    (entry_is 1 (codes "r2") second (omega arith) refl) (entry_is 2 (codes "r3") third (omega arith) refl))

-- Entries of three resources, each there or not: there are at most three, and no two of one resource.
abbrev AreOther : List RequestDef → Type 0
AreOther entries = AllPairs (λ d e. d.resource ≢ e.resource) entries

no_pair : AreOther []
no_pair = λ i j d before within. absurd (omega arith)

at_most_three : (b c d : Bool) (e f g : RequestDef) → e.resource ≢ f.resource → e.resource ≢ g.resource → f.resource ≢ g.resource
    → (AreOther (cond b (e ∷ []) [] ++ (cond c (f ∷ []) [] ++ cond d (g ∷ []) [])))
    × (length (cond b (e ∷ []) [] ++ (cond c (f ∷ []) [] ++ cond d (g ∷ []) [])) ≤ 3)
at_most_three b c d e f g ef eg fg = (first b c d, few b c d) where
  R : RequestDef → RequestDef → Type 0
  R x y = x.resource ≢ y.resource

  third : (d : Bool) → AreOther (cond d (g ∷ []) [])
  third true = AllPairs-cons R g [] (each_all (R g) [] tt) no_pair
  third false = no_pair

  of_third : (d : Bool) (x : RequestDef) → R x g → Each (R x) (cond d (g ∷ []) [])
  of_third true x other = (other, tt)
  of_third false x other = tt

  second : (c d : Bool) → AreOther (cond c (f ∷ []) [] ++ cond d (g ∷ []) [])
  second true d = AllPairs-cons R f (cond d (g ∷ []) []) (each_all (R f) (cond d (g ∷ []) []) (of_third d f fg)) (third d)
  second false d = third d

  of_second : (c d : Bool) → Each (R e) (cond c (f ∷ []) [] ++ cond d (g ∷ []) [])
  of_second true d = (ef, of_third d e eg)
  of_second false d = of_third d e eg

  first : (b c d : Bool) → AreOther (cond b (e ∷ []) [] ++ (cond c (f ∷ []) [] ++ cond d (g ∷ []) []))
  first true c d = AllPairs-cons R e (cond c (f ∷ []) [] ++ cond d (g ∷ []) [])
      (each_all (R e) (cond c (f ∷ []) [] ++ cond d (g ∷ []) []) (of_second c d)) (second c d)
  first false c d = second c d

  few : (b c d : Bool) → length (cond b (e ∷ []) [] ++ (cond c (f ∷ []) [] ++ cond d (g ∷ []) [])) ≤ 3
  few true true true = omega arith
  few true true false = omega arith
  few true false true = omega arith
  few true false false = omega arith
  few false true true = omega arith
  few false true false = omega arith
  few false false true = omega arith
  few false false false = omega arith

abbrev entry_with : List ℕ → ℕ → RequestDef
entry_with name s = record { resource = name; count = picked (next_state s) 1 2; length = picked (next_state (next_state s)) 1 100 }

names_differ : (codes "r1" ≢ codes "r2") × (codes "r1" ≢ codes "r3") × (codes "r2" ≢ codes "r3")
names_differ = (
  (λ e. let digits : 49 ≡ 50 = ap (λ (l : List ℕ). slice_index l 1) e in absurd (omega (arith, digits))),
  (λ e. let digits : 49 ≡ 51 = ap (λ (l : List ℕ). slice_index l 1) e in absurd (omega (arith, digits))),
  (λ e. let digits : 50 ≡ 51 = ap (λ (l : List ℕ). slice_index l 1) e in absurd (omega (arith, digits))),
)

entries_few : (s : ℕ) → (AreOther (entries_at s)) × (length (entries_at s) ≤ 3)
entries_few s = at_most_three (is_asked s) (is_asked (behind_entry s)) (is_asked (behind_entry (behind_entry s)))
    (entry_with (codes "r1") s) (entry_with (codes "r2") (behind_entry s)) (entry_with (codes "r3") (behind_entry (behind_entry s)))
    names_differ.0 names_differ.1 names_differ.2

-- What is known of each task of a set.
record IsTask (t : TaskDef) : Type 0 where
  named : IsTrue (is_name t.name)
  processor_from : 1 ≤ t.processor
  processor_to : t.processor ≤ 4
  local_is : t.local ≡ t.cost
  deadline_is : t.deadline ≡ t.period
  jitter_is : t.jitter ≡ 0
  cost_from : 250 ≤ t.cost
  cost_to : t.cost ≤ t.period
  period_to : t.period ≤ 1000000
  entries : Each IsEntry t.requests
  apart : AreOther t.requests
  few : length t.requests ≤ 3

-- A digit makes a name.
digit_named : (j : ℕ) → j < 8 → IsTrue (is_name (codes "g" ++ (48 + j) ∷ []))
digit_named zero h = refl
digit_named (suc zero) h = refl
digit_named (suc (suc zero)) h = refl
digit_named (suc (suc (suc zero))) h = refl
digit_named (suc (suc (suc (suc zero)))) h = refl
digit_named (suc (suc (suc (suc (suc zero))))) h = refl
digit_named (suc (suc (suc (suc (suc (suc zero)))))) h = refl
digit_named (suc (suc (suc (suc (suc (suc (suc zero))))))) h = refl
digit_named (suc (suc (suc (suc (suc (suc (suc (suc j)))))))) h = absurd (omega (arith, h))

name_is : (j : ℕ) → j < 8 → IsTrue (is_name (codes "g" ++ decimal j))
name_is j h = rw (decimal_digit j (omega (arith, h))) (digit_named j h)

-- A cost is at least 250 ticks, and at most the period.
cost_range : (p load : ℕ) → 10000 ≤ p → 25 ≤ load → load ≤ 600 → (250 ≤ p * load / 1000) × (p * load / 1000 ≤ p)
cost_range p load low least most =
    let some : 10000 * load ≤ p * load = mul-le-mul_right load low in
    let all : p * load ≤ p * 600 = mul-le-mul_left p most in (
      (le-div_iff_mul-le {k = 1000} {x = 250} {y = p * load} (omega arith)).1 (omega (arith, some, least)),
      div-le_of_le-mul 1000 {m = p * load} {n = p} (omega (arith, all)),
    )

task_is : (step j s : ℕ) → 1 ≤ step → step ≤ 8 → j < 8 → IsTask (task_drawn step j s)
task_is step j s from to here =
    let p = is_period s in
    let load : ℕ = picked (next_state s) (25 * step) (75 * step) in
    let least : 25 ≤ load = omega (arith, picked_from (next_state s) (25 * step) (75 * step), from) in
    let most : load ≤ 600 = omega (arith, picked_to (next_state s) (25 * step) (75 * step) (omega arith), to) in
    let cost = cost_range (period_at s) load p.from least most in
    let entries : ℕ = next_state (next_state s) in
    let place : j % 4 < 4 = mod-lt j {m = 4} (omega arith) in
    record {
      named = name_is j here;
      processor_from = omega arith;
      processor_to = omega (arith, place);
      local_is = refl;
      deadline_is = refl;
      jitter_is = refl;
      cost_from = cost.0;
      cost_to = cost.1;
      period_to = p.to;
      entries = entries_are entries;
      apart = (entries_few entries).0;
      few = (entries_few entries).1;
    }

-- Is t named by a number below n?
record IsBelow (n : ℕ) (t : TaskDef) : Type 0 where
  number : ℕ
  within : number < n
  named : t.name ≡ codes "g" ++ decimal number

-- What is known of the first n tasks of a set in order.
record AreTasks (n : ℕ) (tasks : List TaskDef) : Type 0 where
  all : Each IsTask tasks
  count : length tasks ≡ n
  names : Each (IsBelow n) tasks
  apart : AreApart tasks

still_below : (n : ℕ) (tasks : List TaskDef) → Each (IsBelow n) tasks → Each (IsBelow (suc n)) tasks
still_below n [] all = tt
still_below n (t ∷ ts) (first, rest) =
    (record { number = first.number; within = omega (arith, first.within); named = first.named }, still_below n ts rest)

new_name : (n : ℕ) (tasks : List TaskDef) (name : List ℕ) → n < 8 → name ≡ codes "g" ++ decimal n
    → Each (IsBelow n) tasks → Each (λ x. x.name ≢ name) tasks
new_name n [] name few is all = tt
new_name n (t ∷ ts) name few is (first, rest) = (
  (λ same.
      let texts : codes "g" ++ decimal first.number ≡ codes "g" ++ decimal n = sym first.named ∙ same ∙ is in
      let digits : decimal first.number ≡ decimal n = ap (λ (l : List ℕ). drop 1 l) texts in
      let numbers = decimal_injective first.number n (omega (arith, first.within, few)) (omega (arith, few)) digits in
      absurd (omega (arith, numbers, first.within))),
  new_name n ts name few is rest,
)

-- The order of the first tasks with the next one.
pub order_more : (step s j : ℕ) → in_period_order (tasks_drawn step s (suc j))
    ≡ put (task_drawn step j (behind_tasks s j)) (in_period_order (tasks_drawn step s j))
order_more step s j = ordered_more periods (tasks_drawn step s j) (task_drawn step j (behind_tasks s j)) periods_rise
    (is_period (behind_tasks s j)).among

pub placed_more : (step s j : ℕ) (made : List TaskDef) (t : TaskDef) → made ≡ with_task_in_place (in_period_order (tasks_drawn step s j)) t
    → t ≡ task_drawn step j (behind_tasks s j) → made ≡ in_period_order (tasks_drawn step s (j + 1))
placed_more step s j made t is drawn =
    let old : List TaskDef = in_period_order (tasks_drawn step s j) in
    let count : suc j ≡ j + 1 = omega arith in
    let next : made ≡ in_period_order (tasks_drawn step s (suc j)) =
    is ∙ in_place_is_put old t ∙ ap (λ (x : TaskDef). put x old) drawn ∙ sym (order_more step s j) in
    subst (λ (k : ℕ). made ≡ in_period_order (tasks_drawn step s k)) count next

are_tasks : (step s n : ℕ) → 1 ≤ step → step ≤ 8 → n ≤ 8 → AreTasks n (in_period_order (tasks_drawn step s n))
are_tasks step s zero from to most = record { all = tt; count = refl; names = tt; apart = tt }
are_tasks step s (suc n) from to most =
    let old = are_tasks step s n from to (omega (arith, most)) in
    let tasks : List TaskDef = in_period_order (tasks_drawn step s n) in
    let t : TaskDef = task_drawn step n (behind_tasks s n) in
    let few : n < 8 = omega (arith, most) in
    let more : AreTasks (suc n) (put t tasks) = record {
      all = each_put IsTask t tasks (task_is step n (behind_tasks s n) from to few) old.all;
      count = length-put t tasks ∙ ap suc old.count;
      names = each_put (IsBelow (suc n)) t tasks (record { number = n; within = omega arith; named = refl })
          (still_below n tasks old.names);
      apart = apart-put t tasks (new_name n tasks t.name few refl old.names) old.apart;
    } in
    subst (λ (l : List TaskDef). AreTasks (suc n) l) (sym (order_more step s n)) more

known_limits : (MOST_PROCESSORS ≡ 64) × (MOST_TASKS ≡ 64) × (MOST_RESOURCES ≡ 32) × (MOST_REQUESTS ≡ 256)
    × (MOST_TICKS ≡ 1000000000) × (MOST_COUNT ≡ 1000)
known_limits = (refl, refl, refl, refl, refl, refl)

few_of : (tasks : List TaskDef) → Each IsTask tasks → Each (λ t. length t.requests ≤ 3) tasks
few_of [] all = tt
few_of (t ∷ ts) (first, rest) = (first.few, few_of ts rest)

sizes_of : (set : SetDef) → set.processors ≡ 4 → length set.resources ≡ 3 → length set.tasks ≡ 8 → Each IsTask set.tasks → SetSizes set
sizes_of set processors three eight all =
    let requests : request_count set ≤ length set.tasks * 3 = sum_by-le (λ (t : TaskDef). length t.requests) 3 set.tasks
    (each_all (λ t. length t.requests ≤ 3) set.tasks (few_of set.tasks all)) in
    record {
      processors_from = omega (arith, processors);
      processors_to = omega (arith, processors, known_limits.0);
      tasks_from = omega (arith, eight);
      tasks_to = omega (arith, eight, known_limits.1);
      resources_to = omega (arith, three, known_limits.2);
      requests_to = omega (arith, requests, eight, known_limits.3);
    }

resource_names : (q : ℕ) → q < 3 → IsTrue (is_name (slice_index_or resources q no_resource).name)
resource_names zero h = refl
resource_names (suc zero) h = refl
resource_names (suc (suc zero)) h = refl
resource_names (suc (suc (suc q))) h = absurd (omega (arith, h))

resources_differ : AllPairs (λ p q. p.name ≢ q.name) resources
resources_differ =
    let R : ResourceDef → ResourceDef → Type 0 = λ p q. p.name ≢ q.name in
    let first : ResourceDef = record { name = codes "r1"; home = Some 1 } in
    let second : ResourceDef = record { name = codes "r2"; home = Some 2 } in
    let third : ResourceDef = record { name = codes "r3"; home = Some 3 } in
    AllPairs-cons R first (second ∷ third ∷ []) (each_all (R first) (second ∷ third ∷ []) (names_differ.0, (names_differ.1, tt)))
    (AllPairs-cons R second (third ∷ []) (each_all (R second) (third ∷ []) (names_differ.2, tt))
    (AllPairs-cons R third [] (each_all (R third) [] tt) (λ i j d before within. absurd (omega arith))))

home_range : (q k : ℕ) → q < 3 → (slice_index_or resources q no_resource).home ≡ Some k → (1 ≤ k) × (k ≤ 4)
home_range zero k h e = let is : 1 ≡ k = cc in (omega (arith, is), omega (arith, is))
home_range (suc zero) k h e = let is : 2 ≡ k = cc in (omega (arith, is), omega (arith, is))
home_range (suc (suc zero)) k h e = let is : 3 ≡ k = cc in (omega (arith, is), omega (arith, is))
home_range (suc (suc (suc q))) k h e = absurd (omega (arith, h))

has_home : (q : ℕ) → q < 3 → IsSome (slice_index_or resources q no_resource).home
has_home zero h = refl
has_home (suc zero) h = refl
has_home (suc (suc zero)) h = refl
has_home (suc (suc (suc q))) h = absurd (omega (arith, h))

keeps : (step s : ℕ) → 1 ≤ step → step ≤ 8 → KeepsRanges (set_made step s)
keeps step s from to =
    let set : SetDef = set_made step s in
    let known = are_tasks step s 8 from to (omega arith) in
    let is : (x : ℕ) → x < length set.tasks → IsTask (task_at set x) = λ x here. each_at IsTask set.tasks x no_task here known.all in
    let entry : (x j : ℕ) → x < length set.tasks → j < length (task_at set x).requests
    → IsEntry (slice_index_or (task_at set x).requests j no_request) =
    λ x j here within. each_at IsEntry (task_at set x).requests j no_request within (is x here).entries in
    record {
      sizes = sizes_of set refl refl known.count known.all;
      names = record {
        resource_names = resource_names;
        task_names = λ x here. (is x here).named;
        resources_apart = λ p q before within. resources_differ p q no_resource before within;
        tasks_apart = λ x y before within. apart_pairs set.tasks known.apart x y no_task before within;
      };
      numbers = λ x here.
          let t = is x here in
          record {
            processor_from = t.processor_from;
            processor_to = t.processor_to;
            local_from = omega (arith, t.local_is, t.cost_from);
            local_to = omega (arith, t.local_is);
            cost_from = omega (arith, t.cost_from);
            cost_to = omega (arith, t.cost_to, t.deadline_is);
            jitter_to = omega (arith, t.cost_to, t.deadline_is, t.jitter_is);
            deadline_to = omega (arith, t.deadline_is);
            period_to = omega (arith, t.period_to, known_limits.4);
          };
      entries = λ x here.
          let t = is x here in
          record {
            known = λ j within. let e = entry x j here within in (e.resource, e.within, e.named);
            apart = λ i j before within. t.apart i j no_request before within;
          };
      requests = λ x j here within.
          let t = is x here in
          let e = entry x j here within in
          record {
            count_from = e.count_from;
            count_to = omega (arith, e.count_to, known_limits.5);
            length_from = e.length_from;
            length_to = omega (arith, e.length_to, t.cost_from);
          };
      homes = record {
        homes_from = λ q k here e. (home_range q k here e).0;
        homes_to = λ q k here e. (home_range q k here e).1;
      };
    }

pub set_is_accepted : (step s : ℕ) → 1 ≤ step → step ≤ 8 → IsAccepted (set_made step s)
unfolding IsAccepted
set_is_accepted step s from to = keeps step s from to

pub set_has_homes : (step s : ℕ) → EachHasHome (set_made step s)
set_has_homes step s = has_home

-- Parts with the three resources and all eight tasks are the set.
pub made_parts : (step s j : ℕ) (rs : List ResourceDef) (ts : List TaskDef) → rs ≡ resources
    → ts ≡ in_period_order (tasks_drawn step s j) → j ≡ 8
    → (record { processors = 4; resources = rs; tasks = ts }) ≡ set_made step s
made_parts step s j rs ts three order eight =
    let tasks : ts ≡ in_period_order (tasks_drawn step s 8) = order ∙ ap (λ (k : ℕ). in_period_order (tasks_drawn step s k)) eight in
    ap (λ (x : List ResourceDef). record { processors = 4; resources = x; tasks = ts }) three
    ∙ ap (λ (x : List TaskDef). record { processors = 4; resources = resources; tasks = x }) tasks

pub behind_more : (s j now next : ℕ) → now ≡ behind_tasks s j → next ≡ behind_task now → next ≡ behind_tasks s (j + 1)
behind_more s j now next is grown =
    let count : suc j ≡ j + 1 = omega arith in
    subst (λ (k : ℕ). next ≡ behind_tasks s k) count (grown ∙ ap behind_task is)
