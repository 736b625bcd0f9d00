-- A script of more segments than any budget allows is refused as over budget, whatever jobs are listed.
use Rattle.std.proofs.Common.{◌≡◌, ◌<◌, ◌≤◌, ◌+◌, ◌*◌, ◌-◌, ◌==◌, ◌&&◌, not, ℕ, zero, suc, Bool, true, false, cond, List, [], ◌∷◌}
use Rattle.std.proofs.Common.{length, map, take, leb, count_by, Option, None, Some, refl, sym, subst, ◌∙◌, arith, inl, inr}
use Rattle.std.specs.Prelude.{is_some, unwrap_or, nat_lt, option_map}
use Rattle.std.specs.Int.{is_in_range}
use Rattle.std.specs.List.{list_all, before_first, after_first}
use Rattle.std.specs.Option.{option_map_or, option_and_then}
use Rattle.std.specs.Str.{bytes_eq}
use Rattle.std.proofs.lemmas.Bool.{cases_Bool, and_parts, and_from, leb-true, ltb-true, lt-ltb, eqb-true, eq-eqb}
use Rattle.std.proofs.lemmas.List.{length-map}
use Rattle.std.proofs.lemmas.List.Quantifiers.{position-Some}
use Rattle.number_laws.specs.Sums.{sum_below, flag}
use Rattle.number_laws.specs.Tests.{all_below}
use Rattle.number_laws.proofs.ListCounts.{count_by-first}
use Rattle.number_laws.proofs.SumLaws.{sum_below-agree, sum_below-plus, sum_below-monotone, sum_below-constant, sum_below-term}
use Rattle.number_laws.proofs.TestLaws.{all_below-each}
use Rattle.sporadic_model.specs.SetDef.{SetDef, RequestDef, no_resource, resource_at, task_at}
use Rattle.sporadic_model.specs.Users.{entry_of, count_of, task_with_name, resource_with_name}
use Rattle.sporadic_model.specs.Accepted.{IsAccepted}
use Rattle.sporadic_model.specs.declared.limits.TheConstants.{MOST_TICKS, MOST_COUNT}
use Rattle.sporadic_model.proofs.Laws.{entry_of_accepted, sizes_of_accepted}
use Rattle.schedule_model.specs.JobDef.{SegmentDef, JobDef, JobsDef, total_ticks, local_ticks, number_of_requests, asks_for}
use Rattle.schedule_model.specs.LawfulJobs.{is_resource_in, is_length_kept}
use Rattle.schedule_model.specs.JobLists.{is_listed_segment, is_listed_script, is_within_budget, first_refusal}
use Rattle.schedule_model.specs.declared.refusal.JobRefusal.TheVariants as push
use Rattle.text_pieces.specs.Numbers.{if_in_range, number_in, number_between}
use Rattle.trace_csv.specs.declared.refusal.JobsRefusal.TheVariants as refusal
use Rattle.trace_csv.specs.declared.segments.TheConstants.{MOST_WITHIN_BUDGET}
use Rattle.trace_csv.specs.Scripts.{NamedRequest, PartDef, tokens_in, local_in, request_in, is_name, colon, parts_of, script_in}
use Rattle.trace_csv.specs.Scripts.{with_local}
use Rattle.trace_csv.specs.JobLines.{tick_in, segment_written, resource_written, has_known_resource}
use Rattle.trace_csv.specs.JobAnswers.{IsRefusedAfterAny}

-- What is read as a number in a range is in it.
read_in_range : (least most : ℕ) (o : Option ℕ) (n : ℕ) → option_and_then (if_in_range least most) o ≡ Some n → is_in_range least most n ≡ true
read_in_range least most None n h = absurd (cc)
read_in_range least most (Some m) n h = elim (cases_Bool (is_in_range least most m)) [
  | inl in_range ↦
      let same : Some m ≡ Some n = rw in_range at h in
      let here : m ≡ n = cc same in
      subst (λ k. is_in_range least most k ≡ true) here in_range
  | inr out ↦ let none : None ≡ Some n = rw out at h in absurd (cc)
]

-- Segments that a list takes, of which only the last may lack a request.
abbrev AreListed : List SegmentDef → Type 0
AreListed script =
    (list_all is_listed_segment script ≡ true) × (list_all (λ s. is_some s.request) (take (length script - 1) script) ≡ true)

requests_more : (s : SegmentDef) (script : List SegmentDef) → is_some s.request ≡ true
    → list_all (λ s. is_some s.request) (take (length script - 1) script) ≡ true
    → list_all (λ s. is_some s.request) (take (length (s ∷ script) - 1) (s ∷ script)) ≡ true
requests_more s script h rest =
    let all : length (s ∷ script) - 1 ≡ length script = omega arith in
    subst (λ m. list_all (λ s. is_some s.request) (take m (s ∷ script)) ≡ true) (sym all) (go script rest)
  where
    go : (script : List SegmentDef) → list_all (λ s. is_some s.request) (take (length script - 1) script) ≡ true
        → list_all (λ s. is_some s.request) (take (length script) (s ∷ script)) ≡ true
    go [] rest = refl
    go (next ∷ script) rest =
        let behind : length (next ∷ script) - 1 ≡ length script = omega arith in
        and_from (is_some s.request) (list_all (λ s. is_some s.request) (take (length script) (next ∷ script))) h
        (subst (λ m. list_all (λ s. is_some s.request) (take m (next ∷ script)) ≡ true) behind rest)

module _ (set : SetDef) where
  abbrev segments : List PartDef → List SegmentDef
  segments parts = map (segment_written set) parts

  listed_last : (local : Option ℕ) → ((n : ℕ) → local ≡ Some n → is_in_range 1 MOST_TICKS n ≡ true) → (parts : List PartDef)
      → option_map (λ n. record { local = n; request = None } ∷ []) local ≡ Some parts → AreListed (segments parts)
  listed_last None each parts h = absurd (cc)
  listed_last (Some n) each parts h =
      let one : PartDef = record { local = n; request = None } in
      let whole : AreListed (segments (one ∷ [])) = (rw (each n refl) refl, refl) in
      let same : one ∷ [] ≡ parts = cc h in
      subst (λ (ps : List PartDef). AreListed (segments ps)) same whole

  listed_more : (local : Option ℕ) (request : Option NamedRequest) (rest : Option (List PartDef))
      → ((n : ℕ) → local ≡ Some n → is_in_range 1 MOST_TICKS n ≡ true)
      → ((r : NamedRequest) → request ≡ Some r → is_in_range 1 MOST_TICKS r.ticks ≡ true)
      → ((parts : List PartDef) → rest ≡ Some parts → AreListed (segments parts))
      → (parts : List PartDef) → with_local local request rest ≡ Some parts → AreListed (segments parts)
  listed_more None request rest locals requests more parts h = absurd (cc)
  listed_more (Some n) None rest locals requests more parts h = absurd (cc)
  listed_more (Some n) (Some r) None locals requests more parts h = absurd (cc)
  listed_more (Some n) (Some r) (Some behind) locals requests more parts h =
      let part : PartDef = record { local = n; request = Some r } in
      let s = segment_written set part in
      let left = more behind refl in
      let here : is_listed_segment s ≡ true = rw (locals n refl, requests r refl) refl in
      let whole : AreListed (segments (part ∷ behind)) = (
        and_from (is_listed_segment s) (list_all is_listed_segment (segments behind)) here left.0,
        requests_more s (segments behind) refl left.1,
      ) in
      let same : part ∷ behind ≡ parts = cc h in
      subst (λ (ps : List PartDef). AreListed (segments ps)) same whole

  ticks_in_range : (b : Bool) (name : List ℕ) (ticks : Option ℕ) (r : NamedRequest)
      → ((n : ℕ) → ticks ≡ Some n → is_in_range 1 MOST_TICKS n ≡ true)
      → cond b (option_map (λ n. record { resource = name; ticks = n }) ticks) None ≡ Some r → is_in_range 1 MOST_TICKS r.ticks ≡ true
  ticks_in_range false name ticks r each h = absurd (cc)
  ticks_in_range true name None r each h = absurd (cc)
  ticks_in_range true name (Some n) r each h =
      let one : NamedRequest = record { resource = name; ticks = n } in
      let same : one ≡ r = cc h in
      subst (λ (x : NamedRequest). is_in_range 1 MOST_TICKS x.ticks ≡ true) same (each n refl)

  request_in_range : (token : List ℕ) (r : NamedRequest) → request_in token ≡ Some r → is_in_range 1 MOST_TICKS r.ticks ≡ true
  request_in_range token r h =
      let name = before_first (λ b. b == colon) token in
      let digits = after_first (λ b. b == colon) token in
      ticks_in_range (is_name name) name (number_between 1 MOST_TICKS digits) r (λ n e. read_in_range 1 MOST_TICKS (number_in digits) n e) h

  are_listed : (tokens : List (List ℕ)) (parts : List PartDef) → parts_of tokens ≡ Some parts → AreListed (segments parts)
  are_listed [] parts h = let none : [] ≡ parts = cc h in subst (λ (ps : List PartDef). AreListed (segments ps)) none (refl, refl)
  are_listed (token ∷ []) parts h = listed_last (local_in token) (λ n e. read_in_range 1 MOST_TICKS (number_in token) n e) parts h
  are_listed (token ∷ next ∷ tokens) parts h =
      listed_more (local_in token) (request_in next) (parts_of tokens)
      (λ n e. read_in_range 1 MOST_TICKS (number_in token) n e) (request_in_range next) (are_listed tokens) parts h

  -- Resources that are known are resources of the set.
  known_within : (o : Option ℕ) (n : ℕ) → ((i : ℕ) → o ≡ Some i → i < n) → is_some o ≡ true → nat_lt (unwrap_or o 0) n ≡ true
  known_within None n each h = absurd (cc)
  known_within (Some i) n each h = lt-ltb i n (each i refl)

  known_here : (o : Option NamedRequest) → option_map_or (λ r. is_some (resource_with_name set r.resource)) o true ≡ true
      → option_map_or (λ (r : ℕ × ℕ). nat_lt r.0 (length set.resources)) (option_map (λ r. (resource_written set r, r.ticks)) o) true ≡ true
  known_here None h = refl
  known_here (Some r) h = known_within (resource_with_name set r.resource) (length set.resources)
      (λ i e. (position-Some (λ x. bytes_eq x.name r.resource) set.resources i no_resource e).0) h

  pub all_within : (parts : List PartDef) → list_all (has_known_resource set) parts ≡ true
      → list_all (is_resource_in (length set.resources)) (segments parts) ≡ true
  all_within [] h = refl
  all_within (part ∷ parts) h =
      let both : (has_known_resource set part ≡ true) × (list_all (has_known_resource set) parts ≡ true) =
      and_parts (has_known_resource set part) (list_all (has_known_resource set) parts) h in
      and_from (is_resource_in (length set.resources) (segment_written set part))
      (list_all (is_resource_in (length set.resources)) (segments parts)) (known_here part.request both.0) (all_within parts both.1)

-- Each request of a script is one of some resource.
one_asked : (n : ℕ) (o : Option (ℕ × ℕ)) → option_map_or (λ r. nat_lt r.0 n) o true ≡ true
    → flag (is_some o) ≤ sum_below n (λ q. flag (option_map_or (λ r. r.0 == q) o false))
one_asked n None h = omega arith
one_asked n (Some r) h =
    let below : r.0 < n = ltb-true r.0 n h in
    let here : flag (r.0 == r.0) ≡ 1 = rw (eq-eqb r.0 r.0 refl) refl in
    omega (arith, sum_below-term n (λ q. flag (r.0 == q)) r.0 below, here)

requests_by_resource : (n : ℕ) (script : List SegmentDef) → list_all (is_resource_in n) script ≡ true
    → count_by (λ s. is_some s.request) script ≤ sum_below n (number_of_requests script)
requests_by_resource n [] h = omega arith
requests_by_resource n (s ∷ script) h =
    let both : (is_resource_in n s ≡ true) × (list_all (is_resource_in n) script ≡ true) =
    and_parts (is_resource_in n s) (list_all (is_resource_in n) script) h in
    let asked : ℕ → ℕ = λ q. flag (asks_for q s) in
    let split : sum_below n (number_of_requests (s ∷ script)) ≡ sum_below n asked + sum_below n (number_of_requests script) =
    sum_below-agree n (number_of_requests (s ∷ script)) (λ q. asked q + number_of_requests script q)
    (λ q l. count_by-first (asks_for q) s script) ∙ sum_below-plus n asked (number_of_requests script) in
    omega (
      arith,
      split,
      count_by-first (λ (x : SegmentDef). is_some x.request) s script,
      one_asked n s.request both.0,
      requests_by_resource n script both.1,
    )

counted_front : (p : SegmentDef → Bool) (script : List SegmentDef) (m : ℕ) → m ≤ length script → list_all p (take m script) ≡ true
    → m ≤ count_by p script
counted_front p [] m l h = omega arith
counted_front p (s ∷ script) zero l h = omega arith
counted_front p (s ∷ script) (suc m) l h =
    let both : (p s ≡ true) × (list_all p (take m script) ≡ true) = and_parts (p s) (list_all p (take m script)) h in
    let one : flag (p s) ≡ 1 = rw both.0 refl in
    omega (arith, count_by-first p s script, one, counted_front p script m (omega (arith, l)) both.1)

count_at_most : (o : Option RequestDef) (m : ℕ) → ((e : RequestDef) → o ≡ Some e → e.count ≤ m) → option_map_or (λ e. e.count) o 0 ≤ m
count_at_most None m h = omega arith
count_at_most (Some e) m h = h e refl

counts_kept : (set : SetDef) (job : JobDef) → is_within_budget set job ≡ true → (q : ℕ) → q < length set.resources
    → number_of_requests job.script q ≤ count_of set job.task q
unfolding is_within_budget
counts_kept set job within q here =
    let counts : ℕ → Bool = λ r. leb (number_of_requests job.script r) (count_of set job.task r) in
    let lengths = list_all (is_length_kept set job.task) job.script in
    let a = and_parts (leb (total_ticks job.script) (task_at set job.task).cost) _ within in
    let b = and_parts (leb (local_ticks job.script) (task_at set job.task).local) _ a.1 in
    let c = and_parts (all_below (length set.resources) counts) lengths b.1 in
    leb-true _ _ (all_below-each (length set.resources) counts c.0 q here)

-- A job of this many segments isn't within budget.
not_within : (set : SetDef) (job : JobDef) → IsAccepted set → job.task < length set.tasks
    → list_all (is_resource_in (length set.resources)) job.script ≡ true
    → list_all (λ s. is_some s.request) (take (length job.script - 1) job.script) ≡ true
    → MOST_WITHIN_BUDGET < length job.script → is_within_budget set job ≡ false
not_within set job accepted task within front long = elim (cases_Bool (is_within_budget set job)) [
  | inl kept ↦
      let n = length set.resources in
      let small : (q : ℕ) → q < n → number_of_requests job.script q ≤ MOST_COUNT = λ q l.
      let found = count_at_most (entry_of set job.task q) MOST_COUNT (λ e same.
      (entry_of_accepted set job.task (λ e. bytes_eq e.resource (resource_at set q).name) e accepted task same).count_to) in
      omega (arith, counts_kept set job kept q l, found) in
      let sum : sum_below n (number_of_requests job.script) ≤ n * MOST_COUNT =
      subst (λ m. sum_below n (number_of_requests job.script) ≤ m) (sum_below-constant n MOST_COUNT)
      (sum_below-monotone n (number_of_requests job.script) (λ q. MOST_COUNT) small) in
      absurd (omega (
        arith,
        sum,
        requests_by_resource n job.script within,
        counted_front (λ (s : SegmentDef). is_some s.request) job.script (length job.script - 1) (omega arith) front,
        (sizes_of_accepted set accepted).resources_to,
        long,
      ))
  | inr over ↦ over
]

-- No budget allows the script, whatever jobs are listed: the list finds its form good, and then that it is over budget.
over_budget : (a b c d e : Bool) → a ≡ true → b ≡ false
    → cond (not a) (Some push.Script)
    (cond (not b) (Some push.OverBudget) (cond c (Some push.TooClose)
    (cond d (Some push.TooMany) (cond e (Some push.Late) None))))
    ≡ Some push.OverBudget
over_budget a b c d e f g = rw (f, g) refl

not_empty : (script : List SegmentDef) → 0 < length script → not (length script == 0) ≡ true
not_empty script h = elim (cases_Bool (length script == 0)) [
  | inl none ↦ absurd (omega (arith, eqb-true (length script) 0 none))
  | inr some ↦ rw some refl
]

pub too_long : (set : SetDef) (name arrival release script : List ℕ) (k a r x : ℕ) (parts : List PartDef) → IsAccepted set
    → tick_in arrival ≡ Some a → tick_in release ≡ Some r → task_with_name set name ≡ Some x → x < length set.tasks
    → script_in script ≡ Some parts → list_all (has_known_resource set) parts ≡ true → MOST_WITHIN_BUDGET < length parts
    → IsRefusedAfterAny set (name ∷ arrival ∷ release ∷ script ∷ []) k (refusal.OverBudget k)
too_long set name arrival release script k a r x parts accepted at_a at_r at_x here at_parts known long jobs =
    let listed = are_listed set (tokens_in script) parts at_parts in
    let within = all_within set parts known in
    let job : JobDef = record { task = x; arrival = a; release = r; script = map (segment_written set) parts } in
    let many : MOST_WITHIN_BUDGET < length job.script = omega (arith, long, length-map parts (segment_written set)) in
    let form : is_listed_script job.script ≡ true = and_from (not (length job.script == 0))
    (list_all is_listed_segment job.script && list_all (λ s. is_some s.request) (take (length job.script - 1) job.script))
    (not_empty job.script (omega (arith, many))) (and_from (list_all is_listed_segment job.script) _ listed.0 listed.1) in
    let budget = not_within set job accepted here within listed.1 many in
    let list : JobsDef = record { set = set; jobs = jobs } in
    let first : first_refusal list job ≡ Some push.OverBudget =
    over_budget (is_listed_script job.script) (is_within_budget set job) _ _ _ form budget in
    rw (at_a, at_r, at_x, at_parts, known, first) refl
