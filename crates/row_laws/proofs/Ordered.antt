-- Holders under DPCP. At each row, of two holders at one processor the higher one is strictly higher than the ceiling of the lower one's
-- resource. So if a lower request runs while a job waits there, its resource's ceiling is no lower than the job.
use Rattle.std.proofs.Common.{◌≡◌, ◌⊎◌, ℕ, zero, suc, ◌<◌, ◌≤◌, ◌==◌, ◌&&◌, ◌||◌, not, Bool, true, false, length, refl}
use Rattle.std.proofs.Common.{sym, ap, ◌∙◌, arith, inl, inr, Option, Some, None, nat_le}
use Rattle.std.specs.Option.{option_map_or}
use Rattle.std.proofs.lemmas.Bool.{cases_lt, cases_Bool, both_ways, and_parts, and_from, eq-eqb, eqb-true, le-leb}
use Rattle.std.proofs.lemmas.Bool.{leb-true, leb-false, not-true, not_from_false}
use Rattle.number_laws.specs.Tests.{all_below, any_below}
use Rattle.number_laws.proofs.TestLaws.{any_below-some, any_below-from, all_below-each, all_below-fails}
use Rattle.schedule_model.specs.declared.rule.Rule.TheVariants as rule
use Rattle.schedule_model.specs.JobDef.{job_of}
use Rattle.schedule_model.specs.LawfulJobs.{AreLawfulJobs, IsLawfulJob}
use Rattle.schedule_model.specs.RowDef.{Trace, jobs_of, is_job, holder_in, held_before}
use Rattle.schedule_model.specs.Phase.{phase_of}
use Rattle.schedule_model.specs.Phase.Phase.{Asking}
use Rattle.schedule_model.specs.Activity.{task_of, is_active, is_requester, holds_by}
use Rattle.schedule_model.specs.SharedRules.{KeepsKeep}
use Rattle.schedule_model.specs.DpcpRules.{home_of, ceiling_rank, has_request_at, has_requests, holds_at, is_kept}
use Rattle.schedule_model.specs.DpcpRules.{waits_at, is_first_waiting, is_barred, is_granted, KeepsGrant}
use Rattle.schedule_model.specs.DpcpRules.{RunsFirstHolder, KeepsPriority}
use Rattle.schedule_model.specs.Ranks.{by_task}
use Rattle.schedule_model.specs.Protocols.{dpcp_rule}
use Rattle.schedule_model.specs.Keeping.{KeepsBefore}
use Rattle.schedule_model.proofs.RuleTests.{then_true}
use Rattle.schedule_laws.proofs.ActiveJobs.{active_listed, one_active, Requester, requester_is, requester_from, requester_listed}
use Rattle.schedule_laws.proofs.Rows.{job_named, named_job, holds_from}
use Rattle.schedule_laws.proofs.RuleUses.{request_among}
use Rattle.schedule_laws.proofs.Segments.{open_resource, open_user}
use Rattle.schedule_laws.proofs.DpcpStretches.{ceiling_low}
use Rattle.charge_laws.proofs.DpcpCharging.{RunsRequest, request_at_from, request_at_is}

-- A job that holds a resource: it requests it, and is lawful.
pub record HoldsAt (w : Trace) (t q y : ℕ) : Type 0 where
  pub asks : is_requester w t q y ≡ true
  pub active : is_active w t y ≡ true
  pub number : ℕ
  pub request : phase_of w t y ≡ Asking number q
  pub within : q < length w.set.resources
  pub ceiling : ceiling_rank w q ≤ task_of w y

-- So is a requester.
pub requester_facts : (w : Trace) (t q y : ℕ) → AreLawfulJobs (jobs_of w) → is_requester w t q y ≡ true → HoldsAt w t q y
requester_facts w t q y lawful asks =
    let r : Requester w t q y = requester_is w t q y asks in
    let job : IsLawfulJob w.set (job_of w.jobs y) = lawful.each y (requester_listed w t q y asks) in
    record {
      asks = asks;
      active = r.active;
      number = r.number;
      request = r.phase;
      within = open_resource w.set w t y r.number q job r.phase;
      ceiling = ceiling_low w.set q (task_of w y) (open_user w.set w t y r.number q job r.phase) job.task;
    }

pub holder_facts : (w : Trace) (n t q y : ℕ) → AreLawfulJobs (jobs_of w) → KeepsBefore dpcp_rule w n → t < n
    → holder_in (w.row t) q ≡ Some y → HoldsAt w t q y
holder_facts w n t q y lawful keeps l holds = let grant : KeepsGrant w t = keeps t l rule.Grant in
    requester_facts w t q y lawful (grant.requests q y holds)

-- A resource is kept if the holder before still requests it.
pub kept_from : (w : Trace) (t q y : ℕ) → held_before w t q ≡ Some y → is_requester w t q y ≡ true → is_kept w t q ≡ true
unfolding is_kept
kept_from w t q y e asks = rw e asks

kept_is : (w : Trace) (t q : ℕ) → is_kept w t q ≡ true → (y : ℕ) × (held_before w t q ≡ Some y) × (is_requester w t q y ≡ true)
unfolding is_kept
kept_is w t q h = go (held_before w t q) refl h where
  go : (o : Option ℕ) → held_before w t q ≡ o → option_map_or (λ j. is_requester w t q j) o false ≡ true
      → (y : ℕ) × (held_before w t q ≡ Some y) × (is_requester w t q y ≡ true)
  go None e g = absurd (cc)
  go (Some y) e g = (y, e, g)

-- A new holder is granted: it is the first that waits, and higher than the ceiling of each resource kept there.
pub record Granted (w : Trace) (t k y : ℕ) : Type 0 where
  pub waits : waits_at w t k y ≡ true
  pub first : (i : ℕ) → i < length w.jobs → waits_at w t k i ≡ true → task_of w y ≤ task_of w i
  pub above : (r : ℕ) → r < length w.set.resources → home_of w r ≡ k → is_kept w t r ≡ true → task_of w y < ceiling_rank w r

granted_is : (w : Trace) (t k y : ℕ) → is_granted w t k y ≡ true → Granted w t k y
unfolding is_granted is_first_waiting is_barred
granted_is w t k y h =
    record {
      waits = first.0;
      first = λ i l waits. leb-true _ _ (then_true (waits_at w t k i) (nat_le (task_of w y) (task_of w i))
          (all_below-each (length w.jobs) _ first.1 i l) waits);
      above = above;
    } where
      parts : ((waits_at w t k y && all_below (length w.jobs) (λ i. not (waits_at w t k i) || nat_le (task_of w y) (task_of w i))) ≡ true)
          × (not (any_below (length w.set.resources)
          (λ q. (home_of w q == k) && (is_kept w t q && nat_le (ceiling_rank w q) (task_of w y))))
          ≡ true)
      parts = and_parts _ _ h

      first : (waits_at w t k y ≡ true)
          × (all_below (length w.jobs) (λ i. not (waits_at w t k i) || nat_le (task_of w y) (task_of w i)) ≡ true)
      first = and_parts _ _ parts.0

      above : (r : ℕ) → r < length w.set.resources → home_of w r ≡ k → is_kept w t r ≡ true → task_of w y < ceiling_rank w r
      above r l home kept = elim (cases_lt (task_of w y) (ceiling_rank w r)) [
        | inl less ↦ less
        | inr most ↦
            let barred : any_below (length w.set.resources)
            (λ q. (home_of w q == k) && (is_kept w t q && nat_le (ceiling_rank w q) (task_of w y))) ≡ true =
            any_below-from (length w.set.resources)
            (λ q. (home_of w q == k) && (is_kept w t q && nat_le (ceiling_rank w q) (task_of w y))) r l
            (and_from _ _ (eq-eqb _ _ home) (and_from _ _ kept (le-leb _ _ most))) in
            absurd (both_ways _ (not-true _ parts.1) barred)
      ]

-- A new holder was granted at its resource's home.
pub new_granted : (w : Trace) (t q y : ℕ) → KeepsGrant w t → holder_in (w.row t) q ≡ Some y → is_job y (held_before w t q) ≡ false
    → Granted w t (home_of w q) y
new_granted w t q y grant holds new =
    granted_is w t (home_of w q) y
    (grant.new q y holds (λ e. both_ways (is_job y (held_before w t q)) new (named_job y (held_before w t q) e)))

-- The order of holders at one processor.
abbrev pub IsOrdered : Trace → ℕ → Type 0
IsOrdered w t = (q r i k : ℕ) → holder_in (w.row t) q ≡ Some i → holder_in (w.row t) r ≡ Some k → home_of w q ≡ home_of w r
    → task_of w i < task_of w k → task_of w i < ceiling_rank w r

-- A row has this order if the row before has it, by the rules.
ordered_here : (w : Trace) (n t q r i k : ℕ) → AreLawfulJobs (jobs_of w) → KeepsBefore dpcp_rule w n → t < n
    → holder_in (w.row t) q ≡ Some i → holder_in (w.row t) r ≡ Some k → home_of w q ≡ home_of w r
    → task_of w i < task_of w k → (held_before w t q ≡ Some i → held_before w t r ≡ Some k → task_of w i < ceiling_rank w r)
    → task_of w i < ceiling_rank w r
ordered_here w n t q r i k lawful keeps l high low home order old = elim (cases_Bool (is_job i (held_before w t q))) [
  | inl kept_i ↦ elim (cases_Bool (is_job k (held_before w t r))) [
    | inl kept_k ↦ old (job_named i _ kept_i) (job_named k _ kept_k)
    | inr new_k ↦
        let g : Granted w t (home_of w r) k = new_granted w t r k grant low new_k in
        let a : HoldsAt w t q i = holder_facts w n t q i lawful keeps l high in
        let above : task_of w k < ceiling_rank w q = g.above q a.within home (kept_from w t q i (job_named i _ kept_i) a.asks) in
        absurd (omega (arith, above, a.ceiling))
  ]
  | inr new_i ↦ first new_i
] where
  grant : KeepsGrant w t
  grant = keeps t l rule.Grant

  first : is_job i (held_before w t q) ≡ false → task_of w i < ceiling_rank w r
  first new_i = elim (cases_Bool (is_job k (held_before w t r))) [
    | inl kept_k ↦
        let g : Granted w t (home_of w q) i = new_granted w t q i grant high new_i in
        let b : HoldsAt w t r k = holder_facts w n t r k lawful keeps l low in
        g.above r b.within (sym home) (kept_from w t r k (job_named k _ kept_k) b.asks)
    | inr new_k ↦
        let g : Granted w t (home_of w q) i = new_granted w t q i grant high new_i in
        let d : Granted w t (home_of w r) k = new_granted w t r k grant low new_k in
        let waits : waits_at w t (home_of w r) i ≡ true = rw (← home) g.waits in
        absurd (omega (arith, order, d.first i (requester_listed w t q i (holder_facts w n t q i lawful keeps l high).asks) waits))
  ]

pub ordered : (w : Trace) (n t : ℕ) → AreLawfulJobs (jobs_of w) → KeepsBefore dpcp_rule w n → t < n → IsOrdered w t
ordered w n zero lawful keeps l q r i k high low home order =
    ordered_here w n zero q r i k lawful keeps l high low home order (λ e f. let x : None ≡ Some i = e in absurd (cc))
ordered w n (suc u) lawful keeps l q r i k high low home order =
    ordered_here w n (suc u) q r i k lawful keeps l high low home order
    (λ e f. ordered w n u lawful keeps (omega arith) q r i k e f home order)

-- A job that waits before job j.
record Before (w : Trace) (t k j : ℕ) : Type 0 where
  job : ℕ
  listed : job < length w.jobs
  waits : waits_at w t k job ≡ true
  higher : task_of w job < task_of w j

-- A job that waits is the first that waits, or another one waits before it.
first_or_before : (w : Trace) (t k j : ℕ) → waits_at w t k j ≡ true → (is_first_waiting w t k j ≡ true) ⊎ Before w t k j
unfolding is_first_waiting
first_or_before w t k j waits =
    elim (cases_Bool (all_below (length w.jobs) (λ i. not (waits_at w t k i) || nat_le (task_of w j) (task_of w i)))) [
      | inl all ↦ inl (and_from _ _ waits all)
      | inr not_all ↦
          let fails : (i : ℕ) × (i < length w.jobs) × ((not (waits_at w t k i) || nat_le (task_of w j) (task_of w i)) ≡ false) =
          all_below-fails (length w.jobs) (λ i. not (waits_at w t k i) || nat_le (task_of w j) (task_of w i)) not_all in
          let both : (waits_at w t k fails.0 ≡ true) × (task_of w fails.0 < task_of w j) =
          failing (waits_at w t k fails.0) (task_of w j) (task_of w fails.0) fails.2 in
          inr (record { job = fails.0; listed = fails.1; waits = both.0; higher = both.1 })
    ] where
      failing : (b : Bool) (m n : ℕ) → (not b || nat_le m n) ≡ false → (b ≡ true) × (n < m)
      failing true m n h = (refl, leb-false m n h)
      failing false m n h = absurd (cc)

-- If job j waits, some job is the first that waits, and it is no lower than j.
record First (w : Trace) (t k j : ℕ) : Type 0 where
  job : ℕ
  listed : job < length w.jobs
  first : is_first_waiting w t k job ≡ true
  higher : task_of w job ≤ task_of w j

first_waiting : (w : Trace) (t k x j : ℕ) → j < length w.jobs → waits_at w t k j ≡ true → task_of w j ≤ x → First w t k j
first_waiting w t k zero j l waits most = elim (first_or_before w t k j waits) [
  | inl first ↦ record { job = j; listed = l; first = first; higher = omega arith }
  | inr before ↦ absurd (omega (arith, before.higher))
]
first_waiting w t k (suc x) j l waits most = elim (first_or_before w t k j waits) [
  | inl first ↦ record { job = j; listed = l; first = first; higher = omega arith }
  | inr before ↦
      let back : First w t k before.job = first_waiting w t k x before.job before.listed before.waits (omega (arith, before.higher)) in
      record { job = back.job; listed = back.listed; first = back.first; higher = omega (arith, back.higher, before.higher) }
]

-- A job that holds the resource that it requests holds at the resource's home.
pub holds_at_home : (w : Trace) (t q y m : ℕ) → is_active w t y ≡ true → phase_of w t y ≡ Asking m q → holder_in (w.row t) q ≡ Some y
    → holds_at w t (home_of w q) y ≡ true
unfolding holds_at
holds_at_home w t q y m active request holds =
    and_from _ _ (request_at_from w t y m q active request) (holds_from (holder_in (w.row t)) y (phase_of w t y) m q request holds)

-- Job r runs at processor k in a request, and job j, of a higher task, is in a request there.
pub record LowRunner (w : Trace) (t k j r : ℕ) : Type 0 where
  pub runner : RunsRequest w t k r
  pub active : is_active w t j ≡ true
  pub number : ℕ
  pub resource : ℕ
  pub request : phase_of w t j ≡ Asking number resource
  pub home : home_of w resource ≡ k
  pub lower : task_of w j < task_of w r

-- No holder there is of a higher task than the one that runs.
pub runs_first : (w : Trace) (n t k j r q y : ℕ) → AreLawfulJobs (jobs_of w) → KeepsBefore dpcp_rule w n → t < n → LowRunner w t k j r
    → holder_in (w.row t) q ≡ Some y → home_of w q ≡ k → task_of w r ≤ task_of w y
runs_first w n t k j r q y lawful keeps l low holds home =
    let priority : KeepsPriority by_task w t = keeps t l rule.Priority in
    let requests : has_requests w t k ≡ true =
    request_among w t k j (active_listed w t j low.active)
    (rw (← low.home) (request_at_from w t j low.number low.resource low.active low.request)) in
    let first : RunsFirstHolder by_task w t k = priority.requests k requests in
    let x : Some first.runner ≡ Some r = sym first.runs ∙ low.runner.runs in
    let same : first.runner ≡ r = cc in
    let a : HoldsAt w t q y = holder_facts w n t q y lawful keeps l holds in
    let order : task_of w first.runner ≤ task_of w y =
    first.first y (active_listed w t y a.active) (rw (← home) (holds_at_home w t q y a.number a.active a.request holds)) in
    rw (← same) order

-- Job j waits there: it doesn't hold what it requests.
waits_there : (w : Trace) (n t k j r : ℕ) → AreLawfulJobs (jobs_of w) → KeepsBefore dpcp_rule w n → t < n → LowRunner w t k j r
    → waits_at w t k j ≡ true
unfolding waits_at
waits_there w n t k j r lawful keeps l low =
    and_from _ _ (rw (← low.home) (request_at_from w t j low.number low.resource low.active low.request)) (not_from_false _ free) where
      free : holds_by (held_before w t) j (phase_of w t j) ≡ false
      free = elim (cases_Bool (is_job j (held_before w t low.resource))) [
        | inr off ↦ rw low.request off
        | inl held ↦
            let keep : KeepsKeep w t = keeps t l rule.Keep in
            let holds : holder_in (w.row t) low.resource ≡ Some j =
            keep low.resource j (job_named j _ held) (requester_from w t low.resource j low.number low.active low.request) in
            absurd (omega (arith, low.lower, runs_first w n t k j r low.resource j lawful keeps l low holds low.home))
      ]

-- The first that waits waits, in a request.
first_request : (w : Trace) (t k j : ℕ) → is_first_waiting w t k j ≡ true → has_request_at w t k j ≡ true
unfolding is_first_waiting waits_at
first_request w t k j h = (and_parts _ _ (and_parts _ _ h).0).0

-- A resource that bars task x at processor k.
record Bar (w : Trace) (t k x : ℕ) : Type 0 where
  resource : ℕ
  home : home_of w resource ≡ k
  kept : is_kept w t resource ≡ true
  ceiling : ceiling_rank w resource ≤ x

not_granted_barred : (w : Trace) (t k j : ℕ) → is_first_waiting w t k j ≡ true → is_granted w t k j ≡ false
    → is_barred w t k (task_of w j) ≡ true
unfolding is_granted
not_granted_barred w t k j first off = elim (cases_Bool (is_barred w t k (task_of w j))) [
  | inl barred ↦ barred
  | inr free ↦ absurd (both_ways (is_first_waiting w t k j && not (is_barred w t k (task_of w j))) off
      (and_from _ _ first (not_from_false _ free)))
]

barred_is : (w : Trace) (t k x : ℕ) → is_barred w t k x ≡ true → Bar w t k x
unfolding is_barred
barred_is w t k x h =
    let some : (q : ℕ) × (q < length w.set.resources) × (((home_of w q == k) && (is_kept w t q && nat_le (ceiling_rank w q) x)) ≡ true) =
    any_below-some (length w.set.resources) (λ q. (home_of w q == k) && (is_kept w t q && nat_le (ceiling_rank w q) x)) h in
    let parts : ((home_of w some.0 == k) ≡ true) × ((is_kept w t some.0 && nat_le (ceiling_rank w some.0) x) ≡ true) =
    and_parts _ _ some.2 in
    let rest : (is_kept w t some.0 ≡ true) × (nat_le (ceiling_rank w some.0) x ≡ true) = and_parts _ _ parts.1 in
    record { resource = some.0; home = eqb-true _ _ parts.0; kept = rest.0; ceiling = leb-true _ _ rest.1 }

-- If the first that waits were granted, it would hold, and run in place of a lower one.
first_not_granted : (w : Trace) (n t k j r : ℕ) → AreLawfulJobs (jobs_of w) → KeepsBefore dpcp_rule w n → t < n → LowRunner w t k j r
    → (first : First w t k j) → is_granted w t k first.job ≡ true → ⊥
first_not_granted w n t k j r lawful keeps l low first granted =
    let at : (m : ℕ) × (q : ℕ) × (is_active w t first.job ≡ true) × (phase_of w t first.job ≡ Asking m q) × (home_of w q ≡ k) =
    request_at_is w t k first.job (first_request w t k first.job first.first) in
    let grant : KeepsGrant w t = keeps t l rule.Grant in
    let here : is_granted w t (home_of w at.1) first.job ≡ true = rw at.4 granted in
    let holds : holder_in (w.row t) at.1 ≡ Some first.job =
    grant.granted at.1 first.job first.listed (requester_from w t at.1 first.job at.0 at.2 at.3) here in
    omega (arith, low.lower, first.higher, runs_first w n t k j r at.1 first.job lawful keeps l low holds at.4)

-- The resource that bars the first that waits is the one whose request runs.
bar_is_runner : (w : Trace) (n t k j r x : ℕ) → AreLawfulJobs (jobs_of w) → KeepsBefore dpcp_rule w n → t < n
    → (low : LowRunner w t k j r) → x ≤ task_of w j → Bar w t k x → ceiling_rank w low.runner.resource ≤ task_of w j
bar_is_runner w n t k j r x lawful keeps l low most bar = elim (cases_lt (task_of w r) (task_of w y)) [
  | inl less ↦
      let above : task_of w r < ceiling_rank w bar.resource =
      ordered w n t lawful keeps l low.runner.resource bar.resource r y low.runner.holder holds (low.runner.home ∙ sym bar.home) less in
      absurd (omega (arith, above, bar.ceiling, low.lower))
  | inr same ↦
      let one : r ≡ y = one_active w t r y low.runner.active a.active
      (omega (arith, runs_first w n t k j r bar.resource y lawful keeps l low holds bar.home)) in
      let phases : Asking low.runner.number low.runner.resource ≡ Asking a.number bar.resource =
      sym low.runner.request ∙ ap (phase_of w t) one ∙ a.request in
      let resource : low.runner.resource ≡ bar.resource = cc in
      let ceilings : ceiling_rank w low.runner.resource ≡ ceiling_rank w bar.resource = ap (ceiling_rank w) resource in
      omega (arith, ceilings, bar.ceiling)
] where
  keeper : (y : ℕ) × (held_before w t bar.resource ≡ Some y) × (is_requester w t bar.resource y ≡ true)
  keeper = kept_is w t bar.resource bar.kept

  y : ℕ
  y = keeper.0

  holds : holder_in (w.row t) bar.resource ≡ Some y
  holds = let keep : KeepsKeep w t = keeps t l rule.Keep in keep bar.resource y keeper.1 keeper.2

  a : HoldsAt w t bar.resource y
  a = holder_facts w n t bar.resource y lawful keeps l holds

-- So the ceiling of the resource whose request runs is no lower than j.
pub low_ceiling : (w : Trace) (n t k j r : ℕ) → AreLawfulJobs (jobs_of w) → KeepsBefore dpcp_rule w n → t < n
    → (low : LowRunner w t k j r) → ceiling_rank w low.runner.resource ≤ task_of w j
low_ceiling w n t k j r lawful keeps l low = elim (cases_Bool (is_granted w t k first.job)) [
  | inl granted ↦ absurd (first_not_granted w n t k j r lawful keeps l low first granted)
  | inr off ↦ bar_is_runner w n t k j r (task_of w first.job) lawful keeps l low first.higher
      (barred_is w t k (task_of w first.job) (not_granted_barred w t k first.job first.first off))
] where
  first : First w t k j
  first = first_waiting w t k (task_of w j) j (active_listed w t j low.active) (waits_there w n t k j r lawful keeps l low) (omega arith)
