-- Under DPCP a lawful row stays as lawful through a steady stretch: the first request that waits at a processor is granted at
-- the stretch's first tick, or something kept there bars it; so what waits from then on is barred by what is held.
use Rattle.std.proofs.Common.{◌≡◌, ℕ, zero, suc, ◌+◌, ◌<◌, ◌≤◌, ◌==◌, ◌&&◌, ◌||◌, not, Bool, true, false, length, refl}
use Rattle.std.proofs.Common.{sym, ap, ◌∙◌, subst, arith, inl, inr, Option, Some, None, nat_le, unwrap_or}
use Rattle.std.specs.Option.{option_map_or}
use Rattle.std.proofs.lemmas.Bool.{cases_lt, cases_Bool, both_ways, and_parts, and_from, eq-eqb, eqb-true, le-leb}
use Rattle.std.proofs.lemmas.Bool.{leb-true, ltb-true, not-true, not_from_false, false_from_ne_true}
use Rattle.number_laws.specs.Tests.{all_below, any_below}
use Rattle.number_laws.proofs.TestLaws.{all_below-from, any_below-from, any_below-some, any_below-agree}
use Rattle.sporadic_model.specs.SetDef.{SetDef}
use Rattle.sporadic_model.specs.Homes.{EachHasHome}
use Rattle.sporadic_model.specs.Users.{count_of, is_user, ceiling_of}
use Rattle.sporadic_model.specs.Accepted.{IsHighestUser, HasNoUser}
use Rattle.sporadic_model.proofs.Laws.{highest_user, no_user}
use Rattle.schedule_model.specs.declared.rule.Rule.TheVariants as rule
use Rattle.schedule_model.specs.JobDef.{job_of}
use Rattle.schedule_model.specs.LawfulJobs.{AreLawfulJobs, IsLawfulJob}
use Rattle.schedule_model.specs.RowDef.{Trace, jobs_of, is_job, running_on, holder_in, held_before}
use Rattle.schedule_model.specs.Phase.{Phase, is_local, is_asking, phase_of}
use Rattle.schedule_model.specs.Phase.Phase.{Local, Asking, Finished}
use Rattle.schedule_model.specs.Activity.{task_of, is_active, is_requester, holds_by}
use Rattle.schedule_model.specs.BlockedTicks.{is_dpcp_interference}
use Rattle.schedule_model.specs.SharedRules.{KeepsKeep}
use Rattle.schedule_model.specs.DpcpRules.{home_of, ceiling_rank, is_at, has_request_at, has_requests, holds_at}
use Rattle.schedule_model.specs.DpcpRules.{is_kept, waits_at, is_first_waiting, is_barred, is_granted, KeepsRun}
use Rattle.schedule_model.specs.DpcpRules.{KeepsGrant, KeepsIdle, RunsFirstHolder, KeepsPriority}
use Rattle.schedule_model.specs.Ranks.{by_task}
use Rattle.schedule_model.specs.Protocols.{dpcp_rule}
use Rattle.schedule_model.specs.Keeping.{KeepsRow}
use Rattle.schedule_model.specs.Chosen.{IsDpcpChoice}
use Rattle.schedule_laws.proofs.ActiveJobs.{Requester, requester_is, requester_from, requester_listed}
use Rattle.schedule_laws.proofs.Rows.{job_named, named_job}
use Rattle.schedule_laws.proofs.Segments.{open_resource, open_user}
use Rattle.schedule_laws.specs.Steady.{IsAsLawful, StaysLawful}
use Rattle.schedule_laws.proofs.Alike.{IsAlike, alike_through, active_alike, requester_alike, active_local_alike}
use Rattle.schedule_laws.proofs.Alike.{running_alike, holder_alike, dpcp_blocked_alike}
use Rattle.schedule_laws.proofs.SharedStretches.{keep_again, sized_again}

-- At a tick that is alike the same requests are at each processor, and hold there.
pub request_at_alike : (w : Trace) (t u k j : ℕ) → IsAlike w t u → has_request_at w u k j ≡ has_request_at w t k j
unfolding has_request_at
request_at_alike w t u k j a = rw (active_alike w t u j a, a.phase j) refl

pub has_requests_alike : (w : Trace) (t u k : ℕ) → IsAlike w t u → has_requests w u k ≡ has_requests w t k
unfolding has_requests
has_requests_alike w t u k a =
    any_below-agree (length w.jobs) (has_request_at w u k) (has_request_at w t k) (λ j l. request_at_alike w t u k j a)

pub holds_at_alike : (w : Trace) (t u k j : ℕ) → IsAlike w t u → holds_at w u k j ≡ holds_at w t k j
unfolding holds_at
holds_at_alike w t u k j a = rw (request_at_alike w t u k j a, a.phase j, a.row) refl

-- The user of a resource is no higher than its ceiling.
pub ceiling_low : (set : SetDef) (q x : ℕ) → is_user set q x ≡ true → x < length set.tasks
    → unwrap_or (ceiling_of set q) (length set.tasks) ≤ x
ceiling_low set q x user l = go (ceiling_of set q) refl where
  some : 0 < count_of set x q
  some = ltb-true 0 (count_of set x q) user

  go : (o : Option ℕ) → ceiling_of set q ≡ o → unwrap_or (ceiling_of set q) (length set.tasks) ≤ x
  go None e = let none : HasNoUser set q = no_user set q e in absurd (omega (arith, none x l, some))
  go (Some c) e =
      let highest : IsHighestUser set q c = highest_user set q c e in
      elim (cases_lt x c) [
        | inl above ↦ absurd (omega (arith, highest.highest x above, some))
        | inr low ↦ omega (arith, low, ap (λ o. unwrap_or o (length set.tasks)) e)
      ]

-- Of the numbers below n that pass a test, one with the least key.
record Least (n : ℕ) (p : ℕ → Bool) (key : ℕ → ℕ) : Type 0 where
  place : ℕ
  within : place < n
  passes : p place ≡ true
  least : (i : ℕ) → i < n → p i ≡ true → key place ≤ key i

least_more : (n : ℕ) (p : ℕ → Bool) (key : ℕ → ℕ) → p n ≡ true → Least n p key → Least (suc n) p key
least_more n p key here old = elim (cases_lt (key n) (key old.place)) [
  | inl lower ↦ record { place = n; within = omega arith; passes = here; least = λ i l h. all i l h lower }
  | inr most ↦ record { place = old.place; within = omega (arith, old.within); passes = old.passes; least = λ i l h. among i l h most }
] where
  all : (i : ℕ) → i < suc n → p i ≡ true → key n < key old.place → key n ≤ key i
  all i l h lower = elim (cases_lt i n) [
    | inl before ↦ omega (arith, old.least i before h, lower)
    | inr end ↦ let same : i ≡ n = omega (arith, l, end) in rw same (omega arith)
  ]

  among : (i : ℕ) → i < suc n → p i ≡ true → key old.place ≤ key n → key old.place ≤ key i
  among i l h most = elim (cases_lt i n) [
    | inl before ↦ old.least i before h
    | inr end ↦ let same : i ≡ n = omega (arith, l, end) in rw same most
  ]

least_of : (n : ℕ) (p : ℕ → Bool) (key : ℕ → ℕ) (j : ℕ) → j < n → p j ≡ true → Least n p key
least_of zero p key j l h = absurd (omega (arith, l))
least_of (suc n) p key j l h = elim (cases_Bool (any_below n p)) [
  | inl some ↦
      let one : (k : ℕ) × (k < n) × (p k ≡ true) = any_below-some n p some in
      let old : Least n p key = least_of n p key one.0 one.1 one.2 in
      elim (cases_Bool (p n)) [
        | inl here ↦ least_more n p key here old
        | inr fails ↦ record {
          place = old.place;
          within = omega (arith, old.within);
          passes = old.passes;
          least = λ i b g. before i b g old fails;
        }
      ]
  | inr none ↦ record { place = n; within = omega arith; passes = last none; least = λ i b g. only i b g none }
] where
  before : (i : ℕ) → i < suc n → p i ≡ true → (old : Least n p key) → p n ≡ false → key old.place ≤ key i
  before i b g old fails = elim (cases_lt i n) [
    | inl earlier ↦ old.least i earlier g
    | inr end ↦ let same : i ≡ n = omega (arith, b, end) in absurd (both_ways (p n) fails (rw (← same) g))
  ]

  at_end : any_below n p ≡ false → (i : ℕ) → i < suc n → p i ≡ true → i ≡ n
  at_end none i b g = elim (cases_lt i n) [
    | inl earlier ↦ absurd (both_ways (any_below n p) none (any_below-from n p i earlier g))
    | inr end ↦ omega (arith, b, end)
  ]

  last : any_below n p ≡ false → p n ≡ true
  last none = let same : j ≡ n = at_end none j l h in rw (← same) h

  only : (i : ℕ) → i < suc n → p i ≡ true → any_below n p ≡ false → key n ≤ key i
  only i b g none = let same : i ≡ n = at_end none i b g in rw same (omega arith)

-- Something that is kept at a processor, and no lower than a task.
record Bars (w : Trace) (t k x : ℕ) : Type 0 where
  resource : ℕ
  within : resource < length w.set.resources
  home : home_of w resource ≡ k
  kept : is_kept w t resource ≡ true
  ceiling : ceiling_rank w resource ≤ x

bars_of : (w : Trace) (t k x : ℕ) → is_barred w t k x ≡ true → Bars w t k x
unfolding is_barred
bars_of w t k x h =
    let one : (q : ℕ) × (q < length w.set.resources) × (((home_of w q == k) && (is_kept w t q && nat_le (ceiling_rank w q) x)) ≡ true) =
    any_below-some (length w.set.resources) (λ q. (home_of w q == k) && (is_kept w t q && nat_le (ceiling_rank w q) x)) h in
    let parts : ((home_of w one.0 == k) ≡ true) × ((is_kept w t one.0 && nat_le (ceiling_rank w one.0) x) ≡ true) =
    and_parts (home_of w one.0 == k) (is_kept w t one.0 && nat_le (ceiling_rank w one.0) x) one.2 in
    let both : (is_kept w t one.0 ≡ true) × (nat_le (ceiling_rank w one.0) x ≡ true) =
    and_parts (is_kept w t one.0) (nat_le (ceiling_rank w one.0) x) parts.1 in
    record {
      resource = one.0;
      within = one.1;
      home = eqb-true (home_of w one.0) k parts.0;
      kept = both.0;
      ceiling = leb-true (ceiling_rank w one.0) x both.1;
    }

barred_by : (w : Trace) (t k x : ℕ) → Bars w t k x → is_barred w t k x ≡ true
unfolding is_barred
barred_by w t k x bar =
    any_below-from (length w.set.resources) (λ q. (home_of w q == k) && (is_kept w t q && nat_le (ceiling_rank w q) x))
    bar.resource bar.within
    (and_from (home_of w bar.resource == k) (is_kept w t bar.resource && nat_le (ceiling_rank w bar.resource) x)
    (eq-eqb (home_of w bar.resource) k bar.home)
    (and_from (is_kept w t bar.resource) (nat_le (ceiling_rank w bar.resource) x) bar.kept
    (le-leb (ceiling_rank w bar.resource) x bar.ceiling)))

-- What is held at the first tick is kept at a tick that is alike.
kept_of_held : (w : Trace) (t u q y : ℕ) → IsAlike w t u → holder_in (w.row t) q ≡ Some y → is_requester w t q y ≡ true
    → is_kept w u q ≡ true
unfolding is_kept
kept_of_held w t u q y a e asks =
    ap (λ o. option_map_or (λ j. is_requester w u q j) o false) (a.held q ∙ e) ∙ requester_alike w t u q y a ∙ asks

-- So is what was kept at the first.
kept_again : (w : Trace) (t u q : ℕ) → IsAlike w t u → KeepsKeep w t → is_kept w t q ≡ true → is_kept w u q ≡ true
unfolding is_kept
kept_again w t u q a keep h = go (held_before w t q) refl h where
  go : (o : Option ℕ) → held_before w t q ≡ o → option_map_or (λ j. is_requester w t q j) o false ≡ true → is_kept w u q ≡ true
  go None e g = absurd (cc)
  go (Some y) e g = kept_of_held w t u q y a (keep q y e g) g

-- What a request at a processor is.
pub record RequestAt (w : Trace) (t k j : ℕ) : Type 0 where
  pub active : is_active w t j ≡ true
  pub number : ℕ
  pub resource : ℕ
  pub phase : phase_of w t j ≡ Asking number resource
  pub home : home_of w resource ≡ k

pub request_at_is : (w : Trace) (t k j : ℕ) → has_request_at w t k j ≡ true → RequestAt w t k j
unfolding has_request_at
request_at_is w t k j h = go (phase_of w t j) refl where
  parts : (is_active w t j ≡ true) × (is_at w k (phase_of w t j) ≡ true)
  parts = and_parts (is_active w t j) (is_at w k (phase_of w t j)) h

  go : (p : Phase) → phase_of w t j ≡ p → RequestAt w t k j
  go Local e = let x : false ≡ true = sym (ap (is_at w k) e) ∙ parts.1 in absurd (cc)
  go Finished e = let x : false ≡ true = sym (ap (is_at w k) e) ∙ parts.1 in absurd (cc)
  go (Asking m q) e = record {
    active = parts.0;
    number = m;
    resource = q;
    phase = e;
    home = eqb-true (home_of w q) k (sym (ap (is_at w k) e) ∙ parts.1);
  }

request_at_from : (w : Trace) (t q j : ℕ) → is_requester w t q j ≡ true → has_request_at w t (home_of w q) j ≡ true
unfolding has_request_at
request_at_from w t q j asks =
    let r : Requester w t q j = requester_is w t q j asks in
    and_from (is_active w t j) (is_at w (home_of w q) (phase_of w t j)) r.active
    (ap (is_at w (home_of w q)) r.phase ∙ eq-eqb (home_of w q) (home_of w q) refl)

-- A requester that doesn't hold at a row that keeps Keep waits there.
waits_there : (w : Trace) (t q j : ℕ) → KeepsKeep w t → is_requester w t q j ≡ true
    → (holder_in (w.row t) q ≡ Some j → ⊥) → waits_at w t (home_of w q) j ≡ true
unfolding waits_at
waits_there w t q j keep asks free =
    and_from (has_request_at w t (home_of w q) j) (not (holds_by (held_before w t) j (phase_of w t j))) (request_at_from w t q j asks)
    (not_from_false (holds_by (held_before w t) j (phase_of w t j)) (ap (holds_by (held_before w t) j) r.phase ∙ fresh)) where
      r : Requester w t q j
      r = requester_is w t q j asks

      fresh : is_job j (held_before w t q) ≡ false
      fresh = false_from_ne_true (is_job j (held_before w t q)) (λ h. free (keep q j (job_named j (held_before w t q) h) asks))

-- A resource that a lawful job requests is one of the set, and its ceiling is no lower than the job's task.
record Asked (w : Trace) (q j : ℕ) : Type 0 where
  within : q < length w.set.resources
  ceiling : ceiling_rank w q ≤ task_of w j

asked_of : (w : Trace) (t q j : ℕ) → AreLawfulJobs (jobs_of w) → is_requester w t q j ≡ true → Asked w q j
asked_of w t q j lawful asks =
    let r : Requester w t q j = requester_is w t q j asks in
    let job : IsLawfulJob w.set (job_of w.jobs j) = lawful.each j (requester_listed w t q j asks) in
    record {
      within = open_resource w.set w t j r.number q job r.phase;
      ceiling = ceiling_low w.set q (task_of w j) (open_user w.set w t j r.number q job r.phase) job.task;
    }

-- The first that waits at the first tick: it is barred there by something kept, or it is granted; both bar what waits later.
bars_later : (w : Trace) (t u k : ℕ) → AreLawfulJobs (jobs_of w) → IsAlike w t u → KeepsKeep w t → KeepsGrant w t
    → (one : Least (length w.jobs) (waits_at w t k) (task_of w)) → Bars w u k (task_of w one.place)
unfolding is_granted is_first_waiting waits_at
bars_later w t u k lawful a keep grant one = elim (cases_Bool (is_barred w t k (task_of w one.place))) [
  | inl barred ↦
      let bar : Bars w t k (task_of w one.place) = bars_of w t k (task_of w one.place) barred in
      record {
        resource = bar.resource;
        within = bar.within;
        home = bar.home;
        kept = kept_again w t u bar.resource a keep bar.kept;
        ceiling = bar.ceiling;
      }
  | inr free ↦
      let known : Asked w r.resource one.place = asked_of w t r.resource one.place lawful asks in
      record {
        resource = r.resource;
        within = known.within;
        home = r.home;
        kept = kept_of_held w t u r.resource one.place a (taken free) asks;
        ceiling = known.ceiling;
      }
] where
  r : RequestAt w t k one.place
  r = request_at_is w t k one.place (and_parts (has_request_at w t k one.place)
      (not (holds_by (held_before w t) one.place (phase_of w t one.place))) one.passes).0

  asks : is_requester w t r.resource one.place ≡ true
  asks = requester_from w t r.resource one.place r.number r.active r.phase

  passes : (i : ℕ) → i < length w.jobs → (not (waits_at w t k i) || nat_le (task_of w one.place) (task_of w i)) ≡ true
  passes i l = elim (cases_Bool (waits_at w t k i)) [
    | inl waits ↦ let low : nat_le (task_of w one.place) (task_of w i) ≡ true =
        le-leb (task_of w one.place) (task_of w i) (one.least i l waits) in
        rw (waits, low) refl
    | inr idle ↦ rw idle refl
  ]

  taken : is_barred w t k (task_of w one.place) ≡ false → holder_in (w.row t) r.resource ≡ Some one.place
  taken free =
      let granted : is_granted w t k one.place ≡ true =
      and_from
      (waits_at w t k one.place
      && all_below (length w.jobs) (λ i. not (waits_at w t k i) || nat_le (task_of w one.place) (task_of w i)))
      (not (is_barred w t k (task_of w one.place)))
      (and_from (waits_at w t k one.place)
      (all_below (length w.jobs) (λ i. not (waits_at w t k i) || nat_le (task_of w one.place) (task_of w i))) one.passes
      (all_below-from (length w.jobs) (λ i. not (waits_at w t k i) || nat_le (task_of w one.place) (task_of w i)) passes))
      (not_from_false (is_barred w t k (task_of w one.place)) free) in
      let there : is_granted w t (home_of w r.resource) one.place ≡ true = ap (λ h. is_granted w t h one.place) r.home ∙ granted in
      grant.granted r.resource one.place one.within asks there

-- So no request that is granted at a later tick waits there.
never_granted : (w : Trace) (t u q j : ℕ) → AreLawfulJobs (jobs_of w) → IsAlike w t u → KeepsKeep w t → KeepsGrant w t
    → is_requester w t q j ≡ true
    → (holder_in (w.row t) q ≡ Some j → ⊥) → is_granted w u (home_of w q) j ≡ true → ⊥
unfolding is_granted
never_granted w t u q j lawful a keep grant asks free granted =
    let waits : waits_at w t (home_of w q) j ≡ true = waits_there w t q j keep asks free in
    let listed : j < length w.jobs = requester_listed w t q j asks in
    let one : Least (length w.jobs) (waits_at w t (home_of w q)) (task_of w) =
    least_of (length w.jobs) (waits_at w t (home_of w q)) (task_of w) j listed waits in
    let bar : Bars w u (home_of w q) (task_of w one.place) = bars_later w t u (home_of w q) lawful a keep grant one in
    let barred : is_barred w u (home_of w q) (task_of w j) ≡ true =
    barred_by w u (home_of w q) (task_of w j)
    (record {
      resource = bar.resource;
      within = bar.within;
      home = bar.home;
      kept = bar.kept;
      ceiling = omega (arith, bar.ceiling, one.least j listed waits);
    }) in
    let free_of_bars : is_barred w u (home_of w q) (task_of w j) ≡ false =
    not-true (is_barred w u (home_of w q) (task_of w j))
    (and_parts (is_first_waiting w u (home_of w q) j) (not (is_barred w u (home_of w q) (task_of w j))) granted).1 in
    both_ways (is_barred w u (home_of w q) (task_of w j)) free_of_bars barred

-- Each rule.
pub run_again : (w : Trace) (t u : ℕ) → IsAlike w t u → KeepsRun w t → KeepsRun w u
run_again w t u a run = record {
  active = λ k j e. active_alike w t u j a ∙ run.active k j (sym (running_alike w t u k a) ∙ e);
  local = λ k j e h. run.local k j (sym (running_alike w t u k a) ∙ e) (sym (ap is_local (a.phase j)) ∙ h);
  request = λ k j q e h. request k j q e h;
} where
  request : (k j q : ℕ) → running_on (w.row u) k ≡ Some j → is_asking q (phase_of w u j) ≡ true
      → (k ≡ home_of w q) × (holder_in (w.row u) q ≡ Some j)
  request k j q e h =
      let both : (k ≡ home_of w q) × (holder_in (w.row t) q ≡ Some j) =
      run.request k j q (sym (running_alike w t u k a) ∙ e) (sym (ap (is_asking q) (a.phase j)) ∙ h) in
      (both.0, holder_alike w t u q a ∙ both.1)

grant_again : (w : Trace) (t u : ℕ) → AreLawfulJobs (jobs_of w) → IsAlike w t u → KeepsKeep w t → KeepsGrant w t → KeepsGrant w u
grant_again w t u lawful a keep grant = record {
  requests = λ q j e. requester_alike w t u q j a ∙ grant.requests q j (sym (holder_alike w t u q a) ∙ e);
  new = λ q j e new. absurd (new (a.held q ∙ sym (holder_alike w t u q a) ∙ e));
  granted = λ q j l asks g. granted q j asks g;
} where
  granted : (q j : ℕ) → is_requester w u q j ≡ true → is_granted w u (home_of w q) j ≡ true → holder_in (w.row u) q ≡ Some j
  granted q j asks g = elim (cases_Bool (is_job j (holder_in (w.row t) q))) [
    | inl held ↦ holder_alike w t u q a ∙ job_named j (holder_in (w.row t) q) held
    | inr other ↦
        absurd (never_granted w t u q j lawful a keep grant (sym (requester_alike w t u q j a) ∙ asks)
        (λ e. both_ways (is_job j (holder_in (w.row t) q)) other (named_job j (holder_in (w.row t) q) e)) g)
  ]

pub idle_again : (w : Trace) (t u : ℕ) → IsAlike w t u → KeepsIdle w t → KeepsIdle w u
idle_again w t u a idle = record {
  requests = λ k e. has_requests_alike w t u k a ∙ idle.requests k (sym (running_alike w t u k a) ∙ e);
  locals = λ k e i b c. active_local_alike w t u i a ∙ idle.locals k (sym (running_alike w t u k a) ∙ e) i b c;
}

-- Does an order go on by the same number of a job that holds at a processor?
abbrev pub HoldsAlike : (Trace → ℕ → ℕ → ℕ) → Trace → ℕ → ℕ → Type 0
HoldsAlike rank w t u = (k j : ℕ) → holds_at w t k j ≡ true → rank w u j ≡ rank w t j

first_holder_again : (rank : Trace → ℕ → ℕ → ℕ) (w : Trace) (t u k : ℕ) → IsAlike w t u → HoldsAlike rank w t u
    → RunsFirstHolder rank w t k → RunsFirstHolder rank w u k
first_holder_again rank w t u k a ranks f = record {
  runner = f.runner;
  runs = running_alike w t u k a ∙ f.runs;
  holds = holds_at_alike w t u k f.runner a ∙ f.holds;
  first = λ i b h. first i b h;
} where
  first : (i : ℕ) → i < length w.jobs → holds_at w u k i ≡ true → rank w u f.runner ≤ rank w u i
  first i b h =
      let old : holds_at w t k i ≡ true = sym (holds_at_alike w t u k i a) ∙ h in
      omega (arith, f.first i b old, ranks k f.runner f.holds, ranks k i old)

pub priority_again : (rank : Trace → ℕ → ℕ → ℕ) (w : Trace) (t u : ℕ) → IsAlike w t u → HoldsAlike rank w t u
    → KeepsPriority rank w t → KeepsPriority rank w u
priority_again rank w t u a ranks priority = record {
  requests = λ k h. first_holder_again rank w t u k a ranks (priority.requests k (sym (has_requests_alike w t u k a) ∙ h));
  locals = λ k r e none i b c h. priority.locals k r (sym (running_alike w t u k a) ∙ e)
      (sym (has_requests_alike w t u k a) ∙ none) i b c (sym (active_local_alike w t u i a) ∙ h);
}

row_again : (w : Trace) (t u : ℕ) → AreLawfulJobs (jobs_of w) → IsAlike w t u → KeepsRow dpcp_rule w t → KeepsRow dpcp_rule w u
row_again w t u lawful a keeps rule.Run = run_again w t u a (keeps rule.Run)
row_again w t u lawful a keeps rule.Keep = keep_again w t u a
row_again w t u lawful a keeps rule.Grant = grant_again w t u lawful a (keeps rule.Keep) (keeps rule.Grant)
row_again w t u lawful a keeps rule.Idle = idle_again w t u a (keeps rule.Idle)
row_again w t u lawful a keeps rule.Priority = priority_again by_task w t u a (λ k j h. refl) (keeps rule.Priority)

choice_again : (w : Trace) (t u : ℕ) → AreLawfulJobs (jobs_of w) → IsAlike w t u → IsDpcpChoice w t → IsDpcpChoice w u
choice_again w t u lawful a chosen = record { sized = sized_again w t u a chosen.sized; keeps = row_again w t u lawful a chosen.keeps }

pub dpcp_stays_lawful : StaysLawful EachHasHome dpcp_rule IsDpcpChoice is_dpcp_interference
dpcp_stays_lawful w t n suits lawful steady keeps i l = elim (cases_lt 0 i) [
  | inl some ↦
      let a : IsAlike w t (t + i) = alike_through w t n i steady some l in
      record {
        lawful = row_again w t (t + i) lawful a keeps;
        blocked = λ j. dpcp_blocked_alike w t (t + i) j a;
        chosen = λ chosen. choice_again w t (t + i) lawful a chosen;
      }
  | inr none ↦
      let here : t ≡ t + i = omega (arith, none) in
      subst (λ u. IsAsLawful dpcp_rule IsDpcpChoice is_dpcp_interference w t u) here
      (record { lawful = keeps; blocked = λ j. refl; chosen = λ chosen. chosen })
]
