-- How many of its requests that are shared out a job was granted up to a tick. Where none is granted between two ticks the job waits at
-- none of them before one at which it is ready.
use Rattle.std.proofs.Common.{◌≡◌, ℕ, zero, suc, ◌<◌, ◌≤◌, ◌&&◌, Bool, true, false, length, get_or, refl, sym, ap, ◌∙◌}
use Rattle.std.proofs.Common.{arith, inl, inr, Some}
use Rattle.std.proofs.lemmas.Bool.{cases_lt, cases_Bool, both_ways, and_parts, and_from, eq-eqb}
use Rattle.number_laws.specs.Sums.{flag}
use Rattle.number_laws.specs.Tests.{count_below, any_below}
use Rattle.number_laws.proofs.TestLaws.{any_below-from, any_below-some}
use Rattle.number_laws.proofs.CountLaws.{count_below-monotone}
use Rattle.schedule_model.specs.declared.rule.Rule.TheVariants as rule
use Rattle.schedule_model.specs.JobDef.{job_of, no_segment}
use Rattle.schedule_model.specs.LawfulJobs.{AreLawfulJobs}
use Rattle.schedule_model.specs.RowDef.{Trace, jobs_of, running_on, holder_in}
use Rattle.schedule_model.specs.Phase.{Phase, is_same_request, is_finished, executed, phase_of}
use Rattle.schedule_model.specs.Phase.Phase.{Local, Asking, Finished}
use Rattle.schedule_model.specs.Activity.{task_of, is_active, is_ready}
use Rattle.schedule_model.specs.SharedRules.{Ranks}
use Rattle.schedule_model.specs.Protocols.{shared_rule}
use Rattle.schedule_model.specs.Keeping.{KeepsBefore}
use Rattle.schedule_laws.proofs.ActiveJobs.{active_local_from}
use Rattle.schedule_laws.proofs.Holders.{shared_holder_stays}
use Rattle.schedule_laws.proofs.Rows.{runs_where, ReadyHolder, ready_holder_is, ready_holder_from, ready_is, ready_local, ready_holding}
use Rattle.schedule_laws.proofs.Rows.{ready_active}
use Rattle.schedule_laws.proofs.ActiveJobs.{ActiveLocal, active_local_is}
use Rattle.schedule_laws.proofs.Segments.{RequestAt, open_segment, asks_some}
use Rattle.schedule_laws.proofs.Ticks.{RunTick, run_tick, executed_up, phase_same, same_true, one_resource}
use Rattle.row_laws.proofs.Intervals.{unfinished_between}
use Rattle.row_laws.proofs.Numbers.{asks_passing}
use Rattle.closer_laws.specs.CloserRows.{is_shared_out}
use Rattle.closer_laws.proofs.Waits.{shared_where_waiting}

-- Is job j ready at tick t, in its request number m?
abbrev pub is_served : Trace → ℕ → ℕ → ℕ → Bool
is_served w j m t = is_same_request (phase_of w t j) (Asking m 0) && is_ready w t j

-- Is the segment's request one that is shared out, and was it granted up to tick t?
abbrev pub is_granted : Trace → ℕ → ℕ → ℕ → Bool
is_granted w j t m =
    asks_passing (is_shared_out w.set (task_of w j)) (get_or (job_of w.jobs j).script m no_segment) && any_below (suc t) (is_served w j m)

-- How many requests were granted.
abbrev pub granted : Trace → ℕ → ℕ → ℕ
granted w j t = count_below (length (job_of w.jobs j).script) (is_granted w j t)

-- Of two tests one of which passes where the other does, and once more, one counts more.
pub count_more : (n k : ℕ) (p q : ℕ → Bool) → ((i : ℕ) → i < n → p i ≡ true → q i ≡ true) → k < n → p k ≡ false → q k ≡ true
    → count_below n p < count_below n q
count_more zero k p q up l fails passes = absurd (omega arith)
count_more (suc n) k p q up l fails passes = elim (cases_lt k n) [
  | inl before ↦
      let first : count_below n p < count_below n q = count_more n k p q (λ i b. up i (omega arith)) before fails passes in
      omega (arith, first, flags)
  | inr here ↦
      let e : k ≡ n = omega arith in
      let none : p n ≡ false = ap p (sym e) ∙ fails in
      let one : q n ≡ true = ap q (sym e) ∙ passes in
      let first : count_below n p ≤ count_below n q = count_below-monotone n p q (λ i b. up i (omega arith)) in
      rw (none, one) (omega (arith, first))
] where
  flags : flag (p n) ≤ flag (q n)
  flags = elim (cases_Bool (p n)) [
    | inr none ↦ rw none (omega arith)
    | inl one ↦ rw (one, up n (omega arith) one) (omega arith)
  ]

-- What was granted up to a tick was granted up to a later one.
granted_up : (w : Trace) (j u t m : ℕ) → u ≤ t → is_granted w j u m ≡ true → is_granted w j t m ≡ true
granted_up w j u t m l h =
    let both : _ × (any_below (suc u) (is_served w j m) ≡ true) = and_parts _ _ h in
    let at : (k : ℕ) × (k < suc u) × (is_served w j m k ≡ true) = any_below-some (suc u) (is_served w j m) both.1 in
    and_from _ _ both.0 (any_below-from (suc t) (is_served w j m) at.0 (omega (arith, at.1)) at.2)

pub granted_rise : (w : Trace) (j u t : ℕ) → u ≤ t → granted w j u ≤ granted w j t
granted_rise w j u t l = count_below-monotone (length (job_of w.jobs j).script) (is_granted w j u) (is_granted w j t)
    (λ m b h. granted_up w j u t m l h)

-- Job j, in a request at t, has left it by v: at some tick in between it ran in it.
pub served_between : (o : Ranks) (w : Trace) (n t v j m q : ℕ) → KeepsBefore (shared_rule o) w n → t ≤ v → v < n
    → phase_of w t j ≡ Asking m q → is_ready w v j ≡ true
    → (k : ℕ) × (t ≤ k) × (k ≤ v) × (phase_of w k j ≡ Asking m q) × (is_ready w k j ≡ true)
served_between o w n t v j m q keeps order l asks ready = elim (cases_lt (executed w t j) (executed w v j)) [
  | inr none ↦
      let same : executed w t j ≡ executed w v j = omega (arith, executed_up w t v j order) in
      (v, order, omega arith, sym (phase_same w t v j same) ∙ asks, ready)
  | inl more ↦
      let r : RunTick w t v (executed w t j) j = run_tick w t v (executed w t j) j (omega arith) more in
      let at : (k : ℕ) × (running_on (w.row r.tick) k ≡ Some j) = runs_where (w.row r.tick) j r.runs in (
        r.tick,
        r.from,
        omega (arith, r.before),
        phase_same w r.tick t j r.done ∙ asks,
        (keeps r.tick (omega (arith, r.before)) rule.Run).ready at.0 j at.1,
      )
]

-- A request that was granted by u is held while it is open.
granted_holds : (o : Ranks) (w : Trace) (n u t j m q : ℕ) → KeepsBefore (shared_rule o) w n → u ≤ t → t < n → is_active w t j ≡ true
    → phase_of w t j ≡ Asking m q → any_below (suc u) (is_served w j m) ≡ true → is_ready w t j ≡ true
granted_holds o w n u t j m q keeps order l active asks served =
    let at : (k : ℕ) × (k < suc u) × (is_served w j m k ≡ true) = any_below-some (suc u) (is_served w j m) served in
    let both : (is_same_request (phase_of w at.0 j) (Asking m 0) ≡ true) × (is_ready w at.0 j ≡ true) = and_parts _ _ at.2 in
    let some : (r : ℕ) × (phase_of w at.0 j ≡ Asking m r) = same_true (phase_of w at.0 j) m 0 both.0 in
    elim (ready_is w at.0 j both.1) [
      | inl local ↦ let a : ActiveLocal w at.0 j = active_local_is w at.0 j local in
          let x : Local ≡ Asking m some.0 = sym a.phase ∙ some.1 in
          absurd (cc)
      | inr holds ↦
          let h : ReadyHolder w at.0 j = ready_holder_is w at.0 j holds in
          let x : Asking h.number h.resource ≡ Asking m some.0 = sym h.phase ∙ some.1 in
          let own : h.resource ≡ some.0 = cc in
          let one : some.0 ≡ q = one_resource w at.0 t j m some.0 q some.1 asks in
          let held : holder_in (w.row at.0) q ≡ Some j = ap (holder_in (w.row at.0)) (sym (own ∙ one)) ∙ h.holds in
          ready_holding w t j (ready_holder_from w t j m q active asks
          (shared_holder_stays o w n at.0 t q j m some.0 keeps (omega (arith, at.1)) l some.1 asks held))
    ]

-- Where job j is ready at v, and no request of it that is shared out is granted after u up to v, it is ready between.
pub ready_through : (o : Ranks) (w : Trace) (n u t v j : ℕ) → KeepsBefore (shared_rule o) w n → AreLawfulJobs (jobs_of w)
    → u ≤ t → t ≤ v → v < n → is_active w u j ≡ true → is_ready w v j ≡ true → granted w j v ≤ granted w j u → is_ready w t j ≡ true
ready_through o w n u t v j keeps lawful before after l early late same = go (phase_of w t j) refl where
  rest : (is_finished (phase_of w t j) ≡ false) × (is_active w t j ≡ true)
  rest = unfinished_between w u t v j early (ready_active w v j late) before after

  asking : (m q : ℕ) → phase_of w t j ≡ Asking m q → is_ready w t j ≡ false → is_ready w t j ≡ true
  asking m q e waits = elim (cases_Bool (any_below (suc u) (is_served w j m))) [
    | inl served ↦ granted_holds o w n u t j m q keeps before (omega arith) rest.1 e served
    | inr unserved ↦
        let at : RequestAt (job_of w.jobs j).script m q = open_segment w t j m q e in
        let some : (x : ℕ) × ((get_or (job_of w.jobs j).script m no_segment).request ≡ Some (q, x)) =
        asks_some q (get_or (job_of w.jobs j).script m no_segment) at.asks in
        let out : is_shared_out w.set (task_of w j) q ≡ true = shared_where_waiting o w n t j m q keeps lawful (omega arith) waits e in
        let passes : asks_passing (is_shared_out w.set (task_of w j)) (get_or (job_of w.jobs j).script m no_segment) ≡ true =
        rw some.1 out in
        let later : (k : ℕ) × (t ≤ k) × (k ≤ v) × (phase_of w k j ≡ Asking m q) × (is_ready w k j ≡ true) =
        served_between o w n t v j m q keeps after l e late in
        let open_later : is_same_request (phase_of w later.0 j) (Asking m 0) ≡ true = rw later.3 (eq-eqb m m refl) in
        let here : is_served w j m later.0 ≡ true =
        and_from (is_same_request (phase_of w later.0 j) (Asking m 0)) (is_ready w later.0 j) open_later later.4 in
        let grown : granted w j u < granted w j v =
        count_more (length (job_of w.jobs j).script) m (is_granted w j u) (is_granted w j v)
        (λ k b h. granted_up w j u v k (omega arith) h) at.within (not_yet passes unserved)
        (and_from _ _ passes (any_below-from (suc v) (is_served w j m) later.0 (omega (arith, later.2)) here)) in
        absurd (omega (arith, grown))
  ] where
    not_yet : asks_passing (is_shared_out w.set (task_of w j)) (get_or (job_of w.jobs j).script m no_segment) ≡ true
        → any_below (suc u) (is_served w j m) ≡ false → is_granted w j u m ≡ false
    not_yet a b = rw (a, b) refl

  go : (p : Phase) → phase_of w t j ≡ p → is_ready w t j ≡ true
  go Local e = ready_local w t j (active_local_from w t j rest.1 e)
  go Finished e = let x : is_finished (phase_of w t j) ≡ true = rw e refl in absurd (both_ways _ rest.0 x)
  go (Asking m q) e = elim (cases_Bool (is_ready w t j)) [
    | inl ready ↦ ready
    | inr waits ↦ asking m q e waits
  ]
