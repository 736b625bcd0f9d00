-- Holders stay while their request is open, and a job in a request is active.
use Rattle.std.proofs.Common.{◌≡◌, ℕ, zero, suc, ◌<◌, ◌≤◌, true, false, List, [], ◌∷◌, refl, sym, ◌∙◌, arith, inl, inr, Some}
use Rattle.std.specs.List.{list_all}
use Rattle.std.proofs.lemmas.Bool.{cases_lt, cases_Bool, and_parts}
use Rattle.schedule_model.specs.declared.rule.Rule.TheVariants as rule
use Rattle.schedule_model.specs.JobDef.{SegmentDef, job_of}
use Rattle.schedule_model.specs.LawfulJobs.{is_segment, is_script}
use Rattle.schedule_model.specs.RowDef.{Trace, running_on, holder_in, runs_in}
use Rattle.schedule_model.specs.Phase.{Phase, is_finished, is_same_request, phase_from, phase_of}
use Rattle.schedule_model.specs.Phase.Phase.{Local, Asking}
use Rattle.schedule_model.specs.Activity.{is_active}
use Rattle.schedule_model.specs.SharedRules as shared
use Rattle.schedule_model.specs.SharedRules.{Ranks, KeepsKeep}
use Rattle.schedule_model.specs.DpcpRules as distributed
use Rattle.schedule_model.specs.Protocols.{shared_rule, dpcp_rule}
use Rattle.schedule_model.specs.Keeping.{KeepsBefore}
use Rattle.schedule_laws.specs.Agreement.{RunsActiveBefore}
use Rattle.schedule_laws.specs.LocalRuns.{LocalRun}
use Rattle.schedule_laws.proofs.Phases.{phase_of_none, phase_local, segment_local}
use Rattle.schedule_laws.proofs.Ticks.{executed_none, open_between, local_run_before, script_segments, same_true, one_resource}
use Rattle.schedule_laws.proofs.ActiveJobs.{active_stays, Requester, requester_is, requester_from}
use Rattle.schedule_laws.proofs.Rows.{runs_where}

asking_unfinished : (m q : ℕ) (p : Phase) → p ≡ Asking m q → is_finished p ≡ false
asking_unfinished m q p e = rw e refl

-- Where the rows after u up to t keep Keep, a holder at u that is active and in its request at both ticks holds at t too.
pub holder_kept : (w : Trace) (u t q j m : ℕ) → ((s : ℕ) → u < s → s ≤ t → KeepsKeep w s) → u ≤ t
    → is_active w u j ≡ true → phase_of w u j ≡ Asking m q → phase_of w t j ≡ Asking m q
    → holder_in (w.row u) q ≡ Some j → holder_in (w.row t) q ≡ Some j
holder_kept w u zero q j m keeps l a h g e = let same : u ≡ 0 = omega arith in rw (← same) e
holder_kept w u (suc t) q j m keeps l a h g e = elim (cases_lt t u) [
  | inl end ↦ let same : u ≡ suc t = omega arith in rw (← same) e
  | inr before ↦
      let here : phase_of w t j ≡ Asking m q = open_between w u t (suc t) j m q q h g before (omega arith) in
      let held : holder_in (w.row t) q ≡ Some j = holder_kept w u t q j m (λ s b c. keeps s b (omega arith)) before a h here e in
      let active : is_active w (suc t) j ≡ true = active_stays w u (suc t) j a l (asking_unfinished m q (phase_of w (suc t) j) g) in
      keeps (suc t) (omega arith) (omega arith) q j held (requester_from w (suc t) q j m active g)
]

-- In rows that keep the rules, a holder stays the holder while the request is open that it is in.
pub shared_holder_stays : (o : Ranks) (w : Trace) (n u t q j m r : ℕ) → KeepsBefore (shared_rule o) w n → u ≤ t → t < n
    → phase_of w u j ≡ Asking m r → phase_of w t j ≡ Asking m q
    → holder_in (w.row u) q ≡ Some j → holder_in (w.row t) q ≡ Some j
shared_holder_stays o w n u t q j m r keeps l b h g e =
    let grant : shared.KeepsGrant o w u = keeps u (omega arith) rule.Grant in
    let asks : Requester w u q j = requester_is w u q j (grant.requests q j e) in
    let x : Asking asks.number q ≡ Asking m r = sym asks.phase ∙ h in
    let number : asks.number ≡ m = cc in
    let here : phase_of w u j ≡ Asking m q = rw (← number) asks.phase in
    holder_kept w u t q j m (λ s c d. keeps s (omega arith) rule.Keep) l asks.active here g e

-- The same under DPCP.
pub dpcp_holder_stays : (w : Trace) (n u t q j m r : ℕ) → KeepsBefore dpcp_rule w n → u ≤ t → t < n
    → phase_of w u j ≡ Asking m r → phase_of w t j ≡ Asking m q
    → holder_in (w.row u) q ≡ Some j → holder_in (w.row t) q ≡ Some j
dpcp_holder_stays w n u t q j m r keeps l b h g e =
    let grant : distributed.KeepsGrant w u = keeps u (omega arith) rule.Grant in
    let asks : Requester w u q j = requester_is w u q j (grant.requests q j e) in
    let x : Asking asks.number q ≡ Asking m r = sym asks.phase ∙ h in
    let number : asks.number ≡ m = cc in
    let here : phase_of w u j ≡ Asking m q = rw (← number) asks.phase in
    holder_kept w u t q j m (λ s c d. keeps s (omega arith) rule.Keep) l asks.active here g e

not_asking_at_first : (n : ℕ) (script : List SegmentDef) (m q : ℕ) → list_all is_segment script ≡ true
    → is_same_request (phase_from n script 0) (Asking m q) ≡ false
not_asking_at_first n [] m q p = rw (phase_of_none n 0) refl
not_asking_at_first n (s ∷ script) m q p =
    let parts : (is_segment s ≡ true) × (list_all is_segment script ≡ true) = and_parts _ _ p in
    rw (phase_local n s script 0 (segment_local s parts.0)) refl

-- A script begins Local, so no request is open at tick 0.
pub not_open_at_first : (w : Trace) (j m q : ℕ) → is_script (job_of w.jobs j).script ≡ true
    → is_same_request (phase_of w 0 j) (Asking m q) ≡ false
unfolding phase_of
not_open_at_first w j m q lawful =
    rw (executed_none w j) (not_asking_at_first 0 (job_of w.jobs j).script m q (script_segments (job_of w.jobs j).script lawful))

-- Where running jobs are active, a job in a request is active.
pub open_active : (w : Trace) (n t j m q : ℕ) → RunsActiveBefore w n → t ≤ n → is_script (job_of w.jobs j).script ≡ true
    → phase_of w t j ≡ Asking m q → is_active w t j ≡ true
open_active w n t j m q active l lawful h =
    let before : LocalRun w 0 t j = local_run_before w 0 t j m q lawful (omega arith) h (not_open_at_first w j m q lawful) in
    let at : (k : ℕ) × (running_on (w.row before.tick) k ≡ Some j) = runs_where (w.row before.tick) j before.runs in
    active_stays w before.tick t j (active before.tick at.0 j (omega (arith, before.before)) at.1)
    (omega (arith, before.before)) (asking_unfinished m q (phase_of w t j) h)

-- A request that is open at a later tick, with no executed Local tick since an earlier one, was open there.
pub open_at : (w : Trace) (u v j m q : ℕ) → is_script (job_of w.jobs j).script ≡ true → u ≤ v → phase_of w v j ≡ Asking m q
    → ((t : ℕ) → u ≤ t → t < v → phase_of w t j ≡ Local → runs_in (w.row t) j ≡ true → ⊥) → phase_of w u j ≡ Asking m q
open_at w u v j m q lawful l h none = elim (cases_Bool (is_same_request (phase_of w u j) (Asking m q))) [
  | inl same ↦
      let some : (r : ℕ) × (phase_of w u j ≡ Asking m r) = same_true (phase_of w u j) m q same in
      let e : some.0 ≡ q = one_resource w u v j m some.0 q some.1 h in
      rw (← e) some.1
  | inr other ↦
      let r : LocalRun w u v j = local_run_before w u v j m q lawful l h other in
      absurd (none r.tick r.from r.before r.local r.runs)
]
