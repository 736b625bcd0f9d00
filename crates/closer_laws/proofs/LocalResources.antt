-- Resources that only one processor's tasks use: they are free when one of these tasks requests them, so whoever is in such a request
-- holds it, and no two jobs are in one at a time.
use Rattle.std.proofs.Common.{◌≡◌, ℕ, zero, suc, ◌<◌, ◌≤◌, ◌&&◌, not, Bool, true, false, length, refl, sym, ap, ◌∙◌, arith, inl, inr, Some}
use Rattle.std.proofs.lemmas.Bool.{cases_lt, cases_Bool, both_ways, eqb-true, eq-eqb}
use Rattle.number_laws.proofs.TestLaws.{any_below-none}
use Rattle.sporadic_model.specs.SetDef.{SetDef, task_at}
use Rattle.sporadic_model.specs.Users.{is_user}
use Rattle.schedule_model.specs.declared.rule.Rule.TheVariants as rule
use Rattle.schedule_model.specs.JobDef.{job_of}
use Rattle.schedule_model.specs.LawfulJobs.{is_script, IsLawfulJob, AreLawfulJobs}
use Rattle.schedule_model.specs.RowDef.{Trace, jobs_of, running_on, holder_in, runs_in}
use Rattle.schedule_model.specs.Phase.{is_same_request, phase_of}
use Rattle.schedule_model.specs.Phase.Phase.{Local, Asking}
use Rattle.schedule_model.specs.Activity.{task_of, processor_of, is_ready_holder, is_requester, issue_tick_of}
use Rattle.schedule_model.specs.SharedRules.{Ranks, KeepsRun, KeepsGrant, KeepsPriority}
use Rattle.schedule_model.specs.Protocols.{shared_rule}
use Rattle.schedule_model.specs.Keeping.{KeepsBefore}
use Rattle.schedule_laws.specs.LocalRuns.{LocalRun}
use Rattle.schedule_laws.specs.Agreement.{RunsActiveBefore}
use Rattle.schedule_laws.proofs.ActiveJobs.{active_listed, Requester, requester_is, requester_from}
use Rattle.schedule_laws.proofs.Holders.{not_open_at_first, open_active, shared_holder_stays}
use Rattle.schedule_laws.proofs.Issues.{issue_at_most, issue_least, open_at_issue, open_since}
use Rattle.schedule_laws.proofs.Rows.{runs_where, ReadyHolder, ready_holder_is, ready_holder_from}
use Rattle.schedule_laws.proofs.RuleUses.{requested_held}
use Rattle.schedule_laws.proofs.Segments.{open_listed, open_user}
use Rattle.schedule_laws.proofs.SharedLaws.{shared_runs_active}
use Rattle.schedule_laws.proofs.Ticks.{local_run_before, same_true, one_resource}
use Rattle.blocking_columns.specs.Columns.{have_one_processor}
use Rattle.closer_laws.specs.CloserRows.{is_shared_out}

-- Is each user of q a task of processor k?
abbrev pub OnlyOn : SetDef → ℕ → ℕ → Type 0
OnlyOn set q k = (y : ℕ) → y < length set.tasks → is_user set q y ≡ true → (task_at set y).processor ≡ k

pub one_there : (a b : Bool) → (a && not b) ≡ false → a ≡ true → b ≡ true
one_there true true h g = refl
one_there true false h g = absurd (cc)
one_there false b h g = absurd (cc)

-- What isn't shared out from x's processor is used there alone.
pub only_there : (set : SetDef) (x q : ℕ) → is_shared_out set x q ≡ false → OnlyOn set q (task_at set x).processor
only_there set x q h y l user = eqb-true _ _ (one_there (is_user set q y) (have_one_processor set y x)
    (any_below-none (length set.tasks) (λ z. is_user set q z && not (have_one_processor set z x)) h y l) user)

-- An open request was issued right behind a Local tick of its job.
pub record Issued (w : Trace) (t j : ℕ) : Type 0 where
  pub before : ℕ
  pub issue : issue_tick_of w t j ≡ suc before
  pub local : phase_of w before j ≡ Local
  pub runs : runs_in (w.row before) j ≡ true

issued_at : (w : Trace) (t j m q s : ℕ) → is_script (job_of w.jobs j).script ≡ true → phase_of w t j ≡ Asking m q
    → issue_tick_of w t j ≡ s → phase_of w s j ≡ Asking m q → Issued w t j
issued_at w t j m q zero script h e at =
    let first : is_same_request (phase_of w 0 j) (Asking m q) ≡ false = not_open_at_first w j m q script in
    let same : is_same_request (phase_of w 0 j) (Asking m q) ≡ true = rw at (eq-eqb m m refl) in
    absurd (both_ways _ first same)
issued_at w t j m q (suc v) script h e at = elim (cases_Bool (is_same_request (phase_of w v j) (Asking m q))) [
  | inl same ↦ let here : is_same_request (phase_of w v j) (phase_of w t j) ≡ true = rw h same in
      absurd (omega (arith, issue_least w v t j here, e))
  | inr other ↦
      let r : LocalRun w v (suc v) j = local_run_before w v (suc v) j m q script (omega arith) at other in
      let here : r.tick ≡ v = omega (arith, r.from, r.before) in
      record {
        before = v;
        issue = e;
        local = ap (λ k. phase_of w k j) (sym here) ∙ r.local;
        runs = ap (λ k. runs_in (w.row k) j) (sym here) ∙ r.runs;
      }
]

pub issued : (w : Trace) (t j m q : ℕ) → is_script (job_of w.jobs j).script ≡ true → phase_of w t j ≡ Asking m q → Issued w t j
issued w t j m q script h = issued_at w t j m q (issue_tick_of w t j) script h refl (open_at_issue w t j m q h)

-- Jobs that run at once on one processor are one.
pub one_runner : (w : Trace) (t j y : ℕ) → KeepsRun w t → runs_in (w.row t) j ≡ true → runs_in (w.row t) y ≡ true
    → processor_of w j ≡ processor_of w y → j ≡ y
one_runner w t j y run a b same =
    let here : (k : ℕ) × (running_on (w.row t) k ≡ Some j) = runs_where (w.row t) j a in
    let there : (k : ℕ) × (running_on (w.row t) k ≡ Some y) = runs_where (w.row t) y b in
    let place : here.0 ≡ there.0 = run.column here.0 j here.1 ∙ same ∙ sym (run.column there.0 y there.1) in
    let both : Some j ≡ Some y = sym here.1 ∙ ap (running_on (w.row t)) place ∙ there.1 in
    cc

-- Where a job runs a Local tick no job of its processor is a ready holder.
pub no_holder_beside : (o : Ranks) (w : Trace) (t j y : ℕ) → KeepsRun w t → KeepsPriority o w t → phase_of w t j ≡ Local
    → runs_in (w.row t) j ≡ true → processor_of w y ≡ processor_of w j → is_ready_holder w t y ≡ true → ⊥
no_holder_beside o w t j y run priority local runs same holds =
    let here : (k : ℕ) × (running_on (w.row t) k ≡ Some j) = runs_where (w.row t) j runs in
    let y_holds : ReadyHolder w t y = ready_holder_is w t y holds in
    let own : is_ready_holder w t j ≡ true =
    (priority.holders here.0 j here.1 y (active_listed w t y y_holds.active) (same ∙ sym (run.column here.0 j here.1)) holds).0 in
    let h : ReadyHolder w t j = ready_holder_is w t j own in
    let x : Local ≡ Asking h.number h.resource = sym local ∙ h.phase in
    cc

-- The holder of a resource that only the tasks of job j's processor use is of j's processor.
holder_there : (o : Ranks) (w : Trace) (t q j y : ℕ) → KeepsGrant o w t → AreLawfulJobs (jobs_of w)
    → OnlyOn w.set q (processor_of w j) → holder_in (w.row t) q ≡ Some y → processor_of w y ≡ processor_of w j
holder_there o w t q j y grant lawful only holds =
    let asks : Requester w t q y = requester_is w t q y (grant.requests q y holds) in
    let job : IsLawfulJob w.set (job_of w.jobs y) = lawful.each y (active_listed w t y asks.active) in
    only (task_of w y) job.task (open_user w.set w t y asks.number q job asks.phase)

-- When a job issues a request of such a resource it gets it at once.
held_at_issue : (o : Ranks) (w : Trace) (n v j m q : ℕ) → KeepsBefore (shared_rule o) w n → AreLawfulJobs (jobs_of w) → suc v < n
    → phase_of w v j ≡ Local → runs_in (w.row v) j ≡ true → phase_of w (suc v) j ≡ Asking m q → OnlyOn w.set q (processor_of w j)
    → holder_in (w.row (suc v)) q ≡ Some j
held_at_issue o w n v j m q keeps lawful l local runs asks only =
    elim (cases_Bool (is_same_request (phase_of w v y) (Asking holder.number q))) [
      | inr new ↦
          let r : LocalRun w v (suc v) y = local_run_before w v (suc v) y holder.number q (script y listed) (omega arith) holder.phase new in
          let here : r.tick ≡ v = omega (arith, r.from, r.before) in
          let y_runs : runs_in (w.row v) y ≡ true = ap (λ k. runs_in (w.row k) y) (sym here) ∙ r.runs in
          let same : y ≡ j = one_runner w v y j (keeps v (omega arith) rule.Run) y_runs runs place in
          held.1 ∙ ap Some same
      | inl old ↦
          let some : (r : ℕ) × (phase_of w v y ≡ Asking holder.number r) = same_true (phase_of w v y) holder.number q old in
          let one : some.0 ≡ q = one_resource w v (suc v) y holder.number some.0 q some.1 holder.phase in
          let early : phase_of w v y ≡ Asking holder.number q = some.1 ∙ ap (Asking holder.number) one in
          absurd (open_before early)
    ] where
      active_before : RunsActiveBefore w n
      active_before = shared_runs_active o w n keeps

      script : (i : ℕ) → i < length w.jobs → is_script (job_of w.jobs i).script ≡ true
      script i b = (lawful.each i b).script

      own : is_requester w (suc v) q j ≡ true
      own = requester_from w (suc v) q j m
          (open_active w n (suc v) j m q active_before (omega arith) (script j (open_listed w (suc v) j m q asks)) asks) asks

      held : (y : ℕ) × (holder_in (w.row (suc v)) q ≡ Some y)
      held = requested_held o w (suc v) q j (keeps (suc v) l rule.Grant) own

      y : ℕ
      y = held.0

      holder : Requester w (suc v) q y
      holder = let grant : KeepsGrant o w (suc v) = keeps (suc v) l rule.Grant in
          requester_is w (suc v) q y (grant.requests q y held.1)

      listed : y < length w.jobs
      listed = active_listed w (suc v) y holder.active

      place : processor_of w y ≡ processor_of w j
      place = holder_there o w (suc v) q j y (keeps (suc v) l rule.Grant) lawful only held.1

      open_before : phase_of w v y ≡ Asking holder.number q → ⊥
      open_before early =
          let asked : is_requester w v q y ≡ true = requester_from w v q y holder.number
          (open_active w n v y holder.number q active_before (omega arith) (script y listed) early) early in
          let first : (z : ℕ) × (holder_in (w.row v) q ≡ Some z) = requested_held o w v q y (keeps v (omega arith) rule.Grant) asked in
          let grant : KeepsGrant o w v = keeps v (omega arith) rule.Grant in
          let was : Requester w v q first.0 = requester_is w v q first.0 (grant.requests q first.0 first.1) in
          no_holder_beside o w v j first.0 (keeps v (omega arith) rule.Run) (keeps v (omega arith) rule.Priority) local runs
          (holder_there o w v q j first.0 grant lawful only first.1)
          (ready_holder_from w v first.0 was.number q was.active was.phase first.1)

-- So a job in such a request holds the resource.
pub holds_local : (o : Ranks) (w : Trace) (n t j m q : ℕ) → KeepsBefore (shared_rule o) w n → AreLawfulJobs (jobs_of w) → t < n
    → phase_of w t j ≡ Asking m q → OnlyOn w.set q (processor_of w j) → holder_in (w.row t) q ≡ Some j
holds_local o w n t j m q keeps lawful l asks only =
    let script : is_script (job_of w.jobs j).script ≡ true = (lawful.each j (open_listed w t j m q asks)).script in
    let a : Issued w t j = issued w t j m q script asks in
    let at : phase_of w (suc a.before) j ≡ Asking m q = ap (λ k. phase_of w k j) (sym a.issue) ∙ open_at_issue w t j m q asks in
    let to : suc a.before ≤ t = omega (arith, issue_at_most w t j, a.issue) in
    shared_holder_stays o w n (suc a.before) t q j m q keeps to l at asks
    (held_at_issue o w n a.before j m q keeps lawful (omega arith) a.local a.runs at only)

pub holder_local : (o : Ranks) (w : Trace) (n t j m q : ℕ) → KeepsBefore (shared_rule o) w n → AreLawfulJobs (jobs_of w) → t < n
    → phase_of w t j ≡ Asking m q → OnlyOn w.set q (processor_of w j) → is_ready_holder w t j ≡ true
holder_local o w n t j m q keeps lawful l asks only =
    let script : is_script (job_of w.jobs j).script ≡ true = (lawful.each j (open_listed w t j m q asks)).script in
    ready_holder_from w t j m q (open_active w n t j m q (shared_runs_active o w n keeps) (omega arith) script asks) asks
    (holds_local o w n t j m q keeps lawful l asks only)

-- And what was issued no earlier on that processor is that request itself: its job ran a Local tick right before, with no ready holder
-- beside it.
pub one_local : (o : Ranks) (w : Trace) (n t r y m q k p : ℕ) → KeepsBefore (shared_rule o) w n → AreLawfulJobs (jobs_of w) → t < n
    → phase_of w t r ≡ Asking m q → OnlyOn w.set q (processor_of w r) → phase_of w t y ≡ Asking k p
    → processor_of w r ≡ processor_of w y → issue_tick_of w t r ≤ issue_tick_of w t y → r ≡ y
one_local o w n t r y m q k p keeps lawful l asks only other place order =
    elim (cases_lt (issue_tick_of w t r) (suc v)) [
      | inl before ↦
          let early_r : phase_of w v r ≡ Asking m q = open_since w v t r m q asks (omega arith) (omega (arith, early)) in
          absurd (no_holder_beside o w v y r (keeps v (omega (arith, early)) rule.Run) (keeps v (omega (arith, early)) rule.Priority)
          a.local a.runs place (holder_local o w n v r m q keeps lawful (omega (arith, early)) early_r only))
      | inr same ↦
          let b : Issued w t r = issued w t r m q (script r m q asks) asks in
          let one : b.before ≡ v = omega (arith, b.issue, a.issue) in
          let runs : runs_in (w.row v) r ≡ true = ap (λ z. runs_in (w.row z) r) (sym one) ∙ b.runs in
          one_runner w v r y (keeps v (omega (arith, early)) rule.Run) runs a.runs place
    ] where
      script : (i a b : ℕ) → phase_of w t i ≡ Asking a b → is_script (job_of w.jobs i).script ≡ true
      script i a b h = (lawful.each i (open_listed w t i a b h)).script

      a : Issued w t y
      a = issued w t y k p (script y k p other) other

      v : ℕ
      v = a.before

      early : suc v ≤ t
      early = omega (arith, issue_at_most w t y, a.issue)
