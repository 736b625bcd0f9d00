-- What follows from the rules: a processor has at most one job in a request, a holder runs, and while a job is active no lower
-- job of its processor runs a local tick.
use Rattle.std.proofs.Common.{◌≡◌, ◌⊎◌, ℕ, zero, suc, ◌<◌, ◌≤◌, true, false, refl, sym, ap, ◌∙◌, arith, inl, inr, Option, Some, None}
use Rattle.std.proofs.lemmas.Bool.{cases_Bool, both_ways, eq-eqb, false_from_ne_true}
use Rattle.schedule_model.specs.declared.rule.Rule.TheVariants as rule
use Rattle.schedule_model.specs.JobDef.{job_of}
use Rattle.schedule_model.specs.LawfulJobs.{is_script, AreLawfulJobs}
use Rattle.schedule_model.specs.RowDef.{Trace, jobs_of, running_on, holder_in, runs_in}
use Rattle.schedule_model.specs.Phase.{Phase, is_finished, is_same_request, phase_of}
use Rattle.schedule_model.specs.Phase.Phase.{Local, Asking, Finished}
use Rattle.schedule_model.specs.Activity.{task_of, processor_of, is_active, is_ready}
use Rattle.schedule_model.specs.SharedRules.{KeepsRun, KeepsGrant}
use Rattle.schedule_model.specs.Ranks.{fmlp_plus}
use Rattle.schedule_model.specs.Keeping.{KeepsRow, KeepsBefore}
use Rattle.schedule_laws.specs.Agreement.{RunsActiveBefore}
use Rattle.schedule_laws.specs.LocalRuns.{LocalRun}
use Rattle.schedule_laws.proofs.Ticks.{same_true, local_run_before}
use Rattle.schedule_laws.proofs.ActiveJobs.{Active, active_is, active_listed, active_local_from, Requester, requester_is}
use Rattle.schedule_laws.proofs.Rows.{runs_where, ready_active, ready_listed, ready_holding, ready_holder_from}
use Rattle.schedule_laws.proofs.Holders.{not_open_at_first, open_active}
use Rattle.spin_rules.specs.SpinRules.{is_in_request, spins, has_spinner, KeepsIdle, KeepsPriority, spin_rule}
use Rattle.spin_rules.proofs.InRequests.{InRequest, in_request_is, in_request_from, in_request_listed, Spinning, spinning_is}
use Rattle.spin_rules.proofs.InRequests.{spins_in_request, spinner_is}

-- In rows that keep the rules running jobs are active.
pub spin_runs_active : (w : Trace) (n : ℕ) → KeepsBefore spin_rule w n → RunsActiveBefore w n
spin_runs_active w n keeps t k j l e = let run : KeepsRun w t = keeps t l rule.Run in ready_active w t j (run.ready k j e)

script_of : (w : Trace) (t j : ℕ) → AreLawfulJobs (jobs_of w) → is_in_request w t j ≡ true → is_script (job_of w.jobs j).script ≡ true
script_of w t j lawful h = (lawful.each j (in_request_listed w t j h)).script

-- No job is in a request at tick 0.
none_at_first : (w : Trace) (j : ℕ) → AreLawfulJobs (jobs_of w) → is_in_request w 0 j ≡ true → ⊥
none_at_first w j lawful h =
    let a : InRequest w 0 j = in_request_is w 0 j h in
    let off : is_same_request (phase_of w 0 j) (Asking a.number a.resource) ≡ false =
    not_open_at_first w j a.number a.resource (script_of w 0 j lawful h) in
    let on : is_same_request (Asking a.number a.resource) (Asking a.number a.resource) ≡ false = rw a.phase at off in
    let same : is_same_request (Asking a.number a.resource) (Asking a.number a.resource) ≡ true = eq-eqb a.number a.number refl in
    both_ways _ on same

-- Where running is local: the tick before a request begins.
record RanLocal (w : Trace) (t j : ℕ) : Type 0 where
  pub phase : phase_of w t j ≡ Local
  pub runs : running_on (w.row t) (processor_of w j) ≡ Some j

-- A job in a request at the next tick is in one at this tick, or runs a local tick.
came : (w : Trace) (n u j : ℕ) → AreLawfulJobs (jobs_of w) → KeepsBefore spin_rule w n → u < n → is_in_request w (suc u) j ≡ true
    → (is_in_request w u j ≡ true) ⊎ RanLocal w u j
came w n u j lawful keeps l h = elim (cases_Bool (is_same_request (phase_of w u j) (Asking a.number a.resource))) [
  | inl same ↦
      let some : (r : ℕ) × (phase_of w u j ≡ Asking a.number r) = same_true (phase_of w u j) a.number a.resource same in
      inl (in_request_from w u j a.number some.0
      (open_active w n u j a.number some.0 (spin_runs_active w n keeps) (omega arith) (script_of w (suc u) j lawful h) some.1) some.1)
  | inr other ↦
      let r : LocalRun w u (suc u) j =
      local_run_before w u (suc u) j a.number a.resource (script_of w (suc u) j lawful h) (omega arith) a.phase other in
      let same : r.tick ≡ u = omega (arith, r.from, r.before) in
      let local : phase_of w u j ≡ Local = ap (λ s. phase_of w s j) (sym same) ∙ r.local in
      let runs : runs_in (w.row u) j ≡ true = ap (λ s. runs_in (w.row s) j) (sym same) ∙ r.runs in
      let at : (k : ℕ) × (running_on (w.row u) k ≡ Some j) = runs_where (w.row u) j runs in
      let run : KeepsRun w u = keeps u l rule.Run in
      inr (record { phase = local; runs = ap (λ k. running_on (w.row u) k) (sym (run.column at.0 j at.1)) ∙ at.1 })
] where
  a : InRequest w (suc u) j
  a = in_request_is w (suc u) j h

-- Two jobs of a processor that come from the same row are one, if those that were in a request there are.
one_next : {w : Trace} {u i j : ℕ} → KeepsPriority w u → processor_of w i ≡ processor_of w j
    → (is_in_request w u i ≡ true → is_in_request w u j ≡ true → i ≡ j)
    → (is_in_request w u i ≡ true) ⊎ RanLocal w u i → (is_in_request w u j ≡ true) ⊎ RanLocal w u j → i ≡ j
one_next {w} {u} {i} {j} priority place back (inl early) (inl late) = back early late
one_next {w} {u} {i} {j} priority place back (inl early) (inr ran) =
    sym (priority.requests (processor_of w j) j ran.runs i (in_request_listed w u i early) place early)
one_next {w} {u} {i} {j} priority place back (inr ran) (inl late) =
    priority.requests (processor_of w i) i ran.runs j (in_request_listed w u j late) (sym place) late
one_next {w} {u} {i} {j} priority place back (inr one) (inr two) =
    let x : Some i ≡ Some j = sym one.runs ∙ ap (λ k. running_on (w.row u) k) place ∙ two.runs in cc

-- A processor has at most one job in a request.
pub one_in_request : (w : Trace) (n t i j : ℕ) → AreLawfulJobs (jobs_of w) → KeepsBefore spin_rule w n → t ≤ n
    → is_in_request w t i ≡ true → is_in_request w t j ≡ true → processor_of w i ≡ processor_of w j → i ≡ j
one_in_request w n zero i j lawful keeps l a b place = absurd (none_at_first w i lawful a)
one_in_request w n (suc u) i j lawful keeps l a b place =
    one_next (keeps u (omega arith) rule.Priority) place
    (λ early late. one_in_request w n u i j lawful keeps (omega arith) early late place)
    (came w n u i lawful keeps (omega arith) a) (came w n u j lawful keeps (omega arith) b)

-- A holder runs, on its task's processor.
pub holder_runs : (w : Trace) (n t q j : ℕ) → AreLawfulJobs (jobs_of w) → KeepsBefore spin_rule w n → t < n
    → holder_in (w.row t) q ≡ Some j → running_on (w.row t) (processor_of w j) ≡ Some j
holder_runs w n t q j lawful keeps l e = go (running_on (w.row t) (processor_of w j)) refl where
  asks : Requester w t q j
  asks = let grant : KeepsGrant fmlp_plus w t = keeps t l rule.Grant in requester_is w t q j (grant.requests q j e)

  mine : is_in_request w t j ≡ true
  mine = in_request_from w t j asks.number q asks.active asks.phase

  ready : is_ready w t j ≡ true
  ready = ready_holding w t j (ready_holder_from w t j asks.number q asks.active asks.phase e)

  no_spinner : has_spinner w t (processor_of w j) ≡ true → ⊥
  no_spinner h =
      let some : (i : ℕ) × (processor_of w i ≡ processor_of w j) × (spins w t i ≡ true) = spinner_is w t (processor_of w j) h in
      let same : some.0 ≡ j =
      one_in_request w n t some.0 j lawful keeps (omega arith) (spins_in_request w t some.0 some.2) mine some.1 in
      let s : Spinning w t some.0 = spinning_is w t some.0 some.2 in
      let x : Asking s.number s.resource ≡ Asking asks.number q = sym s.phase ∙ ap (phase_of w t) same ∙ asks.phase in
      let resource : s.resource ≡ q = cc in
      s.waits (ap (λ r. holder_in (w.row t) r) resource ∙ e ∙ ap (λ y. Some y) (sym same))

  go : (o : Option ℕ) → running_on (w.row t) (processor_of w j) ≡ o → running_on (w.row t) (processor_of w j) ≡ Some j
  go None f =
      let idle : KeepsIdle w t = keeps t l rule.Idle in
      absurd (both_ways (is_ready w t j)
      (idle (processor_of w j) f (false_from_ne_true (has_spinner w t (processor_of w j)) no_spinner) j (ready_listed w t j ready) refl) ready)
  go (Some r) f =
      let priority : KeepsPriority w t = keeps t l rule.Priority in
      f ∙ ap (λ y. Some y) (priority.requests (processor_of w j) r f j (ready_listed w t j ready) refl mine)

-- While a job is active no lower job of its processor runs a local tick.
pub no_lower_local : (w : Trace) (t j y : ℕ) → KeepsRow spin_rule w t → is_active w t j ≡ true → task_of w j < task_of w y
    → processor_of w y ≡ processor_of w j → phase_of w t y ≡ Local → runs_in (w.row t) y ≡ true → ⊥
no_lower_local w t j y keeps active lower place local runs = go (phase_of w t j) refl where
  on : running_on (w.row t) (processor_of w j) ≡ Some y
  on =
      let at : (k : ℕ) × (running_on (w.row t) k ≡ Some y) = runs_where (w.row t) y runs in
      let run : KeepsRun w t = keeps rule.Run in
      ap (λ k. running_on (w.row t) k) (sym (run.column at.0 y at.1 ∙ place)) ∙ at.1

  priority : KeepsPriority w t
  priority = keeps rule.Priority

  asking_is_not : (i : ℕ) → processor_of w i ≡ processor_of w j → is_in_request w t i ≡ true → ⊥
  asking_is_not i there h =
      let same : y ≡ i = priority.requests (processor_of w j) y on i (in_request_listed w t i h) there h in
      let a : InRequest w t i = in_request_is w t i h in
      let x : Local ≡ Asking a.number a.resource = sym local ∙ ap (phase_of w t) same ∙ a.phase in
      cc

  go : (p : Phase) → phase_of w t j ≡ p → ⊥
  go Local e = omega (
    arith,
    lower,
    priority.locals (processor_of w j) y on
        (λ i b there. false_from_ne_true (is_in_request w t i) (asking_is_not i there)) j (active_listed w t j active) refl
        (active_local_from w t j active e),
  )
  go Finished e =
      let a : Active w t j = active_is w t j active in
      let x : is_finished (phase_of w t j) ≡ true = rw e refl in
      both_ways _ a.unfinished x
  go (Asking m q) e = asking_is_not j refl (in_request_from w t j m q active e)
