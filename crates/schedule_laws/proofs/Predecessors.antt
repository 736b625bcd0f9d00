-- Jobs of a task finish in their order: where running jobs are active and one is finished, so is each earlier one.
use Rattle.std.proofs.Common.{◌≡◌, ℕ, ◌<◌, ◌≤◌, true, false, List, [], ◌∷◌, sym, ◌∙◌, arith, inl, inr, Some}
use Rattle.std.specs.List.{list_all}
use Rattle.std.proofs.lemmas.Bool.{and_parts, cases_lt}
use Rattle.std.proofs.lemmas.List.Sums.{sum_by-cons}
use Rattle.schedule_model.specs.JobDef.{SegmentDef, job_of, segment_ticks, total_ticks}
use Rattle.schedule_model.specs.LawfulJobs.{is_segment, is_script}
use Rattle.schedule_model.specs.RowDef.{Trace, running_on}
use Rattle.schedule_model.specs.Phase.{phase_of, executed, is_finished}
use Rattle.schedule_model.specs.Phase.Phase.{Finished}
use Rattle.schedule_model.specs.Activity.{task_of, is_active}
use Rattle.schedule_laws.specs.Agreement.{RunsActiveBefore}
use Rattle.schedule_laws.proofs.Phases.{segment_local}
use Rattle.schedule_laws.proofs.Ticks.{executed_none, RunTick, run_tick, finished_executed, finished_stays, script_segments}
use Rattle.schedule_laws.proofs.ActiveJobs.{Active, active_is, active_from}
use Rattle.schedule_laws.proofs.Rows.{runs_where}

-- A script has a tick.
pub script_some : (script : List SegmentDef) → is_script script ≡ true → 0 < total_ticks script
script_some [] h = absurd (cc)
script_some (s ∷ script) h =
    let parts : (is_segment s ≡ true) × (list_all is_segment script ≡ true) = and_parts _ _ (script_segments (s ∷ script) h) in
    omega (arith, sum_by-cons segment_ticks s script, segment_local s parts.0)

-- Each earlier job of a finished job's task is finished.
pub finished_in_order : (w : Trace) (n t p e : ℕ) → RunsActiveBefore w n → t ≤ n
    → is_script (job_of w.jobs p).script ≡ true → phase_of w t p ≡ Finished
    → e < p → task_of w e ≡ task_of w p → phase_of w t e ≡ Finished
finished_in_order w n t p e active l lawful h before same =
    let done : total_ticks (job_of w.jobs p).script ≤ executed w t p = finished_executed w t p h in
    let r : RunTick w 0 t 0 p = run_tick w 0 t 0 p (omega (arith, executed_none w p))
    (omega (arith, done, script_some (job_of w.jobs p).script lawful)) in
    let at : (k : ℕ) × (running_on (w.row r.tick) k ≡ Some p) = runs_where (w.row r.tick) p r.runs in
    let a : Active w r.tick p = active_is w r.tick p (active r.tick at.0 p (omega (arith, r.before)) at.1) in
    finished_stays w r.tick t e (omega (arith, r.before)) (a.next e before same)

-- So a job that is released and not finished is active where the last job of its task before it is finished.
pub active_after : (w : Trace) (n t p j : ℕ) → RunsActiveBefore w n → t ≤ n → is_script (job_of w.jobs p).script ≡ true
    → p < j → task_of w p ≡ task_of w j
    → ((e : ℕ) → p < e → e < j → task_of w e ≡ task_of w j → ⊥) → (job_of w.jobs j).release ≤ t
    → is_finished (phase_of w t j) ≡ false → phase_of w t p ≡ Finished → is_active w t j ≡ true
active_after w n t p j active l lawful before same none released unfinished h =
    active_from w t j (record { released = released; unfinished = unfinished; next = λ e b c. earlier e b c }) where
      earlier : (e : ℕ) → e < j → task_of w e ≡ task_of w j → phase_of w t e ≡ Finished
      earlier e b c = elim (cases_lt e p) [
        | inl low ↦ finished_in_order w n t p e active l lawful h low (c ∙ sym same)
        | inr high ↦ elim (cases_lt p e) [
          | inl above ↦ absurd (none e above b c)
          | inr equal ↦ let e2 : e ≡ p = omega arith in rw e2 h
        ]
      ]
