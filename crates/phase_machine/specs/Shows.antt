-- Which schedules does a machine show? Those whose rows before its tick lead to its places and its holders.
use Rattle.std.specs.Prelude.{◌≡◌, ℕ, ◌+◌, ◌<◌, ◌≤◌, List, length, take, Option, slice_index_or}
use Rattle.schedule_model.specs.JobDef.{JobDef, job_of, total_ticks}
use Rattle.schedule_model.specs.RowDef.{RowDef, Trace, jobs_of, held_before}
use Rattle.schedule_model.specs.Phase.{executed, phase_of}
use Rattle.schedule_model.specs.Phase.Phase.{Finished}
use Rattle.schedule_model.specs.Activity.{task_of, issue_tick_of, active_job_of, is_active, is_requester}
use Rattle.phase_machine.specs.declared.place.ScriptPlace.{ScriptPlace}
use Rattle.phase_machine.specs.MachineDef.{MachineDef, IsMachine, IsNext, no_place, place_of, segment_in, under}
use Rattle.phase_machine.specs.Now.{phase_now, current_now, active_now, holder_now, ready_now, waiting_now, requester_now, issued_now}
use Rattle.phase_machine.specs.Now.{is_ready_before, is_waiting_before, issue_of}

-- Is task x, at tick t of the schedule, at this place? Its earlier jobs are finished, and its later ones have executed nothing. The place's
-- job has executed all segments before the place's, and this many ticks of that segment. If the job is in a request, it was issued at the
-- place's issue tick.
pub record ShowsPlace (w : Trace) (t x : ℕ) (p : ScriptPlace) : Type 0 where
  pub before : (e : ℕ) → e < p.job → task_of w e ≡ x → phase_of w t e ≡ Finished
  pub after : (e : ℕ) → p.job < e → e < length w.jobs → task_of w e ≡ x → executed w t e ≡ 0
  pub stands : p.job < length w.jobs → executed w t p.job ≡ total_ticks (take p.segment (job_of w.jobs p.job).script) + p.ticks
  pub issued : p.job < length w.jobs → (segment_in w.jobs p.job p.segment).local ≤ p.ticks → p.issued ≡ issue_tick_of w t p.job

pub record Shows (m : MachineDef) (rows : ℕ → RowDef) : Type 0 where
  pub machine : IsMachine m
  pub places : (x : ℕ) → x < length m.list.set.tasks → ShowsPlace (under m rows) m.tick x (place_of m x)
  pub holders : (q : ℕ) → holder_now m q ≡ held_before (under m rows) m.tick q

-- Are the machine's answers those of the definitions at its tick of the schedule? Which jobs are ready and which wait depends on the
-- holders of the row before.
pub record AnswersAsDefined (m : MachineDef) (w : Trace) : Type 0 where
  pub phase : (j : ℕ) → j < length m.list.jobs → phase_now m j ≡ phase_of w m.tick j
  pub active : (j : ℕ) → active_now m j ≡ is_active w m.tick j
  pub current : (x : ℕ) → x < length m.list.set.tasks → current_now m x ≡ active_job_of w m.tick x
  pub requester : (q j : ℕ) → requester_now m q j ≡ is_requester w m.tick q j
  pub issued : (j : ℕ) → j < length m.list.jobs → issued_now m j ≡ issue_of w m.tick j
  pub holder : (q : ℕ) → holder_now m q ≡ held_before w m.tick q
  pub ready : (j : ℕ) → ready_now m j ≡ is_ready_before w m.tick j
  pub waiting : (j : ℕ) → waiting_now m j ≡ is_waiting_before w m.tick j

-- Is each of these the place of its task before the first row: at the start of the task's first job?
abbrev pub ArePlacesAtFirst : List JobDef → ℕ → List ScriptPlace → Type 0
ArePlacesAtFirst jobs tasks places = (x : ℕ) → x < tasks →
    IsNext jobs x 0 (slice_index_or places x no_place).job
    × ((slice_index_or places x no_place).segment ≡ 0)
    × ((slice_index_or places x no_place).ticks ≡ 0)

-- Does some machine show the schedule after its rows before tick n?
pub record Shown (w : Trace) (n : ℕ) : Type 0 where
  pub places : List ScriptPlace
  pub holders : List (Option ℕ)
  pub coming : List ℕ
  pub shows : Shows (record { list = jobs_of w; tick = n; places = places; holders = holders; coming = coming }) w.row
