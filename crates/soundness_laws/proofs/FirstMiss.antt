-- Why no bound is missed, from what a protocol and its analysis give. Take the first job that misses its bound. Until then every job has
-- kept its own bound. So in the job's window the ticks of its script, of interference and of blocking are together at most its bound, and
-- it can't miss it.
use Rattle.std.proofs.Common.{◌≡◌, ℕ, zero, suc, ◌+◌, ◌-◌, ◌*◌, ◌<◌, ◌≤◌, Bool, List, length, refl, subst, arith, inl, inr}
use Rattle.std.specs.Prelude.{slice_index}
use Rattle.std.proofs.lemmas.Bool.{cases_lt, cases_Bool}
use Rattle.number_laws.specs.Sums.{sum_below, only_if}
use Rattle.number_laws.specs.Tests.{count_below}
use Rattle.number_laws.proofs.SumLaws.{sum_below-monotone, only_if-true}
use Rattle.number_laws.proofs.CountLaws.{count_below-none}
use Rattle.sporadic_model.specs.SetDef.{SetDef, task_at, is_higher_local, jobs_within, latest_bound}
use Rattle.sporadic_model.specs.Accepted.{IsFormed, TaskOrder}
use Rattle.sporadic_model.proofs.Laws.{cost_of_formed}
use Rattle.schedule_model.specs.JobDef.{job_of, total_ticks}
use Rattle.schedule_model.specs.LawfulJobs.{AreLawfulJobs, IsLawfulJob}
use Rattle.schedule_model.specs.RowDef.{Trace, jobs_of}
use Rattle.schedule_model.specs.Phase.{phase_of}
use Rattle.schedule_model.specs.Phase.Phase.{Finished}
use Rattle.schedule_model.specs.Activity.{task_of}
use Rattle.schedule_model.specs.BlockedTicks.{is_blocked}
use Rattle.schedule_model.specs.Measures.{blocking_of}
use Rattle.schedule_model.specs.ProtocolLaws.{IsOneOfThree, IsSoundRow}
use Rattle.schedule_laws.proofs.Ticks.{finished_true}
use Rattle.schedule_laws.proofs.Responses.{finished_in_time}
use Rattle.program_sources.specs.Recurrence.{interference_by, interference_of}
use Rattle.charge_laws.specs.Interferers.{interferes_with_some, is_interference_of}
use Rattle.charge_laws.specs.Windows.{bound_end, window_end, EndedBy, EndedBefore, EndedWithin, AreBounds}
use Rattle.charge_laws.proofs.Windows.{earlier_ended, bounds_below_periods}
use Rattle.charge_laws.proofs.Interference.{interferer_some}
use Rattle.charge_laws.proofs.Counting.{Interfering, interference_counted}
use Rattle.soundness_laws.proofs.HigherTasks.{not_by_others, ticks_by_task}

-- Bounds that are enough. They are from 1 to the latest ones, and each is no less than its task's interfering cost. What a job of the task
-- executes, its value and what counts as interference are together at most the bound.
pub record AreEnough (set : SetDef) (own cost : ℕ → ℕ) (bounds : List ℕ) (value : ℕ → ℕ) : Type 0 where
  pub from : (i : ℕ) → i < length set.tasks → 1 ≤ slice_index bounds i
  pub within : (i : ℕ) → i < length set.tasks → slice_index bounds i ≤ latest_bound (task_at set i)
  pub less : (i : ℕ) → i < length set.tasks → cost i ≤ slice_index bounds i
  pub enough : (i : ℕ) → i < length set.tasks → own i + value i + interference_of cost set bounds i ≤ slice_index bounds i

-- What the induction rests on, for a schedule of n rows.
pub record Given (interferes : Trace → ℕ → ℕ → Bool) (w : Trace) (n : ℕ) (own cost : ℕ → ℕ) (bounds : List ℕ) (value : ℕ
    → ℕ) : Type 0 where
  pub formed : IsFormed w.set
  pub lawful : AreLawfulJobs (jobs_of w)
  pub short : (j : ℕ) → j < length w.jobs → total_ticks (job_of w.jobs j).script ≤ own (task_of w j)
  pub enough : AreEnough w.set own cost bounds value
  pub three : (t j : ℕ) → IsOneOfThree interferes w t j
  pub sound : (t : ℕ) → t < n → IsSoundRow interferes w t
  pub most : (h : ℕ) → h < length w.set.tasks → cost h ≤ (task_at w.set h).cost
  pub interfering : (m y : ℕ) → m ≤ n → y < length w.jobs
      → count_below m (λ t. interferes_with_some interferes w t y) ≤ cost (task_of w y)
  pub blocked : (j : ℕ) → j < length w.jobs → EndedWithin w (slice_index bounds) (bound_end w (slice_index bounds) j) n
      → count_below (window_end w (slice_index bounds) n j) (λ t. is_blocked interferes w t j) ≤ value (task_of w j)

bounds_are : (set : SetDef) (own cost : ℕ → ℕ) (bounds : List ℕ) (value : ℕ → ℕ) → AreEnough set own cost bounds value
    → AreBounds set (slice_index bounds)
bounds_are set own cost bounds value enough = record { from = enough.from; latest = enough.within }

-- If a window is within the rows, no more of its ticks are interference by task h than are counted for it.
by_task : (interferes : Trace → ℕ → ℕ → Bool) (w : Trace) (n : ℕ) (own cost : ℕ → ℕ) (bounds : List ℕ) (value : ℕ → ℕ) (j h : ℕ)
    → Given interferes w n own cost bounds value → j < length w.jobs → bound_end w (slice_index bounds) j ≤ n
    → EndedBefore w (slice_index bounds) (bound_end w (slice_index bounds) j) → h < length w.set.tasks
    → count_below (bound_end w (slice_index bounds) j) (λ t. is_interference_of interferes w t j h)
    ≤ only_if (is_higher_local w.set (task_of w j) h) (interference_by cost w.set bounds (task_of w j) h)
by_task interferes w n own cost bounds value j h given l ends ended task = elim (cases_Bool (is_higher_local w.set (task_of w j) h)) [
  | inr other ↦
      let none : count_below e (λ t. is_interference_of interferes w t j h) ≡ 0 =
      count_below-none e (λ t. is_interference_of interferes w t j h)
      (λ t b. not_by_others interferes w t j h (given.sound t (omega arith)) other) in
      omega (arith, none)
  | inl higher ↦
      let numbers : TaskOrder w.set h = given.formed.numbers h task in
      let some : 1 ≤ (task_at w.set h).cost = cost_of_formed w.set h given.formed task in
      let most : cost h ≤ (task_at w.set h).cost = given.most h task in
      let counted : count_below (window_end w (slice_index bounds) n j) (λ t. is_interference_of interferes w t j h)
      ≤ jobs_within (slice_index bounds (task_of w j)) (slice_index bounds h + (task_at w.set h).jitter - cost h) (task_at w.set h).period
      * cost h =
      interference_counted interferes w (slice_index bounds) cost n j h laws given.lawful ended
      (omega (arith, some, numbers.jitter_to, numbers.deadline_to))
      (omega (arith, most, numbers.jitter_to, numbers.deadline_to)) (given.enough.less h task) in
      let whole : window_end w (slice_index bounds) n j ≡ e = omega arith in
      let here : count_below e (λ t. is_interference_of interferes w t j h) ≤ interference_by cost w.set bounds (task_of w j) h =
      subst (λ k. count_below k (λ t. is_interference_of interferes w t j h) ≤ interference_by cost w.set bounds (task_of w j) h)
      whole counted in
      omega (arith, here, only_if-true _ (interference_by cost w.set bounds (task_of w j) h) higher)
] where
  e : ℕ
  e = bound_end w (slice_index bounds) j

  laws : Interfering interferes w n cost j
  laws = record {
    three = λ t b. given.three t j;
    sound = given.sound;
    cost = λ m y b k. omega (arith, interferer_some interferes w m j y l, given.interfering m y b k);
  }

-- The same for its ticks of interference by all tasks.
interference_most : (interferes : Trace → ℕ → ℕ → Bool) (w : Trace) (n : ℕ) (own cost : ℕ → ℕ) (bounds : List ℕ) (value : ℕ → ℕ) (j : ℕ)
    → Given interferes w n own cost bounds value → j < length w.jobs → bound_end w (slice_index bounds) j ≤ n
    → EndedBefore w (slice_index bounds) (bound_end w (slice_index bounds) j)
    → count_below (bound_end w (slice_index bounds) j) (λ t. interferes w t j) ≤ interference_of cost w.set bounds (task_of w j)
interference_most interferes w n own cost bounds value j given l ends ended =
    let e = bound_end w (slice_index bounds) j in
    let lawful : IsLawfulJob w.set (job_of w.jobs j) = given.lawful.each j l in
    let task : task_of w j < length w.set.tasks = lawful.task in
    let parts : count_below e (λ t. interferes w t j)
    ≤ sum_below (task_of w j) (λ h. count_below e (λ t. is_interference_of interferes w t j h)) =
    ticks_by_task interferes w e j (λ t b. given.sound t (omega arith)) in
    let each : sum_below (task_of w j) (λ h. count_below e (λ t. is_interference_of interferes w t j h))
    ≤ interference_of cost w.set bounds (task_of w j) =
    sum_below-monotone (task_of w j) (λ h. count_below e (λ t. is_interference_of interferes w t j h))
    (λ h. only_if (is_higher_local w.set (task_of w j) h) (interference_by cost w.set bounds (task_of w j) h))
    (λ h b. by_task interferes w n own cost bounds value j h given l ends ended (omega (arith, task))) in
    omega (arith, parts, each)

-- If each job whose bound passes before e ends in time, so does each whose bound has passed at an earlier tick.
ended_by : (w : Trace) (bound : ℕ → ℕ) (e r : ℕ) → r < e → EndedBefore w bound e → EndedBy w bound r
ended_by w bound e r l ended = λ k listed passed. ended k listed (omega arith)

-- A job whose bound passes within the rows ends in time, if each job whose bound passes before does.
ends_in_time : (interferes : Trace → ℕ → ℕ → Bool) (w : Trace) (n : ℕ) (own cost : ℕ → ℕ) (bounds : List ℕ) (value : ℕ → ℕ) (j : ℕ)
    → Given interferes w n own cost bounds value → j < length w.jobs → bound_end w (slice_index bounds) j ≤ n
    → EndedBefore w (slice_index bounds) (bound_end w (slice_index bounds) j)
    → phase_of w (bound_end w (slice_index bounds) j) j ≡ Finished
unfolding blocking_of
ends_in_time interferes w n own cost bounds value j given l ends ended =
    finished_true (phase_of w (bound_end w (slice_index bounds) j) j)
    (finished_in_time interferes w r (slice_index bounds i) j (λ t b. given.three t j) refl
    (λ k before same. earlier_ended w (slice_index bounds) k j given.lawful (short k before) l passed before same)
    (omega (
      arith,
      given.short j l,
      interference_most interferes w n own cost bounds value j given l ends ended,
      blocked,
      given.enough.enough i job.task,
    ))) where
      r : ℕ
      r = (job_of w.jobs j).release

      i : ℕ
      i = task_of w j

      job : IsLawfulJob w.set (job_of w.jobs j)
      job = given.lawful.each j l

      bounds_from : AreBounds w.set (slice_index bounds)
      bounds_from = bounds_are w.set own cost bounds value given.enough

      passed : EndedBy w (slice_index bounds) r
      passed = ended_by w (slice_index bounds) (bound_end w (slice_index bounds) j) r (omega (arith, bounds_from.from i job.task)) ended

      short : (k : ℕ) → k < j
          → slice_index bounds (task_of w k) + (task_at w.set (task_of w k)).jitter ≤ (task_at w.set (task_of w k)).period
      short k before = let earlier : IsLawfulJob w.set (job_of w.jobs k) = given.lawful.each k (omega arith) in
          bounds_below_periods w.set (slice_index bounds) (task_of w k) given.formed bounds_from earlier.task

      blocked : count_below (r + slice_index bounds i) (λ t. is_blocked interferes w t j) ≤ value i
      blocked =
          let whole : window_end w (slice_index bounds) n j ≡ r + slice_index bounds i = omega arith in
          subst (λ k. count_below k (λ t. is_blocked interferes w t j) ≤ value i) whole
          (given.blocked j l (λ k listed before within. ended k listed before))

-- So each job whose bound passes within the rows ends in time: by induction on the tick at which it passes.
pub all_end_in_time : (interferes : Trace → ℕ → ℕ → Bool) (w : Trace) (n : ℕ) (own cost : ℕ → ℕ) (bounds : List ℕ) (value : ℕ → ℕ) (e : ℕ)
    → Given interferes w n own cost bounds value → e ≤ suc n → EndedBefore w (slice_index bounds) e
all_end_in_time interferes w n own cost bounds value zero given within = λ j l passed. absurd (omega arith)
all_end_in_time interferes w n own cost bounds value (suc e) given within = λ j l passed.
    elim (cases_lt (bound_end w (slice_index bounds) j) e) [
      | inl before ↦ all_end_in_time interferes w n own cost bounds value e given (omega arith) j l before
      | inr here ↦
          ends_in_time interferes w n own cost bounds value j given l (omega arith)
          (λ k m b. all_end_in_time interferes w n own cost bounds value e given (omega arith) k m (omega arith))
    ]
