-- Let each job of a schedule leave all but one cycle of a tick of its cost. Then no job executes more cycles than it may, whichever
-- tasks are marked as having whole values.
use Rattle.std.proofs.Common.{◌≡◌, ℕ, ◌+◌, ◌-◌, ◌*◌, ◌<◌, ◌≤◌, Bool, false, length, subst, arith, inl, inr}
use Rattle.std.proofs.lemmas.Bool.{cases_Bool}
use Rattle.sporadic_model.specs.SetDef.{SetDef, task_at}
use Rattle.sporadic_model.specs.Accepted.{IsAccepted, TaskNumbers}
use Rattle.sporadic_model.proofs.Laws.{numbers_of_accepted}
use Rattle.schedule_model.specs.JobDef.{job_of}
use Rattle.schedule_model.specs.LawfulJobs.{IsLawfulJob}
use Rattle.schedule_model.specs.RowDef.{Trace}
use Rattle.schedule_model.specs.Activity.{task_of}
use Rattle.schedule_model.specs.declared.rule.Rule.{Rule}
use Rattle.clock_laws.specs.Cycles.{in_cycles, own_cycles}
use Rattle.clock_laws.specs.Clock.{IsLawfulInCycles}
use Rattle.clock_laws.proofs.Sets.{tasks_in}

own_least : (k : ℕ) (whole : ℕ → Bool) (set : SetDef) (i : ℕ) → 1 ≤ k → 1 ≤ (task_at set i).cost
    → own_cycles (λ i. false) k set i ≤ own_cycles whole k set i
own_least k whole set i some cost =
    let parted : k * ((task_at set i).cost - 1 + 1) ≡ k * (task_at set i).cost = λ j. k * back (task_at set i).cost cost j in
    elim (cases_Bool (whole i)) [
      | inl is ↦ rw is (omega (arith, some, parted))
      | inr part ↦ rw part (omega arith)
    ] where
      back : (n : ℕ) → 1 ≤ n → n - 1 + 1 ≡ n
      back n l = omega (arith, l)

pub lawful_of_spared : (keeps : Rule → Trace → ℕ → Type 0) (whole : ℕ → Bool) (k : ℕ) (set : SetDef) (w : Trace) (n : ℕ) → 1 ≤ k
    → IsAccepted set → IsLawfulInCycles keeps (λ i. false) k set w n → IsLawfulInCycles keeps whole k set w n
lawful_of_spared keeps whole k set w n some accepted spared = record {
  schedule = spared.schedule;
  spare = λ j l.
      let job : IsLawfulJob w.set (job_of w.jobs j) = spared.schedule.jobs.each j l in
      let listed : task_of w j < length (in_cycles k set).tasks =
      subst (λ of. task_of w j < length of.tasks) spared.schedule.set_is job.task in
      let numbers : TaskNumbers set (task_of w j) = numbers_of_accepted set (task_of w j) accepted (omega (arith, listed, tasks_in k set)) in
      omega (arith, spared.spare j l, own_least k whole set (task_of w j) some numbers.cost_from);
}
