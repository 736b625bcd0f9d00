-- A task's next job to be released.
use Rattle.std.proofs.Common.{◌≡◌, ℕ, ◌+◌, ◌<◌, ◌≤◌, List, length, sym, subst, ◌∙◌, arith, inl, inr}
use Rattle.std.proofs.lemmas.Bool.{cases_order}
use Rattle.sporadic_model.specs.Accepted.{TaskNumbers}
use Rattle.schedule_model.specs.JobDef.{JobDef, JobsDef, job_of}
use Rattle.schedule_model.specs.LawfulJobs.{AreLawfulJobs}
use Rattle.schedule_laws.proofs.Spacing.{releases_rise}
use Rattle.phase_machine.specs.MachineDef.{IsNext, IsComing, IsDue, task_in}

-- One tick later the next job to be released is due.
pub due_later : (jobs : List JobDef) (t x j : ℕ) → IsComing jobs t x j → IsDue jobs (t + 1) x j
due_later jobs t x j coming = record {
  most = coming.most;
  own = coming.own;
  later = λ l. omega (arith, coming.later l);
  earlier = λ e l same. omega (arith, coming.earlier e l same);
}

-- The task's first job is due at tick 0.
pub due_at_first : (jobs : List JobDef) (x j : ℕ) → IsNext jobs x 0 j → IsDue jobs 0 x j
due_at_first jobs x j next = record {
  most = next.most;
  own = next.own;
  later = λ l. omega arith;
  earlier = λ e l same. absurd (next.first e (omega arith) l same);
}

-- What is due and not released is the next to be released.
pub coming_here : (jobs : List JobDef) (t x j : ℕ) → IsDue jobs t x j → (j < length jobs → t < (job_of jobs j).release)
    → IsComing jobs t x j
coming_here jobs t x j due later = record { most = due.most; own = due.own; later = later; earlier = due.earlier }

-- After one that is released it is the task's next job.
pub coming_next : (list : JobsDef) (t x j n : ℕ) → AreLawfulJobs list → TaskNumbers list.set x → IsDue list.jobs t x j
    → j < length list.jobs → (job_of list.jobs j).release ≤ t
    → IsNext list.jobs x (j + 1) n → IsComing list.jobs t x n
coming_next list t x j n lawful numbers due l released next = record {
  most = next.most;
  own = next.own;
  later = λ b. later b;
  earlier = λ e b same. earlier e b same;
} where
  later : n < length list.jobs → t < (job_of list.jobs n).release
  later b =
      let rises : (job_of list.jobs j).release < (job_of list.jobs n).release =
      releases_rise list j n lawful (subst (TaskNumbers list.set) (sym (due.own l)) numbers) (omega (arith, next.from_on)) b
      (due.own l ∙ sym (next.own b)) in
      omega (arith, due.later l, rises)

  earlier : (e : ℕ) → e < n → task_in list.jobs e ≡ x → (job_of list.jobs e).release ≤ t
  earlier e b same = elim (cases_order e j) [
    | inl own ↦ rw own released
    | inr other ↦ elim other [
      | inl before ↦ due.earlier e before same
      | inr behind ↦ absurd (next.first e (omega arith) b same)
    ]
  ]
