-- The last arrival of a task: which job has it, and what it says of the jobs before.
use Rattle.std.proofs.Common.{◌≡◌, ℕ, zero, suc, ◌<◌, ◌==◌, true, cond, List, [], ◌∷◌, length, drop, get_or, refl}
use Rattle.std.proofs.Common.{◌∙◌, arith, inl, inr, Option, Some, None}
use Rattle.std.specs.Option.{option_or}
use Rattle.std.proofs.lemmas.Bool.{cases_Bool, eqb-true, eq-eqb}
use Rattle.schedule_model.specs.JobDef.{SegmentDef, JobDef, job_of}
use Rattle.schedule_model.specs.JobLists.{last_arrival}
use Rattle.schedule_model.specs.Kept.{kept_job, kept_jobs}
use Rattle.schedule_model.specs.declared.kept_jobs.KeptJob.{KeptJob}
use Rattle.schedule_model.proofs.KeptJobLaws.{last_arrival-scripts}

last_arrival-here : (job : JobDef) (jobs : List JobDef) (x : ℕ) → last_arrival jobs x ≡ None → (job.task == x) ≡ true
    → last_arrival (job ∷ jobs) x ≡ Some job.arrival
last_arrival-here job jobs x none same = rw (none, same) refl

-- The job at a place is the last one of its task, and arrived at r.
pub record IsLastAt (jobs : List JobDef) (x r : ℕ) : Type 0 where
  pub place : ℕ
  pub within : place < length jobs
  pub task : (job_of jobs place).task ≡ x
  pub arrival : (job_of jobs place).arrival ≡ r
  pub after : (c : ℕ) → place < c → c < length jobs → (job_of jobs c).task ≡ x → ⊥

pub option_or-none : {A : Type 0} (o p : Option A) → option_or o p ≡ None → (o ≡ None) × (p ≡ None)
option_or-none None p h = (refl, h)
option_or-none (Some r) p h = absurd (cc)

not_here : (job : JobDef) (x : ℕ) → cond (job.task == x) (Some job.arrival) None ≡ None → job.task ≡ x → ⊥
not_here job x h e = let same : (job.task == x) ≡ true = eq-eqb _ _ e in let g : Some job.arrival ≡ None = rw same at h in cc

-- If a task has no last arrival, no job is of it.
pub last_arrival-none : (jobs : List JobDef) (x c : ℕ) → last_arrival jobs x ≡ None → c < length jobs → (job_of jobs c).task ≡ x → ⊥
last_arrival-none [] x c h l e = omega arith
last_arrival-none (job ∷ jobs) x zero h l e =
    not_here job x (option_or-none (last_arrival jobs x) (cond (job.task == x) (Some job.arrival) None) h).1 e
last_arrival-none (job ∷ jobs) x (suc c) h l e = last_arrival-none jobs x c
    (option_or-none (last_arrival jobs x) (cond (job.task == x) (Some job.arrival) None) h).0 (omega arith) e

here_after : (job : JobDef) (jobs : List JobDef) (x c : ℕ) → last_arrival jobs x ≡ None → zero < c
    → c < length (job ∷ jobs) → (job_of (job ∷ jobs) c).task ≡ x → ⊥
here_after job jobs x zero none l h e = omega arith
here_after job jobs x (suc c) none l h e = last_arrival-none jobs x c none (omega arith) e

later_after : (job : JobDef) (jobs : List JobDef) (x r c : ℕ) → (last : IsLastAt jobs x r) → suc last.place < c
    → c < length (job ∷ jobs) → (job_of (job ∷ jobs) c).task ≡ x → ⊥
later_after job jobs x r zero last l h e = omega arith
later_after job jobs x r (suc c) last l h e = last.after c (omega arith) (omega arith) e

found_here : (job : JobDef) (jobs : List JobDef) (x r : ℕ) → last_arrival jobs x ≡ None
    → cond (job.task == x) (Some job.arrival) None ≡ Some r → IsLastAt (job ∷ jobs) x r
found_here job jobs x r none h = elim (cases_Bool (job.task == x)) [
  | inl same ↦
      let e : job.task ≡ x = eqb-true _ _ same in
      let g : Some job.arrival ≡ Some r = rw same at h in
      record { place = 0; within = omega arith; task = e; arrival = cc; after = λ c l b f. here_after job jobs x c none l b f }
  | inr other ↦ let g : None ≡ Some r = rw other at h in absurd (cc)
]

found_later : (job : JobDef) (jobs : List JobDef) (x r : ℕ) → IsLastAt jobs x r → IsLastAt (job ∷ jobs) x r
found_later job jobs x r last = record {
  place = suc last.place;
  within = omega (arith, last.within);
  task = last.task;
  arrival = last.arrival;
  after = λ c l b e. later_after job jobs x r c last l b e;
}

last_of_tail : (job : JobDef) (jobs : List JobDef) (x r : ℕ)
    → ((s : ℕ) → last_arrival jobs x ≡ Some s → IsLastAt jobs x s) → (o : Option ℕ) → last_arrival jobs x ≡ o
    → option_or o (cond (job.task == x) (Some job.arrival) None) ≡ Some r → IsLastAt (job ∷ jobs) x r
last_of_tail job jobs x r tail None e g = found_here job jobs x r e g
last_of_tail job jobs x r tail (Some s) e g = found_later job jobs x r (tail r (e ∙ g))

-- The last arrival is that of the task's last job.
pub last_arrival-at : (jobs : List JobDef) (x r : ℕ) → last_arrival jobs x ≡ Some r → IsLastAt jobs x r
last_arrival-at [] x r h = absurd (cc)
last_arrival-at (job ∷ jobs) x r h = last_of_tail job jobs x r (λ s e. last_arrival-at jobs x s e) (last_arrival jobs x) refl h

-- A job of the task that has no job of the task after it has the task's last arrival.
pub last_arrival-found : (segments : List SegmentDef) (a b : ℕ) (jobs : List KeptJob) (n x : ℕ) (d : KeptJob) → n < length jobs
    → last_arrival (kept_jobs segments b (drop (suc n) jobs)) x ≡ None → ((get_or jobs n d).task.0 == x) ≡ true
    → last_arrival (kept_jobs segments a jobs) x ≡ Some (get_or jobs n d).arrival
last_arrival-found segments a b [] n x d l none same = absurd (omega arith)
last_arrival-found segments a b (job ∷ jobs) zero x d l none same =
    last_arrival-here (kept_job segments a job) (kept_jobs segments job.end jobs) x
    (last_arrival-scripts segments segments job.end b jobs x ∙ none) same
last_arrival-found segments a b (job ∷ jobs) (suc n) x d l none same =
    rw (last_arrival-found segments job.end b jobs n x d (omega arith) none same) refl
