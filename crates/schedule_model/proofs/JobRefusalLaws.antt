-- No refusal is due for a job with which a list is lawful and within its limits.
use Rattle.std.proofs.Common.{◌≡◌, ℕ, ◌<◌, ◌≤◌, ◌+◌, not, Bool, true, false, cond, List, [], ◌∷◌, ◌++◌, length}
use Rattle.std.proofs.Common.{refl, sym, ap, ◌∙◌, subst, arith, Option, Some, None, leb, ltb, length-append}
use Rattle.std.specs.Option.{option_map_or}
use Rattle.std.proofs.lemmas.Bool.{and_from, le-leb, le-ltb, lt-leb, or_from}
use Rattle.number_laws.specs.Tests.{all_below}
use Rattle.number_laws.proofs.TestLaws.{all_below-from}
use Rattle.sporadic_model.specs.SetDef.{task_at}
use Rattle.sporadic_model.specs.Users.{count_of}
use Rattle.sporadic_model.specs.declared.limits.TheConstants.{MOST_TICKS}
use Rattle.schedule_model.specs.JobDef.{JobDef, JobsDef, job_of, total_ticks, local_ticks, number_of_requests}
use Rattle.schedule_model.specs.LawfulJobs.{IsLawfulJob, AreLawfulJobs}
use Rattle.schedule_model.specs.JobLists.{is_listed_script, is_within_budget, last_arrival, is_too_close, is_too_many, is_late}
use Rattle.schedule_model.specs.JobLists.{segment_count, first_refusal, with_job, IsJobList}
use Rattle.schedule_model.specs.declared.limits.TheConstants.{MOST_JOBS, MOST_SEGMENTS}
use Rattle.schedule_model.specs.declared.refusal.JobRefusal.TheVariants as refusal
use Rattle.schedule_model.proofs.Arrivals.{IsLastAt, last_arrival-at}
use Rattle.schedule_model.proofs.JobListLaws.{old_job, new_job, segments_more}

within_budget : (jobs : JobsDef) (job : JobDef) → IsLawfulJob jobs.set job → is_within_budget jobs.set job ≡ true
unfolding is_within_budget
within_budget jobs job lawful =
    and_from (leb (total_ticks job.script) (task_at jobs.set job.task).cost) _ (le-leb _ _ lawful.cost)
    (and_from (leb (local_ticks job.script) (task_at jobs.set job.task).local) _ (le-leb _ _ lawful.local)
    (and_from (all_below (length jobs.set.resources) (λ q. leb (number_of_requests job.script q) (count_of jobs.set job.task q))) _
    (all_below-from (length jobs.set.resources)
    (λ q. leb (number_of_requests job.script q) (count_of jobs.set job.task q)) (λ q l. le-leb _ _ (lawful.count q)))
    lawful.lengths))

-- What holds of each job of the list with one more holds of that one.
of_last : (P : JobDef → Type 0) (jobs : List JobDef) (job : JobDef)
    → ((j : ℕ) → j < length (jobs ++ job ∷ []) → P (job_of (jobs ++ job ∷ []) j)) → P job
of_last P jobs job each = subst P (new_job jobs job) (each (length jobs) (omega (arith, length-append jobs (job ∷ []))))

-- The job arrives a period after the last one of its task.
after_last : (jobs : JobsDef) (job : JobDef) (r : ℕ) → AreLawfulJobs (with_job jobs job)
    → last_arrival jobs.jobs job.task ≡ Some r → r + (task_at jobs.set job.task).period ≤ job.arrival
after_last jobs job r lawful e =
    let last : IsLastAt jobs.jobs job.task r = last_arrival-at jobs.jobs job.task r e in
    let old : job_of (jobs.jobs ++ job ∷ []) last.place ≡ job_of jobs.jobs last.place = old_job jobs.jobs job last.place last.within in
    let new : job_of (jobs.jobs ++ job ∷ []) (length jobs.jobs) ≡ job = new_job jobs.jobs job in
    let same : (job_of (jobs.jobs ++ job ∷ []) last.place).task
    ≡ (job_of (jobs.jobs ++ job ∷ []) (length jobs.jobs)).task =
    ap (λ j. j.task) old ∙ last.task ∙ sym (ap (λ j. j.task) new) in
    let apart : (job_of (jobs.jobs ++ job ∷ []) last.place).arrival
    + (task_at jobs.set (job_of (jobs.jobs ++ job ∷ []) last.place).task).period
    ≤ (job_of (jobs.jobs ++ job ∷ []) (length jobs.jobs)).arrival =
    lawful.apart last.place (length jobs.jobs) last.within (omega (arith, length-append jobs.jobs (job ∷ []))) same in
    let period : (task_at jobs.set (job_of (jobs.jobs ++ job ∷ []) last.place).task).period
    ≡ (task_at jobs.set job.task).period =
    ap (λ j. (task_at jobs.set j.task).period) old ∙ ap (λ x. (task_at jobs.set x).period) last.task in
    omega (arith, apart, period, ap (λ j. j.arrival) old, ap (λ j. j.arrival) new, last.arrival)

far_enough : (jobs : JobsDef) (job : JobDef) → AreLawfulJobs (with_job jobs job) → job.release ≤ MOST_TICKS → is_too_close jobs job ≡ false
unfolding is_too_close
far_enough jobs job lawful release = or_from _ _
    (go (last_arrival jobs.jobs job.task) (λ r e. after_last jobs job r lawful e)) (le-ltb _ _ release)
  where
    go : (o : Option ℕ) → ((r : ℕ) → o ≡ Some r → r + (task_at jobs.set job.task).period ≤ job.arrival)
        → option_map_or (λ r. ltb job.arrival (r + (task_at jobs.set job.task).period)) o false ≡ false
    go None h = refl
    go (Some r) h = le-ltb _ _ (h r refl)

has_room : (jobs : JobsDef) (job : JobDef) → IsJobList (with_job jobs job) → is_too_many jobs.jobs job ≡ false
unfolding is_too_many
has_room jobs job listed =
    let fewer : length jobs.jobs < MOST_JOBS = omega (arith, listed.most, length-append jobs.jobs (job ∷ [])) in
    let shorter : segment_count jobs.jobs + length job.script ≤ MOST_SEGMENTS =
    omega (arith, listed.segments, segments_more jobs.jobs job) in
    or_from _ _ (lt-leb _ _ fewer) (le-ltb _ _ shorter)

is_early : (jobs : JobsDef) (job : JobDef) → IsLawfulJob jobs.set job → is_late jobs.set job ≡ false
unfolding is_late
is_early jobs job lawful = or_from _ _ (le-ltb _ _ lawful.arrived) (le-ltb _ _ lawful.in_time)

five : (a b c d e : Bool) → a ≡ true → b ≡ true → c ≡ false → d ≡ false → e ≡ false
    → cond (not a) (Some refusal.Script)
    (cond (not b) (Some refusal.OverBudget) (cond c (Some refusal.TooClose)
    (cond d (Some refusal.TooMany) (cond e (Some refusal.Late) None))))
    ≡ None
five a b c d e f g h i j = rw (f, g, h, i, j) refl

pub free_from_more : (jobs : JobsDef) (job : JobDef) → AreLawfulJobs (with_job jobs job) → IsJobList (with_job jobs job)
    → first_refusal jobs job ≡ None
free_from_more jobs job lawful listed =
    five (is_listed_script job.script) (is_within_budget jobs.set job) (is_too_close jobs job) (is_too_many jobs.jobs job)
    (is_late jobs.set job)
    (of_last (λ j. is_listed_script j.script ≡ true) jobs.jobs job listed.scripts)
    (within_budget jobs job (of_last (IsLawfulJob jobs.set) jobs.jobs job lawful.each))
    (far_enough jobs job lawful (of_last (λ j. j.release ≤ MOST_TICKS) jobs.jobs job listed.release))
    (has_room jobs job listed)
    (is_early jobs job (of_last (IsLawfulJob jobs.set) jobs.jobs job lawful.each))
