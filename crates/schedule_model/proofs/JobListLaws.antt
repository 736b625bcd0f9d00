-- What a list of jobs keeps when a job is pushed.
use Rattle.std.proofs.Common.{◌≡◌, ℕ, ◌<◌, ◌≤◌, ◌+◌, ◌&&◌, not, Bool, true, false, cond, List, [], ◌∷◌, ◌++◌}
use Rattle.std.proofs.Common.{length, refl, ap, sym, subst, ◌∙◌, arith, inl, inr, Option, Some, None, leb, ltb}
use Rattle.std.proofs.Common.{length-append}
use Rattle.std.specs.Option.{option_map_or}
use Rattle.std.specs.List.{list_all}
use Rattle.std.proofs.lemmas.Bool.{and_parts, ltb-false, leb-true, leb-false, cases_lt, or_parts}
use Rattle.std.proofs.Math.ListN.{get_or-append}
use Rattle.std.proofs.Math.Seq.{get_or-append_seam}
use Rattle.std.proofs.lemmas.List.Sums.{sum_by-append}
use Rattle.number_laws.specs.Tests.{all_below}
use Rattle.number_laws.proofs.TestLaws.{all_below-each}
use Rattle.sporadic_model.specs.SetDef.{SetDef, task_at}
use Rattle.sporadic_model.specs.Users.{count_of}
use Rattle.schedule_model.specs.JobDef.{JobDef, JobsDef, job_of, total_ticks, local_ticks, number_of_requests}
use Rattle.schedule_model.specs.LawfulJobs.{is_length_kept, is_resource_in, IsLawfulJob, AreLawfulJobs}
use Rattle.schedule_model.specs.JobLists.{is_listed_script, is_within_budget, last_arrival, is_too_close, is_too_many, is_late}
use Rattle.schedule_model.specs.JobLists.{segment_count, first_refusal, with_job, IsJobList}
use Rattle.schedule_model.specs.Kept.{FitsBehind}
use Rattle.schedule_model.specs.declared.limits.TheConstants.{MOST_JOBS, MOST_SEGMENTS}
use Rattle.sporadic_model.specs.declared.limits.TheConstants.{MOST_TICKS, MOST_RESOURCES}
use Rattle.schedule_model.specs.declared.refusal.JobRefusal.TheVariants as refusal
use Rattle.schedule_model.proofs.Scripts.{number_of_requests-past, script_from, listed_script-parts, resources-more}
use Rattle.schedule_model.proofs.Arrivals.{IsLastAt, last_arrival-at, last_arrival-none}

-- A job for which no refusal is due.
pub record IsFree (jobs : JobsDef) (job : JobDef) : Type 0 where
  pub script : is_listed_script job.script ≡ true
  pub budget : is_within_budget jobs.set job ≡ true
  pub apart : is_too_close jobs job ≡ false
  pub room : is_too_many jobs.jobs job ≡ false
  pub time : is_late jobs.set job ≡ false

none_due : (a b c d e : Bool) → cond (not a) (Some refusal.Script)
    (cond (not b) (Some refusal.OverBudget) (cond c (Some refusal.TooClose)
    (cond d (Some refusal.TooMany) (cond e (Some refusal.Late) None))))
    ≡ None
    → (a ≡ true) × (b ≡ true) × (c ≡ false) × (d ≡ false) × (e ≡ false)
none_due false b c d e h = absurd (cc)
none_due true false c d e h = absurd (cc)
none_due true true true d e h = absurd (cc)
none_due true true false true e h = absurd (cc)
none_due true true false false true h = absurd (cc)
none_due true true false false false h = (refl, refl, refl, refl, refl)

pub accepted_from : (jobs : JobsDef) (job : JobDef) → first_refusal jobs job ≡ None → IsFree jobs job
accepted_from jobs job h =
    let parts : (is_listed_script job.script ≡ true) × (is_within_budget jobs.set job ≡ true)
    × (is_too_close jobs job ≡ false) × (is_too_many jobs.jobs job ≡ false) × (is_late jobs.set job ≡ false) =
    none_due (is_listed_script job.script) (is_within_budget jobs.set job) (is_too_close jobs job)
    (is_too_many jobs.jobs job) (is_late jobs.set job) h in
    record { script = parts.0; budget = parts.1; apart = parts.2; room = parts.3; time = parts.4 }

-- What staying within the budget says.
pub record IsWithin (set : SetDef) (job : JobDef) : Type 0 where
  pub cost : total_ticks job.script ≤ (task_at set job.task).cost
  pub local : local_ticks job.script ≤ (task_at set job.task).local
  pub count : (q : ℕ) → q < length set.resources → number_of_requests job.script q ≤ count_of set job.task q
  pub lengths : list_all (is_length_kept set job.task) job.script ≡ true

pub within_from : (set : SetDef) (job : JobDef) → is_within_budget set job ≡ true → IsWithin set job
unfolding is_within_budget
within_from set job h =
    let a : Bool = leb (total_ticks job.script) (task_at set job.task).cost in
    let b : Bool = leb (local_ticks job.script) (task_at set job.task).local in
    let c : Bool = all_below (length set.resources) (λ q. leb (number_of_requests job.script q) (count_of set job.task q)) in
    let d : Bool = list_all (is_length_kept set job.task) job.script in
    let one : (a ≡ true) × ((b && (c && d)) ≡ true) = and_parts a (b && (c && d)) h in
    let two : (b ≡ true) × ((c && d) ≡ true) = and_parts b (c && d) one.1 in
    let three : (c ≡ true) × (d ≡ true) = and_parts c d two.1 in
    record {
      cost = leb-true _ _ one.0;
      local = leb-true _ _ two.0;
      count = λ q l. leb-true _ _ (all_below-each (length set.resources)
          (λ p. leb (number_of_requests job.script p) (count_of set job.task p)) three.0 q l);
      lengths = three.1;
    }

-- What it says if a job isn't late.
pub in_time_from : (set : SetDef) (job : JobDef) → is_late set job ≡ false
    → (job.arrival ≤ job.release) × (job.release ≤ job.arrival + (task_at set job.task).jitter)
unfolding is_late
in_time_from set job h =
    let parts : (ltb job.release job.arrival ≡ false)
    × (ltb (job.arrival + (task_at set job.task).jitter) job.release ≡ false) =
    or_parts (ltb job.release job.arrival) (ltb (job.arrival + (task_at set job.task).jitter) job.release) h in
    (ltb-false _ _ parts.0, ltb-false _ _ parts.1)

lawful_from : (jobs : JobsDef) (job : JobDef) → job.task < length jobs.set.tasks
    → list_all (is_resource_in (length jobs.set.resources)) job.script ≡ true → IsFree jobs job → IsLawfulJob jobs.set job
lawful_from jobs job task resources accepted =
    let within = within_from jobs.set job accepted.budget in
    let time = in_time_from jobs.set job accepted.time in
    record {
      task = task;
      arrived = time.0;
      in_time = time.1;
      script = script_from job.script accepted.script;
      resources = resources;
      cost = within.cost;
      local = within.local;
      count = λ q. elim (cases_lt q (length jobs.set.resources)) [
        | inl l ↦ within.count q l
        | inr past ↦ let none : number_of_requests job.script q ≡ 0 =
            number_of_requests-past (length jobs.set.resources) q job.script past resources in
            omega arith
      ];
      lengths = within.lengths;
    }

-- The job arrives no earlier than a period after the last one of its task, and is released at most at tick 10^9.
pub record IsApart (jobs : JobsDef) (job : JobDef) : Type 0 where
  pub last : (r : ℕ) → last_arrival jobs.jobs job.task ≡ Some r → r + (task_at jobs.set job.task).period ≤ job.arrival
  pub release : job.release ≤ MOST_TICKS

pub apart_from : (jobs : JobsDef) (job : JobDef) → is_too_close jobs job ≡ false → IsApart jobs job
unfolding is_too_close
apart_from jobs job h =
    let period : ℕ = (task_at jobs.set job.task).period in
    let parts : (option_map_or (λ r. ltb job.arrival (r + period)) (last_arrival jobs.jobs job.task) false ≡ false)
    × (ltb MOST_TICKS job.release ≡ false) =
    or_parts (option_map_or (λ r. ltb job.arrival (r + period)) (last_arrival jobs.jobs job.task) false)
    (ltb MOST_TICKS job.release) h in
    record {
      last = λ r e. let late : ltb job.arrival (r + period) ≡ false = rw e at parts.0 in ltb-false _ _ late;
      release = ltb-false _ _ parts.1;
    }

-- A job that arrives a period after the last one of its task is a period after each of them.
after_each : (jobs : JobsDef) (job : JobDef) (a : ℕ) → AreLawfulJobs jobs → IsApart jobs job → a < length jobs.jobs
    → (job_of jobs.jobs a).task ≡ job.task
    → (job_of jobs.jobs a).arrival + (task_at jobs.set job.task).period ≤ job.arrival
after_each jobs job a lawful apart l same = go (last_arrival jobs.jobs job.task) refl where
  beside : (r : ℕ) → last_arrival jobs.jobs job.task ≡ Some r → IsLastAt jobs.jobs job.task r
      → (job_of jobs.jobs a).arrival + (task_at jobs.set job.task).period ≤ job.arrival
  beside r e last = elim (cases_lt a last.place) [
    | inl before ↦
        let pair : (job_of jobs.jobs a).arrival + (task_at jobs.set (job_of jobs.jobs a).task).period
        ≤ (job_of jobs.jobs last.place).arrival = lawful.apart a last.place before last.within (same ∙ sym last.task) in
        omega (arith, apart.last r e, last.arrival)
    | inr after ↦ elim (cases_lt last.place a) [
      | inl past ↦ absurd (last.after a past l same)
      | inr here ↦
          let e2 : a ≡ last.place = omega arith in
          let e3 : (job_of jobs.jobs a).arrival ≡ r = ap (λ p. (job_of jobs.jobs p).arrival) e2 ∙ last.arrival in
          omega (arith, apart.last r e)
    ]
  ]

  go : (o : Option ℕ) → last_arrival jobs.jobs job.task ≡ o
      → (job_of jobs.jobs a).arrival + (task_at jobs.set job.task).period ≤ job.arrival
  go None e = absurd (last_arrival-none jobs.jobs job.task a e l same)
  go (Some r) e = beside r e (last_arrival-at jobs.jobs job.task r e)

-- The jobs of a list with one more: the old ones, and that one.
pub old_job : (jobs : List JobDef) (job : JobDef) (j : ℕ) → j < length jobs → job_of (jobs ++ job ∷ []) j ≡ job_of jobs j
old_job jobs job j l = get_or-append jobs (job ∷ []) (record { task = 0; arrival = 0; release = 0; script = [] }) j l

pub new_job : (jobs : List JobDef) (job : JobDef) → job_of (jobs ++ job ∷ []) (length jobs) ≡ job
new_job jobs job = get_or-append_seam jobs job [] (record { task = 0; arrival = 0; release = 0; script = [] })

-- What holds of each job of a list, and of one more, holds of each job of the list with that one at its end.
each_more : (P : JobDef → Type 0) (jobs : List JobDef) (job : JobDef) → ((j : ℕ) → j < length jobs → P (job_of jobs j))
    → P job → (j : ℕ) → j < length (jobs ++ job ∷ []) → P (job_of (jobs ++ job ∷ []) j)
each_more P jobs job old new j l = elim (cases_lt j (length jobs)) [
  | inl below ↦ subst P (sym (old_job jobs job j below)) (old j below)
  | inr past ↦
      let e : j ≡ length jobs = omega (arith, length-append jobs (job ∷ [])) in
      subst P (sym (ap (λ k. job_of (jobs ++ job ∷ []) k) e ∙ new_job jobs job)) new
]

pub segments_more : (jobs : List JobDef) (job : JobDef) → segment_count (jobs ++ job ∷ []) ≡ segment_count jobs + length job.script
segments_more jobs job = sum_by-append (λ (j : JobDef). length j.script) jobs (job ∷ []) ∙ omega arith

-- Any two jobs of one task are a period apart, also with the new one.
apart_more : (jobs : JobsDef) (job : JobDef) → AreLawfulJobs jobs → IsApart jobs job
    → (a b : ℕ) → a < b → b < length (jobs.jobs ++ job ∷ [])
    → (job_of (jobs.jobs ++ job ∷ []) a).task ≡ (job_of (jobs.jobs ++ job ∷ []) b).task
    → (job_of (jobs.jobs ++ job ∷ []) a).arrival + (task_at jobs.set (job_of (jobs.jobs ++ job ∷ []) a).task).period
    ≤ (job_of (jobs.jobs ++ job ∷ []) b).arrival
apart_more jobs job lawful apart a b l w = elim (cases_lt b (length jobs.jobs)) [
  | inl below ↦ rw (old_job jobs.jobs job a (omega arith), old_job jobs.jobs job b below) (λ same. lawful.apart a b l below same)
  | inr past ↦
      let e : b ≡ length jobs.jobs = omega (arith, length-append jobs.jobs (job ∷ [])) in
      let old : a < length jobs.jobs = omega arith in
      let new : job_of (jobs.jobs ++ job ∷ []) b ≡ job = ap (λ k. job_of (jobs.jobs ++ job ∷ []) k) e ∙ new_job jobs.jobs job in
      rw (old_job jobs.jobs job a old, new) (λ same. rw same (after_each jobs job a lawful apart old same))
]

-- The list stays lawful with the job at its end.
pub lawful_more : (jobs : JobsDef) (job : JobDef) → AreLawfulJobs jobs → job.task < length jobs.set.tasks
    → list_all (is_resource_in (length jobs.set.resources)) job.script ≡ true
    → first_refusal jobs job ≡ None → AreLawfulJobs (with_job jobs job)
lawful_more jobs job lawful task resources none =
    let accepted = accepted_from jobs job none in
    record {
      each = each_more (IsLawfulJob jobs.set) jobs.jobs job lawful.each (lawful_from jobs job task resources accepted);
      apart = apart_more jobs job lawful (apart_from jobs job accepted.apart);
    }

-- What it says if there is room for a job.
room_from : (jobs : List JobDef) (job : JobDef) → is_too_many jobs job ≡ false
    → (length jobs < MOST_JOBS) × (segment_count jobs + length job.script ≤ MOST_SEGMENTS)
unfolding is_too_many
room_from jobs job h =
    let parts : (leb MOST_JOBS (length jobs) ≡ false) × (ltb MOST_SEGMENTS (segment_count jobs + length job.script) ≡ false) =
    or_parts (leb MOST_JOBS (length jobs)) (ltb MOST_SEGMENTS (segment_count jobs + length job.script)) h in
    (leb-false _ _ parts.0, ltb-false _ _ parts.1)

-- It stays within the limits too.
pub listed_more : (jobs : JobsDef) (job : JobDef) → IsJobList jobs → first_refusal jobs job ≡ None → IsJobList (with_job jobs job)
listed_more jobs job listed none =
    let accepted = accepted_from jobs job none in
    let apart = apart_from jobs job accepted.apart in
    let room = room_from jobs.jobs job accepted.room in
    record {
      scripts = each_more (λ j. is_listed_script j.script ≡ true) jobs.jobs job listed.scripts accepted.script;
      release = each_more (λ j. j.release ≤ MOST_TICKS) jobs.jobs job listed.release apart.release;
      most = omega (arith, room.0, length-append jobs.jobs (job ∷ []));
      segments = omega (arith, room.1, segments_more jobs.jobs job);
    }

-- A job for which no refusal is due fits at the end of the others.
pub fits_from : (jobs : JobsDef) (job : JobDef) → length jobs.set.resources ≤ MOST_RESOURCES
    → list_all (is_resource_in (length jobs.set.resources)) job.script ≡ true
    → first_refusal jobs job ≡ None → FitsBehind jobs.jobs job
fits_from jobs job few resources none =
    let accepted = accepted_from jobs job none in
    let time = in_time_from jobs.set job accepted.time in
    let apart = apart_from jobs job accepted.apart in
    let room = room_from jobs.jobs job accepted.room in
    record {
      listed = (listed_script-parts job.script accepted.script).1;
      resources = resources-more (length jobs.set.resources) MOST_RESOURCES job.script few resources;
      arrival = omega (arith, time.0, apart.release);
      release = apart.release;
      fewer = room.0;
      room = room.1;
    }
