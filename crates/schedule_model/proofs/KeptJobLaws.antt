-- Jobs in small form: how many jobs and segments there are, which is where, and what one more job adds.
use Rattle.std.proofs.Common.{◌≡◌, ℕ, zero, suc, ◌+◌, ◌-◌, ◌<◌, ◌≤◌, ◌==◌, ◌++◌, false, List, [], ◌∷◌, length, get_or}
use Rattle.std.proofs.Common.{refl, ◌∙◌, ap, arith, drop, None}
use Rattle.std.proofs.lemmas.List.{take-append-le, drop-append-le, length-take-le, length-drop}
use Rattle.std.proofs.Math.Seq.{drop-append_seam, take-length}
use Rattle.std.proofs.lemmas.List.Sums.{sum_by-cons}
use Rattle.schedule_model.specs.JobDef.{SegmentDef, JobDef, job_of}
use Rattle.schedule_model.specs.JobLists.{last_arrival, segment_count}
use Rattle.schedule_model.specs.Kept.{between, kept_job, kept_jobs, start_of, Rise}
use Rattle.schedule_model.specs.declared.kept_jobs.KeptJob.{KeptJob}

-- Between two places within a list there are as many segments as the places are apart.
pub between-length : (from end : ℕ) (segments : List SegmentDef) → from ≤ end → end ≤ length segments
    → length (between from end segments) ≡ end - from
between-length from end segments o w =
    length-take-le (end - from) (drop from segments) (omega (arith, length-drop from segments)) ∙ refl

-- What comes after a list doesn't matter to the places within it.
between-append : (from end : ℕ) (segments more : List SegmentDef) → from ≤ end → end ≤ length segments
    → between from end (segments ++ more) ≡ between from end segments
between-append from end segments more o w =
    rw (drop-append-le from segments more (omega arith))
    (take-append-le (end - from) (drop from segments) more (omega (arith, length-drop from segments)))

between-more : (segments more : List SegmentDef) → between (length segments) (length segments + length more) (segments ++ more) ≡ more
between-more segments more =
    let whole : length segments + length more - length segments ≡ length more = omega arith in
    rw (drop-append_seam segments more, whole) (take-length more)

pub kept_jobs-length : (segments : List SegmentDef) (from : ℕ) (jobs : List KeptJob)
    → length (kept_jobs segments from jobs) ≡ length jobs
kept_jobs-length segments from [] = refl
kept_jobs-length segments from (job ∷ jobs) = ap suc (kept_jobs-length segments job.end jobs)

pub kept_jobs-at : (segments : List SegmentDef) (from : ℕ) (jobs : List KeptJob) (j : ℕ) (d : KeptJob) → j < length jobs
    → job_of (kept_jobs segments from jobs) j ≡ kept_job segments (start_of from jobs j) (get_or jobs j d)
kept_jobs-at segments from [] j d l = absurd (omega arith)
kept_jobs-at segments from (job ∷ jobs) zero d l = refl
kept_jobs-at segments from (job ∷ jobs) (suc j) d l = kept_jobs-at segments job.end jobs j d (omega arith)

pub Rise-order : (from : ℕ) (jobs : List KeptJob) (last : ℕ) → Rise from jobs last → from ≤ last
Rise-order from [] last h = omega arith
Rise-order from (job ∷ jobs) last h = omega (arith, h.0, Rise-order job.end jobs last h.1)

-- A job's segments end no earlier than they begin, and within the whole.
pub Rise-at : (from : ℕ) (jobs : List KeptJob) (last j : ℕ) (d : KeptJob) → Rise from jobs last → j < length jobs
    → (start_of from jobs j ≤ (get_or jobs j d).end) × ((get_or jobs j d).end ≤ last)
Rise-at from [] last j d h l = absurd (omega arith)
Rise-at from (job ∷ jobs) last zero d h l = (h.0, Rise-order job.end jobs last h.1)
Rise-at from (job ∷ jobs) last (suc j) d h l = Rise-at job.end jobs last j d h.1 (omega arith)

pub Rise-more : (from : ℕ) (jobs : List KeptJob) (last : ℕ) (job : KeptJob) → Rise from jobs last → last ≤ job.end
    → Rise from (jobs ++ job ∷ []) job.end
Rise-more from [] last job h l = (omega (arith, h), refl)
Rise-more from (first ∷ jobs) last job h l = (h.0, Rise-more first.end jobs last job h.1 l)

pub start_of-first : (from : ℕ) (jobs : List KeptJob) → from ≡ start_of from jobs 0
start_of-first from [] = refl
start_of-first from (job ∷ jobs) = refl

-- The segments of a job after the first begin where those of the one before it end.
pub start_of-next : (from : ℕ) (jobs : List KeptJob) (j : ℕ) (d : KeptJob) → j < length jobs
    → start_of from jobs (suc j) ≡ (get_or jobs j d).end
start_of-next from [] j d l = absurd (omega arith)
start_of-next from (job ∷ []) zero d l = refl
start_of-next from (job ∷ next ∷ jobs) zero d l = refl
start_of-next from (job ∷ jobs) (suc j) d l = start_of-next job.end jobs j d (omega arith)

-- The jobs have as many segments as there are between where the first begin and where the last end.
pub kept_jobs-count : (segments : List SegmentDef) (from : ℕ) (jobs : List KeptJob) (last : ℕ) → Rise from jobs last
    → last ≤ length segments → segment_count (kept_jobs segments from jobs) + from ≡ last
kept_jobs-count segments from [] last h l = omega (arith, h)
kept_jobs-count segments from (job ∷ jobs) last h l =
    omega (
      arith,
      h.0,
      sum_by-cons (λ (j : JobDef). length j.script) (kept_job segments from job) (kept_jobs segments job.end jobs),
      between-length from job.end segments h.0 (omega (arith, Rise-order job.end jobs last h.1)),
      kept_jobs-count segments job.end jobs last h.1 l,
    )

-- One more job, whose segments come after those of the others.
pub kept_jobs-more : (segments more : List SegmentDef) (from : ℕ) (jobs : List KeptJob) (job : KeptJob)
    → Rise from jobs (length segments) → job.end ≡ length segments + length more
    → kept_jobs (segments ++ more) from (jobs ++ job ∷ [])
    ≡ kept_jobs segments from jobs
    ++ record { task = job.task.0; arrival = job.arrival; release = job.release; script = more } ∷ []
kept_jobs-more segments more from [] job h e = rw (h, e, between-more segments more) refl
kept_jobs-more segments more from (first ∷ jobs) job h e =
    let within : first.end ≤ length segments = Rise-order first.end jobs (length segments) h.1 in
    rw (between-append from first.end segments more h.0 within, kept_jobs-more segments more first.end jobs job h.1 e) refl

-- The last arrivals don't depend on the segments.
pub last_arrival-scripts : (s t : List SegmentDef) (a b : ℕ) (jobs : List KeptJob) (x : ℕ)
    → last_arrival (kept_jobs s a jobs) x ≡ last_arrival (kept_jobs t b jobs) x
last_arrival-scripts s t a b [] x = refl
last_arrival-scripts s t a b (job ∷ jobs) x = rw (last_arrival-scripts s t job.end job.end jobs x) refl

-- Nor does an earlier job of another task change them.
pub last_arrival-missed : (segments : List SegmentDef) (a b : ℕ) (jobs : List KeptJob) (n x : ℕ) (d : KeptJob) → n < length jobs
    → last_arrival (kept_jobs segments b (drop (suc n) jobs)) x ≡ None → ((get_or jobs n d).task.0 == x) ≡ false
    → last_arrival (kept_jobs segments a (drop n jobs)) x ≡ None
last_arrival-missed segments a b [] n x d l none other = absurd (omega arith)
last_arrival-missed segments a b (job ∷ jobs) zero x d l none other =
    rw (last_arrival-scripts segments segments job.end b jobs x ∙ none, other) refl
last_arrival-missed segments a b (job ∷ jobs) (suc n) x d l none other =
    last_arrival-missed segments a b jobs n x d (omega arith) none other
