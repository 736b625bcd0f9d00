-- One more line of a file of jobs.
use Rattle.std.proofs.Common.{◌≡◌, ◌<◌, ◌+◌, ◌++◌, ◌⊎◌, ℕ, Bool, true, false, List, [], ◌∷◌, length, map, take, Some, Result}
use Rattle.std.proofs.Common.{Ok, Err, refl, sym, ap, ◌∙◌, subst, arith, inl, inr, ⊎_elim}
use Rattle.std.proofs.lemmas.List.{map-append, length-map, take-map}
use Rattle.sporadic_model.specs.SetDef.{SetDef}
use Rattle.sporadic_model.proofs.Mapped.{element-map}
use Rattle.schedule_model.specs.JobDef.{JobsDef}
use Rattle.schedule_model.specs.JobLists.{with_job}
use Rattle.trace_csv.specs.Records.{Fields, line_at}
use Rattle.trace_csv.specs.declared.refusal.JobsRefusal.{JobsRefusal}
use Rattle.trace_csv.specs.declared.refusal.JobsRefusal.TheVariants as refusal
use Rattle.trace_csv.specs.JobLines.{completed, job_written, jobs_written, line_refusal, refusal_at}
use Rattle.trace_csv.specs.LinesTaken.{reason_at, IsFirst, LineDone, LinesDone}
use Rattle.trace_csv.specs.JobAnswers.{LineRead, LineTaken, job_reason, HasJobs}
use Rattle.trace_csv.specs.JobsFile.{IsFirstRefused, LinesRead}

-- If a line is refused for what is on it, it is refused for that after the lines in the list too.
pub refused_as_read : (r : JobsRefusal) (before after : JobsDef) (line : Fields) (k : ℕ) → LineRead (Err r) before.set line k
    → LineTaken {T = Unit {0}} (Err r) before after line k
refused_as_read (refusal.Fields n) before after line k read = rw read refl
refused_as_read (refusal.Number n) before after line k read = rw read refl
refused_as_read (refusal.UnknownName n) before after line k read = rw read refl
refused_as_read (refusal.Script n) before after line k read = rw read refl
refused_as_read (refusal.OverBudget n) before after line k read = read before.jobs
refused_as_read (refusal.TooClose n) before after line k read = rw read refl
refused_as_read (refusal.TooMany n) before after line k read = rw read refl
refused_as_read (refusal.Late n) before after line k read = rw read refl
refused_as_read refusal.Memory before after line k read = tt

-- A line of more fields than four is refused for its fields, with an arrival and without.
pub long_refused : (before : JobsDef) (b : Bool) (line : Fields) (k : ℕ) → 4 < length line
    → line_refusal before (completed b line) k ≡ Some (refusal.Fields k)
long_refused before b [] k more = absurd (omega arith)
long_refused before b (f1 ∷ []) k more = absurd (omega arith)
long_refused before b (f1 ∷ f2 ∷ []) k more = absurd (omega arith)
long_refused before b (f1 ∷ f2 ∷ f3 ∷ []) k more = absurd (omega arith)
long_refused before b (f1 ∷ f2 ∷ f3 ∷ f4 ∷ []) k more = absurd (omega arith)
long_refused before true (f1 ∷ f2 ∷ f3 ∷ f4 ∷ f5 ∷ line) k more = refl
long_refused before false (f1 ∷ f2 ∷ f3 ∷ f4 ∷ f5 ∷ line) k more = refl

-- The list with the job of the line has the jobs of the lines with it.
with_line : (set : SetDef) (b : Bool) (before : List Fields) (line : Fields)
    → with_job (jobs_written set (map (completed b) before)) (job_written set (completed b line))
    ≡ jobs_written set (map (completed b) (before ++ line ∷ []))
with_line set b before line =
    rw (map-append (completed b) before (line ∷ []), map-append (job_written set) (map (completed b) before) (completed b line ∷ [])) refl

-- What is said of a line after the jobs in the list is said of it after the lines that wrote them.
module _ (set : SetDef) (b : Bool) (before : List Fields) (line : Fields) (k : ℕ) (old new : JobsDef) (has : HasJobs set b before old) where
  refused : (r : JobsRefusal) → line_refusal old (completed b line) k ≡ Some r → job_reason set b before line k ≡ Some r
  refused r due = ap (λ (d : JobsDef). line_refusal d (completed b line) k) (sym has) ∙ due

  pub job_done : (r : Result (Unit {0}) JobsRefusal) → LineTaken r old new (completed b line) k
      → LineDone (job_reason set b) (λ e. e ≡ refusal.Memory) (HasJobs set b) before line k new r
  job_done (Ok u) taken = (
    ap (λ (d : JobsDef). line_refusal d (completed b line) k) (sym has) ∙ taken.0,
    taken.1 ∙ ap (λ (d : JobsDef). with_job d (job_written d.set (completed b line))) has ∙ with_line set b before line,
  )
  job_done (Err (refusal.Fields n)) taken = inr (refused (refusal.Fields n) taken)
  job_done (Err (refusal.Number n)) taken = inr (refused (refusal.Number n) taken)
  job_done (Err (refusal.UnknownName n)) taken = inr (refused (refusal.UnknownName n) taken)
  job_done (Err (refusal.Script n)) taken = inr (refused (refusal.Script n) taken)
  job_done (Err (refusal.OverBudget n)) taken = inr (refused (refusal.OverBudget n) taken)
  job_done (Err (refusal.TooClose n)) taken = inr (refused (refusal.TooClose n) taken)
  job_done (Err (refusal.TooMany n)) taken = inr (refused (refusal.TooMany n) taken)
  job_done (Err (refusal.Late n)) taken = inr (refused (refusal.Late n) taken)
  job_done (Err refusal.Memory) taken = inl refl

-- Why a line is refused is said alike of the lines and of their completed forms.
reason_of_line : (set : SetDef) (b : Bool) (lines : List Fields) (i : ℕ) → i < length lines
    → refusal_at set (map (completed b) lines) i ≡ reason_at (job_reason set b) lines i
reason_of_line set b lines i h =
    ap (λ (ls : List Fields). line_refusal (jobs_written set ls) (line_at (map (completed b) lines) i) (i + 1)) (take-map (completed b) i lines)
    ∙ ap (λ (l : Fields). line_refusal (jobs_written set (map (completed b) (take i lines))) l (i + 1))
    (element-map (completed b) lines i [] [] h)

-- What is said of all lines.
module _ (set : SetDef) (b : Bool) (lines : List Fields) where
  pub jobs_read : (jobs : JobsDef) → LinesDone (job_reason set b) (λ e. e ≡ refusal.Memory) (HasJobs set b) lines jobs (Ok tt)
      → LinesRead (Ok jobs) set (map (completed b) lines)
  jobs_read jobs done = (
    (λ i h.
        let within : i < length lines = omega (arith, h, length-map lines (completed b)) in
        reason_of_line set b lines i within ∙ done.0 i within),
    done.1,
  )

  first : (i : ℕ) (r : JobsRefusal) → IsFirst (job_reason set b) lines i r → IsFirstRefused set (map (completed b) lines) i r
  first i r f = record {
    within = omega (arith, f.within, length-map lines (completed b));
    earlier = λ j h. reason_of_line set b lines j (omega (arith, h, f.within)) ∙ f.earlier j h;
    here = reason_of_line set b lines i f.within ∙ f.here;
  }

  said : (r : JobsRefusal) → (i : ℕ) × IsFirstRefused set (map (completed b) lines) i r → LinesRead (Err r) set (map (completed b) lines)
  said (refusal.Fields k) f = f
  said (refusal.Number k) f = f
  said (refusal.UnknownName k) f = f
  said (refusal.Script k) f = f
  said (refusal.OverBudget k) f = f
  said (refusal.TooClose k) f = f
  said (refusal.TooMany k) f = f
  said (refusal.Late k) f = f
  said refusal.Memory f = tt

  pub jobs_refused : (r : JobsRefusal) → (r ≡ refusal.Memory) ⊎ ((i : ℕ) × IsFirst (job_reason set b) lines i r)
      → LinesRead (Err r) set (map (completed b) lines)
  jobs_refused r w =
      ⊎_elim (λ e. subst (λ (x : JobsRefusal). LinesRead (Err x) set (map (completed b) lines)) (sym e) tt)
      (λ f. said r (f.0, first f.0 r f.1)) w
