-- A job that is lawful for the measured set has ended by its deadline, in each schedule that keeps the bounds in cycles. It has ended
-- as well if the bounds are sound on clocks.
use Rattle.std.proofs.Common.{◌≡◌, ℕ, ◌+◌, ◌*◌, ◌<◌, ◌≤◌, Bool, List, length, sym, subst, arith}
use Rattle.std.specs.Prelude.{slice_index}
use Rattle.sporadic_model.specs.SetDef.{SetDef, task_at}
use Rattle.sporadic_model.specs.Accepted.{IsAccepted}
use Rattle.sporadic_model.specs.Bounds.{AreWithinDeadlines}
use Rattle.schedule_model.specs.JobDef.{job_of}
use Rattle.schedule_model.specs.LawfulJobs.{AreLawfulIn, IsLawfulJob}
use Rattle.schedule_model.specs.RowDef.{Trace}
use Rattle.schedule_model.specs.Phase.{phase_of}
use Rattle.schedule_model.specs.Phase.Phase.{Finished}
use Rattle.schedule_model.specs.Activity.{task_of}
use Rattle.schedule_model.specs.Keeping.{KeepsBefore}
use Rattle.schedule_model.specs.declared.rule.Rule.{Rule}
use Rattle.schedule_laws.proofs.Ticks.{finished_stays}
use Rattle.soundness_laws.specs.Sound.{due_tick, KeepsBounds}
use Rattle.clock_laws.specs.Cycles.{in_cycles, times_each}
use Rattle.clock_laws.specs.Clock.{SoundOnClocks, values_in_cycles}
use Rattle.clock_laws.specs.Rounding.{IsRounding}
use Rattle.clock_laws.proofs.Scaled.{each_at}
use Rattle.clock_laws.proofs.RoundedJobs.{jobs_in_cycles, spare_left, due_by_deadline}

ends_by_deadline : (interferes : Trace → ℕ → ℕ → Bool) (k : ℕ) (measured set : SetDef) (w : Trace) (n : ℕ) (bounds values : List ℕ) (j : ℕ)
    → IsAccepted set → IsRounding k measured set → AreLawfulIn measured w.jobs → AreWithinDeadlines set bounds
    → KeepsBounds interferes w n (times_each k bounds) values → j < length w.jobs
    → (job_of w.jobs j).arrival + (task_at measured (task_of w j)).deadline ≤ n
    → phase_of w ((job_of w.jobs j).arrival + (task_at measured (task_of w j)).deadline) j ≡ Finished
ends_by_deadline interferes k measured set w n bounds values j accepted rounding lawful within kept l rows =
    let job : IsLawfulJob measured (job_of w.jobs j) = lawful.each j l in
    let latest = within.to_latest (task_of w j) (omega (arith, job.task, rounding.tasks)) in
    let due : (job_of w.jobs j).release + k * slice_index bounds (task_of w j)
    ≤ (job_of w.jobs j).arrival + (task_at measured (task_of w j)).deadline =
    due_by_deadline k measured set (job_of w.jobs j) (slice_index bounds (task_of w j)) accepted rounding job latest in
    let in_time : due_tick w (times_each k bounds) j ≤ (job_of w.jobs j).arrival + (task_at measured (task_of w j)).deadline =
    omega (arith, due, each_at k bounds (task_of w j)) in
    finished_stays w (due_tick w (times_each k bounds) j) ((job_of w.jobs j).arrival + (task_at measured (task_of w j)).deadline) j in_time
    (kept.finished j l (omega (arith, in_time, rows)))

pub sound_by_deadline : (keeps : Rule → Trace → ℕ → Type 0) (interferes : Trace → ℕ → ℕ → Bool) (whole : ℕ → Bool) (k : ℕ)
    (measured set : SetDef) (w : Trace) (n : ℕ) (bounds values : List ℕ) (j : ℕ) → 1 ≤ k → IsAccepted set → IsRounding k measured set
    → AreWithinDeadlines set bounds → SoundOnClocks keeps interferes whole set bounds values
    → w.set ≡ in_cycles k set → AreLawfulIn measured w.jobs → KeepsBefore keeps w n → j < length w.jobs
    → (job_of w.jobs j).arrival + (task_at measured (task_of w j)).deadline ≤ n
    → phase_of w ((job_of w.jobs j).arrival + (task_at measured (task_of w j)).deadline) j ≡ Finished
sound_by_deadline keeps interferes whole k measured set w n bounds values j some accepted rounding within sound same lawful rows l ends =
    ends_by_deadline interferes k measured set w n bounds (values_in_cycles k values) j accepted rounding lawful within
    (sound k w n some (record {
      schedule = record {
        set_is = same;
        jobs = subst (λ of. AreLawfulIn of w.jobs) (sym same) (jobs_in_cycles k measured set w.jobs some accepted rounding lawful);
        rows = rows;
      };
      spare = λ i here. spare_left k measured set (job_of w.jobs i) whole some accepted rounding (lawful.each i here);
    })) l ends
