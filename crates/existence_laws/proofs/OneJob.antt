-- A job of one local tick is a lawful job of any task of an accepted set.
use Rattle.std.proofs.Common.{◌≡◌, ℕ, ◌<◌, [], ◌∷◌, length, None, refl, subst, sym, arith}
use Rattle.sporadic_model.specs.SetDef.{SetDef, task_at}
use Rattle.sporadic_model.specs.Accepted.{IsAccepted, IsFormed, TaskOrder}
use Rattle.sporadic_model.proofs.Laws.{formed_of_accepted, cost_of_formed}
use Rattle.schedule_model.specs.JobDef.{JobDef, SegmentDef, job_of}
use Rattle.schedule_model.specs.LawfulJobs.{IsLawfulJob, AreLawfulIn}
use Rattle.existence_laws.specs.Existing.{HasLawfulJob}

-- The job of task x that is released at this tick and runs for one, with no request.
abbrev pub one_tick : ℕ → ℕ → JobDef
one_tick x tick = record { task = x; arrival = tick; release = tick; script = record { local = 1; request = None } ∷ [] }

one_tick_lawful : (set : SetDef) (x tick : ℕ) → IsAccepted set → x < length set.tasks → IsLawfulJob set (one_tick x tick)
one_tick_lawful set x tick accepted here =
    let formed : IsFormed set = formed_of_accepted set accepted in
    let numbers : TaskOrder set x = formed.numbers x here in
    record {
      task = here;
      arrived = omega arith;
      in_time = omega arith;
      script = refl;
      resources = refl;
      cost = omega (arith, cost_of_formed set x formed here);
      local = omega (arith, numbers.local_from);
      count = λ q. omega arith;
      lengths = refl;
    }

-- A list of one lawful job is lawful.
alone : (set : SetDef) (job : JobDef) → IsLawfulJob set job → AreLawfulIn set (job ∷ [])
alone set job lawful = record {
  each = λ j l. let first : 0 ≡ j = omega (arith, l) in subst (λ k. IsLawfulJob set (job_of (job ∷ []) k)) first lawful;
  apart = λ a b before l same. absurd (omega (arith, before, l));
}

pub one_job : (set : SetDef) (x tick : ℕ) → IsAccepted set → x < length set.tasks → HasLawfulJob set x tick
one_job set x tick accepted here =
    let lawful : IsLawfulJob set (one_tick x tick) = one_tick_lawful set x tick accepted here in
    record { job = one_tick x tick; task = refl; release = refl; lawful = lawful; alone = alone set (one_tick x tick) lawful }
