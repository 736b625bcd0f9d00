-- A job that is lawful for a set measured in cycles is a job of the set in ticks, put in cycles. It leaves part of a tick of its cost,
-- and has to end before its deadline.
use Rattle.std.proofs.Common.{◌≡◌, ℕ, ◌+◌, ◌-◌, ◌*◌, ◌≤◌, Bool, true, List, [], ◌∷◌, length, refl}
use Rattle.std.proofs.Common.{arith, inl, inr, Option, None, Some, nat_lt}
use Rattle.std.specs.Prelude.{nat_le}
use Rattle.std.specs.Option.{option_map_or}
use Rattle.std.specs.List.{list_all}
use Rattle.std.proofs.Math.Nat.{mul-le-mul_left}
use Rattle.std.proofs.lemmas.Bool.{cases_Bool, and_parts, and_from, leb-true, le-leb, ltb-true, lt-ltb}
use Rattle.sporadic_model.specs.SetDef.{SetDef, task_at, latest_bound}
use Rattle.sporadic_model.specs.Users.{length_of}
use Rattle.sporadic_model.specs.Accepted.{IsAccepted, TaskNumbers}
use Rattle.sporadic_model.proofs.Laws.{numbers_of_accepted}
use Rattle.schedule_model.specs.JobDef.{SegmentDef, JobDef, job_of, total_ticks}
use Rattle.schedule_model.specs.LawfulJobs.{IsLawfulJob, AreLawfulIn, is_resource_in, is_length_kept}
use Rattle.clock_laws.specs.Cycles.{in_cycles, own_cycles}
use Rattle.clock_laws.specs.Rounding.{IsRoundedTask, IsRounding}
use Rattle.clock_laws.proofs.Sets.{tasks_in, period_in, cost_in, local_in, jitter_in, count_in, length_in}

all_pass : {X : Type 0} (p q : X → Bool) (xs : List X) → ((x : X) → p x ≡ true → q x ≡ true) → list_all p xs ≡ true → list_all q xs ≡ true
all_pass p q [] more h = refl
all_pass p q (x ∷ xs) more h =
    let parts : (p x ≡ true) × (list_all p xs ≡ true) = and_parts _ _ h in
    and_from _ _ (more x parts.0) (all_pass p q xs more parts.1)

resource_more : (m n : ℕ) → m ≤ n → (s : SegmentDef) → is_resource_in m s ≡ true → is_resource_in n s ≡ true
resource_more m n most s h = go s.request h where
  go : (o : Option (ℕ × ℕ)) → option_map_or (λ r. nat_lt r.0 m) o true ≡ true → option_map_or (λ r. nat_lt r.0 n) o true ≡ true
  go None h = refl
  go (Some r) h = lt-ltb r.0 n (omega (arith, ltb-true r.0 m h, most))

length_more : (set other : SetDef) (x : ℕ) → ((q : ℕ) → length_of set x q ≤ length_of other x q) → (s : SegmentDef)
    → is_length_kept set x s ≡ true → is_length_kept other x s ≡ true
length_more set other x most s h = go s.request h where
  go : (o : Option (ℕ × ℕ)) → option_map_or (λ r. nat_le r.1 (length_of set x r.0)) o true ≡ true
      → option_map_or (λ r. nat_le r.1 (length_of other x r.0)) o true ≡ true
  go None h = refl
  go (Some r) h = le-leb r.1 (length_of other x r.0) (omega (arith, leb-true r.1 (length_of set x r.0) h, most r.0))

-- All but one cycle of a tick is left of the cost.
pub spare_left : (k : ℕ) (measured set : SetDef) (job : JobDef) (whole : ℕ → Bool) → 1 ≤ k → IsAccepted set → IsRounding k measured set
    → IsLawfulJob measured job → total_ticks job.script ≤ own_cycles whole k set job.task
spare_left k measured set job whole some accepted rounding lawful =
    let rounded : IsRoundedTask k (task_at measured job.task) (task_at set job.task) = rounding.each job.task lawful.task in
    let numbers : TaskNumbers set job.task = numbers_of_accepted set job.task accepted (omega (arith, lawful.task, rounding.tasks)) in
    let parted : k * ((task_at set job.task).cost - 1 + 1) ≡ k * (task_at set job.task).cost =
    (λ j. k * (back (task_at set job.task).cost numbers.cost_from j)) in
    elim (cases_Bool (whole job.task)) [
      | inl is ↦ rw is (omega (arith, some, lawful.cost, rounded.cost, parted))
      | inr not_whole ↦ rw not_whole (omega (arith, lawful.cost, rounded.cost))
    ] where
      back : (n : ℕ) → 1 ≤ n → n - 1 + 1 ≡ n
      back n l = omega (arith, l)

pub lawful_in_cycles : (k : ℕ) (measured set : SetDef) (job : JobDef) → 1 ≤ k → IsAccepted set → IsRounding k measured set
    → IsLawfulJob measured job → IsLawfulJob (in_cycles k set) job
lawful_in_cycles k measured set job some accepted rounding lawful =
    let rounded : IsRoundedTask k (task_at measured job.task) (task_at set job.task) = rounding.each job.task lawful.task in
    let whole : total_ticks job.script ≤ k * (task_at set job.task).cost = spare_left k measured set job (λ i. true) some accepted rounding lawful in
    record {
      task = omega (arith, lawful.task, rounding.tasks, tasks_in k set);
      arrived = lawful.arrived;
      in_time = omega (arith, lawful.in_time, rounded.jitter, jitter_in k set job.task);
      script = lawful.script;
      resources = all_pass (is_resource_in (length measured.resources)) (is_resource_in (length set.resources)) job.script
          (resource_more (length measured.resources) (length set.resources) rounding.resources) lawful.resources;
      cost = omega (arith, whole, cost_in k set job.task);
      local = omega (arith, lawful.local, rounded.local, local_in k set job.task);
      count = λ q. omega (arith, lawful.count q, rounding.counts job.task q lawful.task, count_in k set job.task q);
      lengths = all_pass (is_length_kept measured job.task) (is_length_kept (in_cycles k set) job.task) job.script
          (length_more measured (in_cycles k set) job.task
          (λ q. omega (arith, rounding.lengths job.task q lawful.task, length_in k set job.task q))) lawful.lengths;
    }

pub jobs_in_cycles : (k : ℕ) (measured set : SetDef) (jobs : List JobDef) → 1 ≤ k → IsAccepted set → IsRounding k measured set
    → AreLawfulIn measured jobs → AreLawfulIn (in_cycles k set) jobs
jobs_in_cycles k measured set jobs some accepted rounding lawful = record {
  each = λ a l. lawful_in_cycles k measured set (job_of jobs a) some accepted rounding (lawful.each a l);
  apart = λ a b less l same.
      let job : IsLawfulJob measured (job_of jobs a) = lawful.each a (omega (arith, less, l)) in
      let rounded : IsRoundedTask k (task_at measured (job_of jobs a).task) (task_at set (job_of jobs a).task) =
      rounding.each (job_of jobs a).task job.task in
      omega (arith, lawful.apart a b less l same, rounded.period, period_in k set (job_of jobs a).task);
}

-- If a bound is at most the latest one, a job's release and its bound in cycles end within its deadline.
pub due_by_deadline : (k : ℕ) (measured set : SetDef) (job : JobDef) (bound : ℕ) → IsAccepted set → IsRounding k measured set
    → IsLawfulJob measured job → bound ≤ latest_bound (task_at set job.task)
    → job.release + k * bound ≤ job.arrival + (task_at measured job.task).deadline
due_by_deadline k measured set job bound accepted rounding lawful latest =
    let rounded : IsRoundedTask k (task_at measured job.task) (task_at set job.task) = rounding.each job.task lawful.task in
    let numbers : TaskNumbers set job.task = numbers_of_accepted set job.task accepted (omega (arith, lawful.task, rounding.tasks)) in
    let within : k * (bound + (task_at set job.task).jitter) ≤ k * (task_at set job.task).deadline =
    mul-le-mul_left k (omega (arith, latest, numbers.jitter_to)) in
    omega (arith, lawful.in_time, rounded.jitter, rounded.deadline, within)
