-- The worked set is accepted, its certificate is valid, and one of its schedules reaches the first task's bound and value.
use Rattle.std.proofs.Common.{◌≡◌, ℕ, zero, suc, ◌+◌, ◌*◌, ◌<◌, ◌≤◌, true, [], ◌∷◌, length, refl, sym, ◌∙◌, arith}
use Rattle.std.specs.Prelude.{slice_index, nat_le}
use Rattle.std.proofs.Math.Dec.{eqb-zero-suc}
use Rattle.std.proofs.lemmas.Bool.{leb-true}
use Rattle.number_laws.specs.Sums.{sum_below}
use Rattle.number_laws.specs.Tests.{all_below}
use Rattle.number_laws.proofs.TestLaws.{all_below-each}
use Rattle.program_form.specs.Certificate.{CertificateDef}
use Rattle.program_form.specs.Program.{ProgramDef, columns, height, cost, entry}
use Rattle.program_form.specs.Duals.{Covers}
use Rattle.sporadic_model.specs.SetDef.{task_at, latest_bound}
use Rattle.sporadic_model.specs.Accepted.{IsAccepted}
use Rattle.sporadic_model.specs.Refusals.{is_due, size_refusals}
use Rattle.sporadic_model.specs.Users.{count_of}
use Rattle.sporadic_model.specs.declared.ids.Protocol.{Protocol}
use Rattle.sporadic_model.specs.declared.ids.Protocol.TheVariants as protocol
use Rattle.sporadic_model.proofs.Ranges.{accepted_from_free}
use Rattle.schedule_model.specs.JobDef.{job_of, number_of_requests}
use Rattle.schedule_model.specs.LawfulJobs.{IsLawfulJob, AreLawfulJobs}
use Rattle.schedule_model.specs.RowDef.{runs_in}
use Rattle.schedule_model.specs.Phase.{phase_from, executed, phase_of}
use Rattle.schedule_model.specs.Phase.Phase.{Local, Finished}
use Rattle.schedule_model.specs.Activity.{is_pending, is_next, is_active}
use Rattle.schedule_model.specs.BlockedTicks.{is_delayed, runs_higher, is_shared_interference, is_blocked}
use Rattle.schedule_model.specs.Ranks.{fmlp_plus}
use Rattle.schedule_model.specs.Protocols.{shared_rule}
use Rattle.schedule_model.proofs.WorkedFiles.{then_request, local_only, jobs_a, trace_a}
use Rattle.schedule_model.proofs.SharedExamples.{a_keeps_fmlp}
use Rattle.program_sources.specs.Recurrence.{SourceDef, response_with}
use Rattle.program_sources.specs.Valid.{IsValid, IsProvedBound, dual_at, value_at}
use Rattle.program_laws.specs.Programs.{source_of}
use Rattle.soundness_laws.specs.Sound.{IsLawfulSchedule, blocked_in_window, KeepsBounds, Sound}
use Rattle.soundness_laws.specs.Analyses.{AreValues}
use Rattle.soundness_laws.specs.Worked.{two_tasks, two_bounds, two_bounds_of_fewer_rows, greater_bounds, too_small_bound}

pub two_accepted : IsAccepted two_tasks
unfolding is_due size_refusals
two_accepted = accepted_from_free two_tasks refl

-- A dual covers the program if it passes this test of each column.
covers_from : (p : ProgramDef) (den : ℕ) (num : ℕ → ℕ) → 0 < den
    → all_below (columns p) (λ c. nat_le (den * cost p c) (sum_below (height p) (λ r. num r * entry p r c))) ≡ true → Covers p den num
covers_from p den num some h = record {
  positive = some;
  covered = λ c l. leb-true _ _
      (all_below-each (columns p) (λ c. nat_le (den * cost p c) (sum_below (height p) (λ r. num r * entry p r c))) h c l);
}

-- A bound is proved if these tests pass.
pub proved_from : (f : SourceDef) (c : CertificateDef) (i : ℕ) → nat_le (slice_index c.bounds i) (latest_bound (task_at f.set i)) ≡ true
    → length (dual_at c.duals i).num ≡ height (f.program i c.bounds) → 0 < (dual_at c.duals i).den
    → all_below (columns (f.program i c.bounds)) (λ k. nat_le ((dual_at c.duals i).den * cost (f.program i c.bounds) k)
    (sum_below (height (f.program i c.bounds)) (λ r. slice_index (dual_at c.duals i).num r * entry (f.program i c.bounds) r k))) ≡ true
    → nat_le (response_with f c.bounds i (value_at f c i)) (slice_index c.bounds i) ≡ true → IsProvedBound f c i
proved_from f c i within numbers some covered enough = record {
  within = leb-true _ _ within;
  feasible = record {
    number_each = numbers;
    covers = covers_from (f.program i c.bounds) (dual_at c.duals i).den (λ r. slice_index (dual_at c.duals i).num r) some covered;
  };
  enough = leb-true _ _ enough;
}

-- A certificate of the worked set is valid if each of its two bounds is proved.
valid_from : (p : Protocol) (c : CertificateDef) → length c.bounds ≡ 2 → length c.duals ≡ 2
    → IsProvedBound (source_of p two_tasks) c 0 → IsProvedBound (source_of p two_tasks) c 1 → IsValid (source_of p two_tasks) c
valid_from p c bounds duals first second = record { bound_each = bounds; dual_each = duals; proved = proved } where
  proved : (i : ℕ) → i < 2 → IsProvedBound (source_of p two_tasks) c i
  proved zero l = first
  proved (suc zero) l = second
  proved (suc (suc i)) l = absurd (omega arith)

pub two_valid : IsValid (source_of protocol.FmlpPlus two_tasks) two_bounds
two_valid = valid_from protocol.FmlpPlus two_bounds refl refl
    (proved_from _ _ 0 refl refl (omega arith) refl refl) (proved_from _ _ 1 refl refl (omega arith) refl refl)

pub two_valid_mpcp : IsValid (source_of protocol.Mpcp two_tasks) two_bounds_of_fewer_rows
two_valid_mpcp = valid_from protocol.Mpcp two_bounds_of_fewer_rows refl refl
    (proved_from _ _ 0 refl refl (omega arith) refl refl) (proved_from _ _ 1 refl refl (omega arith) refl refl)

pub two_valid_dpcp : IsValid (source_of protocol.Dpcp two_tasks) two_bounds_of_fewer_rows
two_valid_dpcp = valid_from protocol.Dpcp two_bounds_of_fewer_rows refl refl
    (proved_from _ _ 0 refl refl (omega arith) refl refl) (proved_from _ _ 1 refl refl (omega arith) refl refl)

pub greater_valid : IsValid (source_of protocol.FmlpPlus two_tasks) greater_bounds
greater_valid = valid_from protocol.FmlpPlus greater_bounds refl refl
    (proved_from _ _ 0 refl refl (omega arith) refl refl) (proved_from _ _ 1 refl refl (omega arith) refl refl)

-- The first bound is less than the cost and the dual's value.
pub too_small_invalid : IsValid (source_of protocol.FmlpPlus two_tasks) too_small_bound → ⊥
too_small_invalid valid = let more : 7 ≤ 6 = (valid.proved 0 (leb-true _ _ refl)).enough in omega arith

pub two_values : AreValues (source_of protocol.FmlpPlus two_tasks) two_bounds (2 ∷ 1 ∷ [])
two_values = record { one_each = refl; each = each } where
  each : (i : ℕ) → i < 2 → slice_index (2 ∷ 1 ∷ []) i ≡ value_at (source_of protocol.FmlpPlus two_tasks) two_bounds i
  each zero l = refl
  each (suc zero) l = refl
  each (suc (suc i)) l = absurd (omega arith)

-- A job of the schedule requests only the first resource.
no_other : (local length more q : ℕ) → number_of_requests (then_request local 0 length ∷ local_only more ∷ []) (suc q) ≡ 0
no_other local length more q = rw (eqb-zero-suc q) refl

-- Both jobs are lawful: the first requests the resource for 1 tick, the second for 2.
lawful_job : (j : ℕ) → j < 2 → IsLawfulJob two_tasks (job_of jobs_a.jobs j)
lawful_job zero l = record {
  task = leb-true _ _ refl;
  arrived = leb-true _ _ refl;
  in_time = leb-true _ _ refl;
  script = refl;
  resources = refl;
  cost = leb-true _ _ refl;
  local = leb-true _ _ refl;
  count = count;
  lengths = refl;
} where
  count : (q : ℕ) → number_of_requests (job_of jobs_a.jobs 0).script q ≤ count_of two_tasks 0 q
  count zero = leb-true _ _ refl
  count (suc q) = omega (arith, no_other 1 1 1 q)
lawful_job (suc zero) l = record {
  task = leb-true _ _ refl;
  arrived = leb-true _ _ refl;
  in_time = leb-true _ _ refl;
  script = refl;
  resources = refl;
  cost = leb-true _ _ refl;
  local = leb-true _ _ refl;
  count = count;
  lengths = refl;
} where
  count : (q : ℕ) → number_of_requests (job_of jobs_a.jobs 1).script q ≤ count_of two_tasks 1 q
  count zero = leb-true _ _ refl
  count (suc q) = omega (arith, no_other 1 2 1 q)
lawful_job (suc (suc j)) l = absurd (omega arith)

lawful_jobs : AreLawfulJobs jobs_a
lawful_jobs = record { each = lawful_job; apart = apart } where
  apart : (a b : ℕ) → a < b → b < 2 → (job_of jobs_a.jobs a).task ≡ (job_of jobs_a.jobs b).task
      → (job_of jobs_a.jobs a).arrival + (task_at two_tasks (job_of jobs_a.jobs a).task).period ≤ (job_of jobs_a.jobs b).arrival
  apart zero zero l m e = absurd (omega arith)
  apart zero (suc zero) l m e = absurd (cc)
  apart zero (suc (suc b)) l m e = absurd (omega arith)
  apart (suc a) b l m e = absurd (omega arith)

-- A schedule of five rows, in which the first job is blocked at two ticks and runs its last tick in the last row.
schedule : IsLawfulSchedule (shared_rule fmlp_plus) two_tasks trace_a 5
schedule = record { set_is = refl; jobs = lawful_jobs; rows = a_keeps_fmlp }

fourth : phase_of trace_a 4 0 ≡ Local
unfolding phase_of phase_from executed runs_in
fourth = refl

pub bound_is_reached : Sound (shared_rule fmlp_plus) is_shared_interference two_tasks (4 ∷ 5 ∷ []) (2 ∷ 1 ∷ []) → ⊥
bound_is_reached sound =
    let kept : KeepsBounds is_shared_interference trace_a 5 (4 ∷ 5 ∷ []) (2 ∷ 1 ∷ []) = sound trace_a 5 schedule in
    let done : phase_of trace_a 4 0 ≡ Finished = kept.finished 0 (leb-true _ _ refl) (leb-true _ _ refl) in
    let apart : Local ≡ Finished = sym fourth ∙ done in
    cc

two_blocked : blocked_in_window is_shared_interference trace_a 5 (5 ∷ 5 ∷ []) 0 ≡ 2
unfolding phase_of phase_from executed runs_in is_pending is_next is_active is_delayed runs_higher is_shared_interference is_blocked
two_blocked = refl

pub value_is_reached : Sound (shared_rule fmlp_plus) is_shared_interference two_tasks (5 ∷ 5 ∷ []) (1 ∷ 1 ∷ []) → ⊥
value_is_reached sound =
    let kept : KeepsBounds is_shared_interference trace_a 5 (5 ∷ 5 ∷ []) (1 ∷ 1 ∷ []) = sound trace_a 5 schedule in
    let most : blocked_in_window is_shared_interference trace_a 5 (5 ∷ 5 ∷ []) 0 ≤ 1 = kept.blocked 0 (leb-true _ _ refl) in
    omega (arith, most, two_blocked)
