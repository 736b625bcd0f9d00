-- The worked schedule is lawful in cycles, and its first job ends when its bound says, and no cycle before. Besides, the program of
-- seven rows in cycles reaches 14 of them, where a tick has three cycles and its value in ticks is 4.
use Rattle.std.proofs.Common.{◌≡◌, ℕ, zero, suc, ◌+◌, ◌*◌, ◌<◌, ◌≤◌, [], ◌∷◌, length, refl, arith}
use Rattle.std.specs.Prelude.{slice_index, nat_le}
use Rattle.std.proofs.Math.Dec.{eqb-zero-suc}
use Rattle.std.proofs.lemmas.Bool.{leb-true}
use Rattle.number_laws.specs.Sums.{sum_below}
use Rattle.number_laws.proofs.TestLaws.{all_below-each}
use Rattle.program_form.specs.Points.{Reaches}
use Rattle.program_form.specs.Program.{entry, limit}
use Rattle.sporadic_model.specs.SetDef.{task_at}
use Rattle.sporadic_model.specs.Users.{count_of}
use Rattle.sporadic_model.specs.declared.ids.Protocol.TheVariants as protocol
use Rattle.schedule_model.specs.JobDef.{job_of, number_of_requests, total_ticks}
use Rattle.schedule_model.specs.LawfulJobs.{IsLawfulJob, AreLawfulJobs}
use Rattle.schedule_model.specs.RowDef.{runs_in}
use Rattle.schedule_model.specs.Phase.{phase_from, executed, phase_of}
use Rattle.schedule_model.specs.Phase.Phase.{Local}
use Rattle.schedule_model.specs.Activity.{is_pending, is_next, is_active, is_requester, issue_tick_of, is_active_local, task_of}
use Rattle.schedule_model.specs.Activity.{is_ready_holder, is_ready}
use Rattle.schedule_model.specs.BlockedTicks.{is_delayed, runs_higher, is_shared_interference, is_blocked}
use Rattle.schedule_model.specs.Ranks.{fmlp_plus}
use Rattle.schedule_model.specs.Protocols.{shared_rule}
use Rattle.schedule_model.specs.Keeping.{KeepsBefore}
use Rattle.schedule_model.proofs.RuleTests.{passes_shared, shared_from}
use Rattle.schedule_model.proofs.KeepingTests.{keeps_from}
use Rattle.schedule_model.proofs.WorkedFiles.{then_request, local_only}
use Rattle.program_laws.specs.Programs.{source_of}
use Rattle.soundness_laws.specs.Sound.{blocked_in_window}
use Rattle.soundness_laws.specs.Worked.{two_tasks, two_bounds}
use Rattle.clock_laws.specs.Cycles.{in_cycles, own_cycles}
use Rattle.clock_laws.specs.Clock.{IsLawfulInCycles}
use Rattle.clock_laws.specs.Whole.{is_whole}
use Rattle.clock_laws.specs.Worked.{seven_rows_in_cycles, jobs_on_clock, trace_on_clock}

-- A job of the schedule requests no resource but the first.
no_other : (local length more q : ℕ) → number_of_requests (then_request local 0 length ∷ local_only more ∷ []) (suc q) ≡ 0
no_other local length more q = rw (eqb-zero-suc q) refl

lawful_job : (j : ℕ) → j < 2 → IsLawfulJob (in_cycles 2 two_tasks) (job_of jobs_on_clock.jobs j)
lawful_job zero l = record {
  task = leb-true _ _ refl;
  arrived = leb-true _ _ refl;
  in_time = leb-true _ _ refl;
  script = refl;
  resources = refl;
  cost = leb-true _ _ refl;
  local = leb-true _ _ refl;
  count = count;
  lengths = refl;
} where
  count : (q : ℕ) → number_of_requests (job_of jobs_on_clock.jobs 0).script q ≤ count_of (in_cycles 2 two_tasks) 0 q
  count zero = leb-true _ _ refl
  count (suc q) = omega (arith, no_other 1 2 3 q)
lawful_job (suc zero) l = record {
  task = leb-true _ _ refl;
  arrived = leb-true _ _ refl;
  in_time = leb-true _ _ refl;
  script = refl;
  resources = refl;
  cost = leb-true _ _ refl;
  local = leb-true _ _ refl;
  count = count;
  lengths = refl;
} where
  count : (q : ℕ) → number_of_requests (job_of jobs_on_clock.jobs 1).script q ≤ count_of (in_cycles 2 two_tasks) 1 q
  count zero = leb-true _ _ refl
  count (suc q) = omega (arith, no_other 1 4 3 q)
lawful_job (suc (suc j)) l = absurd (omega arith)

lawful_jobs : AreLawfulJobs jobs_on_clock
lawful_jobs = record { each = lawful_job; apart = apart } where
  apart : (a b : ℕ) → a < b → b < 2 → (job_of jobs_on_clock.jobs a).task ≡ (job_of jobs_on_clock.jobs b).task
      → (job_of jobs_on_clock.jobs a).arrival + (task_at (in_cycles 2 two_tasks) (job_of jobs_on_clock.jobs a).task).period
      ≤ (job_of jobs_on_clock.jobs b).arrival
  apart zero zero l m e = absurd (omega arith)
  apart zero (suc zero) l m e = absurd (omega (arith, e))
  apart zero (suc (suc b)) l m e = absurd (omega arith)
  apart (suc a) b l m e = absurd (omega arith)

keeps : KeepsBefore (shared_rule fmlp_plus) trace_on_clock 10
unfolding phase_of phase_from executed runs_in is_pending is_next is_active is_requester issue_tick_of is_active_local
    is_ready_holder is_ready fmlp_plus
keeps = keeps_from (shared_rule fmlp_plus) trace_on_clock (passes_shared fmlp_plus trace_on_clock) (shared_from fmlp_plus trace_on_clock) 10
    refl

pub lawful_on_clock : IsLawfulInCycles (shared_rule fmlp_plus) (is_whole (source_of protocol.FmlpPlus two_tasks) two_bounds) 2 two_tasks
    trace_on_clock 10
lawful_on_clock = record { schedule = record { set_is = refl; jobs = lawful_jobs; rows = keeps }; spare = spare } where
  spare : (j : ℕ) → j < 2 → total_ticks (job_of jobs_on_clock.jobs j).script
      ≤ own_cycles (is_whole (source_of protocol.FmlpPlus two_tasks) two_bounds) 2 two_tasks (task_of trace_on_clock j)
  spare zero l = leb-true _ _ refl
  spare (suc zero) l = leb-true _ _ refl
  spare (suc (suc j)) l = absurd (omega arith)

pub ends_at_bound : phase_of trace_on_clock 9 0 ≡ Local
unfolding phase_of phase_from executed runs_in
ends_at_bound = refl

pub blocked_for_value : blocked_in_window is_shared_interference trace_on_clock 10 (10 ∷ 10 ∷ []) 0 ≡ 4
unfolding phase_of phase_from executed runs_in is_pending is_next is_active is_delayed runs_higher is_shared_interference is_blocked
blocked_for_value = refl

-- Two thirds of the first column, the whole second one, and a third of the third.
some_point : ℕ → ℕ
some_point = slice_index (2 ∷ 3 ∷ 1 ∷ [])

pub fourteen_cycles : Reaches seven_rows_in_cycles 14
unfolding some_point
fourteen_cycles = record {
  scale = 3;
  point = some_point;
  is_point = record {
    positive = leb-true _ _ refl;
    kept = λ r l. leb-true _ _ (all_below-each 7 (λ r. nat_le (sum_below 3 (λ c. entry seven_rows_in_cycles r c * some_point c))
        (3 * limit seven_rows_in_cycles r)) refl r l);
  };
  reached = leb-true _ _ refl;
}
