-- The test of blocked jobs says which are blocked, in a row that keeps Run.
use Rattle.std.proofs.Common.{◌≡◌, ℕ, ◌&&◌, true, false, refl, sym, ap, ◌∙◌, Option, Some, None}
use Rattle.std.specs.Option.{option_map_or}
use Rattle.std.proofs.lemmas.Bool.{eq-eqb}
use Rattle.sporadic_model.specs.SetDef.{is_higher_local}
use Rattle.schedule_model.specs.RowDef.{RowDef, is_job, running_on, runs_in}
use Rattle.schedule_model.specs.Phase.{Phase, is_local, is_asking, phase_of}
use Rattle.schedule_model.specs.Phase.Phase.{Local, Asking, Finished}
use Rattle.schedule_model.specs.Activity.{is_active}
use Rattle.schedule_model.specs.DpcpRules.{KeepsRun}
use Rattle.schedule_model.specs.BlockedTicks.{is_delayed, runs_higher_local, is_dpcp_interference, is_blocked}
use Rattle.schedule_laws.proofs.ActiveJobs.{active_listed}
use Rattle.schedule_laws.proofs.Rows.{job_named, named_job, runs_from, runs_where}
use Rattle.phase_machine.specs.MachineDef.{MachineDef, task_in, under}
use Rattle.phase_machine.specs.Shows.{Shows}
use Rattle.phase_machine.proofs.Facts.{phase_shown, active_shown}
use Rattle.phase_machine.specs.Now.{processor_now}
use Rattle.phase_machine.proofs.Facts.{same_bool}
use Rattle.shared_rules.proofs.Blocked.{three_tests}
use Rattle.dpcp_rules.specs.Homes.{column_now}
use Rattle.dpcp_rules.specs.Blocked.{is_interfered, blocked_now}
use Rattle.dpcp_rules.proofs.Shown.{column_is, unfinished}

-- In a row that keeps Run a running job is in its column.
pub runner_column : (m : MachineDef) (rows : ℕ → RowDef) (k j : ℕ) (p : Phase) → Shows m rows
    → KeepsRun (under m rows) m.tick → running_on (rows m.tick) k ≡ Some j → phase_of (under m rows) m.tick j ≡ p
    → k ≡ column_now m j
runner_column m rows k j Local shows run e f = run.local k j e (ap is_local f) ∙ sym (column_is m rows j Local shows (run.active k j e) f)
runner_column m rows k j (Asking n q) shows run e f =
    (run.request k j q e (ap (is_asking q) f ∙ eq-eqb q q refl)).0 ∙ sym (column_is m rows j (Asking n q) shows (run.active k j e) f)
runner_column m rows k j Finished shows run e f = absurd (unfinished (under m rows) m.tick j (run.active k j e) f)

pub runs_here : (m : MachineDef) (rows : ℕ → RowDef) (j : ℕ) → Shows m rows → KeepsRun (under m rows) m.tick
    → is_job j (running_on (rows m.tick) (column_now m j)) ≡ runs_in (rows m.tick) j
runs_here m rows j shows run = same_bool (is_job j (running_on (rows m.tick) (column_now m j))) (runs_in (rows m.tick) j) there back where
  there : is_job j (running_on (rows m.tick) (column_now m j)) ≡ true → runs_in (rows m.tick) j ≡ true
  there h = runs_from (rows m.tick) (column_now m j) j (job_named j (running_on (rows m.tick) (column_now m j)) h)

  back : runs_in (rows m.tick) j ≡ true → is_job j (running_on (rows m.tick) (column_now m j)) ≡ true
  back h =
      let a : (k : ℕ) × (running_on (rows m.tick) k ≡ Some j) = runs_where (rows m.tick) j h in
      named_job j (running_on (rows m.tick) (column_now m j))
      (sym (ap (running_on (rows m.tick)) (runner_column m rows a.0 j (phase_of (under m rows) m.tick j) shows run a.1 refl)) ∙ a.1)

-- What runs on the job's processor is Local as the machine says.
pub interfered_shown : (m : MachineDef) (rows : ℕ → RowDef) (j k : ℕ) (o : Option ℕ) → Shows m rows
    → KeepsRun (under m rows) m.tick → running_on (rows m.tick) k ≡ o
    → is_interfered m j o ≡ option_map_or
    (λ r. is_higher_local m.list.set (task_in m.list.jobs j) (task_in m.list.jobs r)
    && is_local (phase_of (under m rows) m.tick r)) o false
interfered_shown m rows j k None shows run e = refl
interfered_shown m rows j k (Some r) shows run e =
    ap (λ p. is_higher_local m.list.set (task_in m.list.jobs j) (task_in m.list.jobs r) && is_local p)
    (phase_shown m rows r shows (active_listed (under m rows) m.tick r (run.active k r e)))

pub blocked_shown : (m : MachineDef) (rows : ℕ → RowDef) (j : ℕ) → Shows m rows → KeepsRun (under m rows) m.tick
    → blocked_now m (rows m.tick) j ≡ is_blocked is_dpcp_interference (under m rows) m.tick j
unfolding blocked_now is_blocked is_dpcp_interference is_delayed runs_higher_local
blocked_shown m rows j shows run =
    rw (
      active_shown m rows j shows,
      runs_here m rows j shows run,
      interfered_shown m rows j (processor_now m j) (running_on (rows m.tick) (processor_now m j)) shows run refl,
    )
    (three_tests (is_active (under m rows) m.tick j) (runs_in (rows m.tick) j)
    (option_map_or
    (λ r. is_higher_local m.list.set (task_in m.list.jobs j) (task_in m.list.jobs r)
    && is_local (phase_of (under m rows) m.tick r)) (running_on (rows m.tick) (processor_now m j)) false))
