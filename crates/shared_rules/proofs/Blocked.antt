-- The test of blocked jobs says which are blocked, in a row that keeps Run.
use Rattle.std.proofs.Common.{◌≡◌, ℕ, ◌&&◌, not, Bool, true, false, refl, sym, ap, ◌∙◌, Some}
use Rattle.schedule_model.specs.RowDef.{RowDef, Trace, is_job, running_on, runs_in}
use Rattle.schedule_model.specs.Activity.{processor_of, is_active}
use Rattle.schedule_model.specs.SharedRules.{KeepsRun}
use Rattle.schedule_model.specs.BlockedTicks.{is_delayed, runs_higher, is_shared_interference, is_blocked}
use Rattle.schedule_laws.proofs.Rows.{job_named, named_job, runs_from, runs_where}
use Rattle.phase_machine.specs.MachineDef.{MachineDef, under}
use Rattle.phase_machine.specs.Shows.{Shows}
use Rattle.phase_machine.proofs.Facts.{same_bool, active_shown}
use Rattle.phase_machine.specs.Now.{processor_now}
use Rattle.shared_rules.specs.Blocked.{is_higher_beside, blocked_now}

-- In a row that keeps Run a job runs exactly if it is in its processor's column.
pub runs_here : (w : Trace) (t j : ℕ) → KeepsRun w t → runs_in (w.row t) j ≡ is_job j (running_on (w.row t) (processor_of w j))
runs_here w t j run = same_bool (runs_in (w.row t) j) (is_job j (running_on (w.row t) (processor_of w j))) there back where
  there : runs_in (w.row t) j ≡ true → is_job j (running_on (w.row t) (processor_of w j)) ≡ true
  there h =
      let a : (k : ℕ) × (running_on (w.row t) k ≡ Some j) = runs_where (w.row t) j h in
      named_job j (running_on (w.row t) (processor_of w j)) (sym (ap (running_on (w.row t)) (run.column a.0 j a.1)) ∙ a.1)

  back : is_job j (running_on (w.row t) (processor_of w j)) ≡ true → runs_in (w.row t) j ≡ true
  back h = runs_from (w.row t) (processor_of w j) j (job_named j (running_on (w.row t) (processor_of w j)) h)

-- Active, and neither running nor interfered with.
pub three_tests : (a r h : Bool) → (a && (not r && not h)) ≡ ((a && not r) && not ((a && not r) && h))
three_tests true true h = refl
three_tests true false h = refl
three_tests false r h = refl

pub blocked_shown : (m : MachineDef) (rows : ℕ → RowDef) (j : ℕ) → Shows m rows → KeepsRun (under m rows) m.tick
    → blocked_now m (rows m.tick) j ≡ is_blocked is_shared_interference (under m rows) m.tick j
unfolding blocked_now is_blocked is_shared_interference is_delayed runs_higher
blocked_shown m rows j shows run =
    rw (active_shown m rows j shows, ← runs_here (under m rows) m.tick j run)
    (three_tests (is_active (under m rows) m.tick j) (runs_in (rows m.tick) j)
    (is_higher_beside m j (running_on (rows m.tick) (processor_now m j))))
