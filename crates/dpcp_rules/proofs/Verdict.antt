-- The first test that fails is that of the first rule that the row breaks.
use Rattle.std.proofs.Common.{◌≡◌, ℕ, ◌<◌, List, length, sym, subst, arith, Some, None}
use Rattle.schedule_model.specs.declared.rule.Rule.{Rule}
use Rattle.schedule_model.specs.RowDef.{RowDef, holder_in}
use Rattle.schedule_model.specs.Ranks.{by_task}
use Rattle.schedule_model.specs.Protocols.{dpcp_rule}
use Rattle.schedule_model.specs.Keeping.{KeepsRow, Breaks}
use Rattle.phase_machine.specs.MachineDef.{MachineDef, under}
use Rattle.phase_machine.specs.Taking.{IsRowFor}
use Rattle.phase_machine.proofs.Stretches.{place_within}
use Rattle.shared_rules.specs.RowTests.{passes_keep}
use Rattle.shared_rules.proofs.HolderTests.{keep_is, keep_from}
use Rattle.shared_rules.proofs.Verdict.{Tests, all_kept, first_broken}
use Rattle.dpcp_rules.specs.TaskOrder.{task_now, tasks_give}
use Rattle.dpcp_rules.specs.RowTests.{passes_run, passes_grant, passes_idle, passes_priority, first_failed}
use Rattle.dpcp_rules.proofs.RunTest.{run_is, run_from}
use Rattle.dpcp_rules.proofs.GrantTest.{Noted, grant_is, grant_from}
use Rattle.dpcp_rules.proofs.ReadyTests.{idle_is, idle_from, priority_is, priority_from}

tests_say : (m : MachineDef) (rows : ℕ → RowDef) (first bars : List ℕ) → Noted m rows first bars → IsRowFor m.list (rows m.tick)
    → Tests dpcp_rule (under m rows) m.tick (passes_run m (rows m.tick)) (passes_keep m (rows m.tick))
    (passes_grant m first bars (rows m.tick)) (passes_idle m (rows m.tick)) (passes_priority m (task_now m) (rows m.tick))
tests_say m rows first bars noted fits = record {
  run_is = run_is m rows noted.shows;
  run_from = run_from m rows noted.shows;
  keep_is = keep_is m rows noted.shows;
  keep_from = keep_from m rows noted.shows;
  grant_is = grant_is m rows first bars noted within;
  grant_from = grant_from m rows first bars noted;
  idle_is = idle_is m rows noted.shows;
  idle_from = idle_from m rows noted.shows;
  priority_is = λ a e. priority_is by_task task_now m rows tasks_give.run noted.shows (run_is m rows noted.shows a) e;
  priority_from = priority_from by_task task_now m rows tasks_give.run noted.shows;
} where
  within : (q j : ℕ) → holder_in (rows m.tick) q ≡ Some j → q < length m.list.set.resources
  within q j e = omega (arith, place_within (rows m.tick).holders q j e, fits.sized.resources)

pub judged_none : (m : MachineDef) (rows : ℕ → RowDef) (row : RowDef) (first bars : List ℕ) → Noted m rows first bars
    → IsRowFor m.list row → rows m.tick ≡ row
    → first_failed m first bars row ≡ None → KeepsRow dpcp_rule (under m rows) m.tick
judged_none m rows row first bars noted fits e h =
    all_kept dpcp_rule (under m rows) m.tick (passes_run m (rows m.tick)) (passes_keep m (rows m.tick))
    (passes_grant m first bars (rows m.tick)) (passes_idle m (rows m.tick))
    (passes_priority m (task_now m) (rows m.tick)) (tests_say m rows first bars noted (subst (λ r. IsRowFor m.list r) (sym e) fits))
    (subst (λ r. first_failed m first bars r ≡ None) (sym e) h)

pub judged_some : (m : MachineDef) (rows : ℕ → RowDef) (row : RowDef) (first bars : List ℕ) (r : Rule)
    → Noted m rows first bars → IsRowFor m.list row → rows m.tick ≡ row
    → first_failed m first bars row ≡ Some r → Breaks dpcp_rule (under m rows) m.tick r
judged_some m rows row first bars r noted fits e h =
    first_broken dpcp_rule (under m rows) m.tick (passes_run m (rows m.tick)) (passes_keep m (rows m.tick))
    (passes_grant m first bars (rows m.tick)) (passes_idle m (rows m.tick))
    (passes_priority m (task_now m) (rows m.tick)) r (tests_say m rows first bars noted (subst (λ r. IsRowFor m.list r) (sym e) fits))
    (subst (λ s. first_failed m first bars s ≡ Some r) (sym e) h)
