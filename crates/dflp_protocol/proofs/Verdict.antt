-- The first test that fails is that of the first rule that the row breaks.
use Rattle.std.proofs.Common.{◌≡◌, ℕ, ◌<◌, length, sym, subst, arith, Some, None}
use Rattle.schedule_model.specs.declared.rule.Rule.{Rule}
use Rattle.schedule_model.specs.RowDef.{RowDef, holder_in}
use Rattle.schedule_model.specs.Activity.{issue_tick_of}
use Rattle.schedule_model.specs.Ranks.{fmlp_plus}
use Rattle.schedule_model.specs.Keeping.{KeepsRow, Breaks}
use Rattle.phase_machine.specs.MachineDef.{MachineDef, under}
use Rattle.phase_machine.specs.Shows.{Shows}
use Rattle.phase_machine.specs.Taking.{IsRowFor}
use Rattle.phase_machine.proofs.Stretches.{place_within}
use Rattle.shared_rules.specs.RowTests.{passes_keep, passes_grant}
use Rattle.shared_rules.proofs.HolderTests.{keep_is, keep_from, grant_is, grant_from}
use Rattle.shared_rules.proofs.Verdict.{Tests, all_kept, first_broken}
use Rattle.fmlp_rules.specs.IssueOrder.{issue_now}
use Rattle.fmlp_rules.specs.IssueOrderLaw.{issue_gives}
use Rattle.dpcp_rules.specs.RowTests.{passes_run, passes_idle, passes_priority}
use Rattle.dpcp_rules.proofs.RunTest.{run_is, run_from}
use Rattle.dpcp_rules.proofs.ReadyTests.{idle_is, idle_from, priority_is, priority_from}
use Rattle.dflp_laws.specs.Rules.{dflp_rule}
use Rattle.dflp_protocol.specs.RowTests.{first_failed}
use Rattle.dflp_protocol.proofs.Issues.{issues_give}

tests_say : (m : MachineDef) (rows : ℕ → RowDef) → Shows m rows → IsRowFor m.list (rows m.tick)
    → Tests dflp_rule (under m rows) m.tick (passes_run m (rows m.tick)) (passes_keep m (rows m.tick))
    (passes_grant m (issue_now m) (rows m.tick)) (passes_idle m (rows m.tick)) (passes_priority m (issue_now m) (rows m.tick))
tests_say m rows shows fits = record {
  run_is = run_is m rows shows;
  run_from = run_from m rows shows;
  keep_is = keep_is m rows shows;
  keep_from = keep_from m rows shows;
  grant_is = grant_is fmlp_plus issue_now issue_now m rows issue_gives shows within;
  grant_from = grant_from fmlp_plus issue_now issue_now m rows issue_gives shows;
  idle_is = idle_is m rows shows;
  idle_from = idle_from m rows shows;
  priority_is = λ a e. priority_is issue_tick_of issue_now m rows issues_give shows (run_is m rows shows a) e;
  priority_from = priority_from issue_tick_of issue_now m rows issues_give shows;
} where
  within : (q j : ℕ) → holder_in (rows m.tick) q ≡ Some j → q < length m.list.set.resources
  within q j e = omega (arith, place_within (rows m.tick).holders q j e, fits.sized.resources)

pub judged_none : (m : MachineDef) (rows : ℕ → RowDef) (row : RowDef) → Shows m rows → IsRowFor m.list row → rows m.tick ≡ row
    → first_failed m row ≡ None → KeepsRow dflp_rule (under m rows) m.tick
judged_none m rows row shows fits e h =
    all_kept dflp_rule (under m rows) m.tick (passes_run m (rows m.tick)) (passes_keep m (rows m.tick))
    (passes_grant m (issue_now m) (rows m.tick)) (passes_idle m (rows m.tick)) (passes_priority m (issue_now m) (rows m.tick))
    (tests_say m rows shows (subst (λ r. IsRowFor m.list r) (sym e) fits))
    (subst (λ r. first_failed m r ≡ None) (sym e) h)

pub judged_some : (m : MachineDef) (rows : ℕ → RowDef) (row : RowDef) (r : Rule) → Shows m rows → IsRowFor m.list row → rows m.tick ≡ row
    → first_failed m row ≡ Some r → Breaks dflp_rule (under m rows) m.tick r
judged_some m rows row r shows fits e h =
    first_broken dflp_rule (under m rows) m.tick (passes_run m (rows m.tick)) (passes_keep m (rows m.tick))
    (passes_grant m (issue_now m) (rows m.tick)) (passes_idle m (rows m.tick)) (passes_priority m (issue_now m) (rows m.tick)) r
    (tests_say m rows shows (subst (λ r. IsRowFor m.list r) (sym e) fits))
    (subst (λ s. first_failed m s ≡ Some r) (sym e) h)
