-- The issue ticks of a machine are those of the schedule.
use Rattle.std.proofs.Common.{◌≡◌, ℕ}
use Rattle.schedule_model.specs.RowDef.{RowDef}
use Rattle.schedule_model.specs.Activity.{issue_tick_of}
use Rattle.schedule_model.specs.Ranks.{fmlp_plus}
use Rattle.phase_machine.specs.MachineDef.{MachineDef, under}
use Rattle.phase_machine.specs.Shows.{Shows}
use Rattle.fmlp_rules.specs.IssueOrder.{issue_now}
use Rattle.fmlp_rules.specs.IssueOrderLaw.{issue_gives}
use Rattle.schedule_laws.proofs.DpcpStretches.{RequestAt}
use Rattle.dpcp_rules.proofs.ReadyTests.{Gives, number_shown}

pub issues_give : Gives issue_tick_of issue_now
unfolding fmlp_plus
issues_give = issue_gives.run

pub issue_shown : (m : MachineDef) (rows : ℕ → RowDef) (k j : ℕ) → Shows m rows → RequestAt (under m rows) m.tick k j
    → issue_now m j ≡ issue_tick_of (under m rows) m.tick j
issue_shown m rows k j shows r = number_shown issue_tick_of issue_now m rows issues_give k j shows r
