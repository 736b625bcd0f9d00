-- The issue ticks of a machine give the order of FMLP+.
use Rattle.std.proofs.Common.{◌≡◌, ℕ, true, ap, ◌∙◌, unwrap_or}
use Rattle.schedule_model.specs.RowDef.{RowDef}
use Rattle.schedule_model.specs.Activity.{is_requester, issue_tick_of}
use Rattle.schedule_model.specs.Ranks.{fmlp_plus}
use Rattle.schedule_laws.proofs.ActiveJobs.{Requester, requester_is, requester_listed}
use Rattle.phase_machine.specs.MachineDef.{MachineDef, under}
use Rattle.phase_machine.specs.Now.{issued_in, issue_of}
use Rattle.phase_machine.specs.Shows.{Shows}
use Rattle.phase_machine.proofs.Facts.{issued_shown}
use Rattle.phase_machine.specs.Order.{GivesRanks}
use Rattle.fmlp_rules.specs.IssueOrder.{issue_now}

issue_given : (m : MachineDef) (rows : ℕ → RowDef) → Shows m rows → (q j : ℕ) → is_requester (under m rows) m.tick q j ≡ true
    → issue_now m j ≡ issue_tick_of (under m rows) m.tick j
unfolding issue_of
issue_given m rows shows q j asks =
    let r : Requester (under m rows) m.tick q j = requester_is (under m rows) m.tick q j asks in
    ap (λ o. unwrap_or o 0) (issued_shown m rows j shows (requester_listed (under m rows) m.tick q j asks)
    ∙ ap (λ p. issued_in p (issue_tick_of (under m rows) m.tick j)) r.phase)

pub issue_gives : GivesRanks fmlp_plus issue_now issue_now
unfolding fmlp_plus
issue_gives = record { grant = issue_given; run = issue_given }
