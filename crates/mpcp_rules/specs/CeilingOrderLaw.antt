-- The tasks and the boosts of a machine give the order of MPCP.
use Rattle.std.proofs.Common.{◌≡◌, ℕ, true, refl, ap, ◌∙◌}
use Rattle.schedule_model.specs.RowDef.{RowDef}
use Rattle.schedule_model.specs.Phase.{Phase, phase_of}
use Rattle.schedule_model.specs.Phase.Phase.{Local, Asking, Finished}
use Rattle.schedule_model.specs.Activity.{processor_of, is_requester}
use Rattle.schedule_model.specs.Ranks.{boost_in, mpcp}
use Rattle.schedule_laws.proofs.ActiveJobs.{requester_listed}
use Rattle.phase_machine.specs.MachineDef.{MachineDef, under}
use Rattle.phase_machine.specs.Shows.{Shows}
use Rattle.phase_machine.proofs.Facts.{phase_shown}
use Rattle.phase_machine.specs.Order.{GivesRanks}
use Rattle.phase_machine.specs.Now.{processor_now}
use Rattle.mpcp_rules.specs.CeilingOrder.{task_now, boost_at, boost_now}

boost_same : (m : MachineDef) (rows : ℕ → RowDef) (k : ℕ) (p : Phase) → boost_at m.list.set k p ≡ boost_in (under m rows) k p
boost_same m rows k Local = refl
boost_same m rows k (Asking n q) = refl
boost_same m rows k Finished = refl

boost_given : (m : MachineDef) (rows : ℕ → RowDef) → Shows m rows → (q j : ℕ) → is_requester (under m rows) m.tick q j ≡ true
    → boost_now m j ≡ boost_in (under m rows) (processor_of (under m rows) j) (phase_of (under m rows) m.tick j)
boost_given m rows shows q j asks =
    ap (boost_at m.list.set (processor_now m j)) (phase_shown m rows j shows (requester_listed (under m rows) m.tick q j asks))
    ∙ boost_same m rows (processor_now m j) (phase_of (under m rows) m.tick j)

pub ceilings_give : GivesRanks mpcp task_now boost_now
unfolding mpcp
ceilings_give = record { grant = λ m rows shows q j asks. refl; run = boost_given }
