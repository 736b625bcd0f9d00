use Rattle.std.proofs.Common.{ℕ, List, sym, subst}
use Rattle.schedule_model.specs.Activity.{task_of}
use Rattle.schedule_laws.proofs.KindsOfTicks.{Blocked, blocked_is}
use Rattle.charge_laws.specs.ChargedTicks.{IsCharged}
use Rattle.charge.specs.Table.{ItemDef, IsChargeTable}
use Rattle.charge.proofs.TallyLaws.{OfActive}
use Rattle.charge.proofs.TableLaws.{table_is}
use Rattle.charge.proofs.table.table_of.Goals as goal

pub returns : goal.returns
returns g c = λ p w bound n suits lawful keeps ledger.
    let only : (t : ℕ) → OfActive (g.P.ChargedProtocol.charges p) w t =
    λ t k charge e. let b : Blocked (g.P.BlockingProtocol.interferes p) w t k =
    blocked_is (g.P.BlockingProtocol.interferes p) w t k (g.met.P.ChargedProtocol.charges_only p w t k charge e) in b.active in
    subst (λ (items : List ItemDef). IsChargeTable (g.P.ChargedProtocol.charges p) (g.P.BlockingProtocol.interferes p) w bound n items)
    (sym c.in_ok-charges.ensures.items)
    (table_is (g.P.ChargedProtocol.charges p) (g.P.BlockingProtocol.interferes p) w bound n c.args.ledger.now.ticks ledger.counted
    c.items_of.ensures.ordered only
    (λ t j l blocked. let k : IsCharged (g.P.ChargedProtocol.charges p) (g.P.ChargedProtocol.columns_of p w.set (task_of w j)) w t j =
    g.met.P.ChargedProtocol.charges_blocked p w n t j suits lawful keeps l blocked in
    (k.charge, k.is_it, k.executes)))
