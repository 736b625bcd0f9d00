-- How a machine gives an order of grants and runs.
use Rattle.std.specs.Prelude.{◌≡◌, ℕ, true}
use Rattle.schedule_model.specs.RowDef.{RowDef}
use Rattle.schedule_model.specs.Activity.{is_requester}
use Rattle.schedule_model.specs.SharedRules.{Ranks}
use Rattle.phase_machine.specs.MachineDef.{MachineDef, under}
use Rattle.phase_machine.specs.Shows.{Shows}

-- Do these numbers of jobs give the order at the machine's tick, for each job that is in a request, and in each schedule that the machine
-- shows?
pub record GivesRanks (o : Ranks) (grants runs : MachineDef → ℕ → ℕ) : Type 0 where
  pub grant : (m : MachineDef) (rows : ℕ → RowDef) → Shows m rows → (q j : ℕ) → is_requester (under m rows) m.tick q j ≡ true
      → grants m j ≡ o.grant (under m rows) m.tick j
  pub run : (m : MachineDef) (rows : ℕ → RowDef) → Shows m rows → (q j : ℕ) → is_requester (under m rows) m.tick q j ≡ true
      → runs m j ≡ o.run (under m rows) m.tick j
