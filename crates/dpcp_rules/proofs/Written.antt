-- The row that the walks end with is the chosen one.
use Rattle.std.proofs.Common.{◌≡◌, ℕ, List, sym, subst}
use Rattle.schedule_model.specs.RowDef.{RowDef, running_on, holder_in}
use Rattle.schedule_model.specs.Chosen.{IsSized, IsDpcpChoice}
use Rattle.phase_machine.specs.MachineDef.{MachineDef, under}
use Rattle.shared_choosing.specs.Scene.{place_in, running_in}
use Rattle.shared_choosing.proofs.Scenes.{running_same}
use Rattle.shared_choosing.proofs.Filling.{running_read}
use Rattle.dpcp_rules.specs.Choosing.{holder_claim, local_claim, AreHolders, IsRunning}
use Rattle.dpcp_rules.proofs.GrantTest.{Noted}
use Rattle.dpcp_rules.proofs.Chosen.{chosen_from}

pub choice_made : (m : MachineDef) (rows : ℕ → RowDef) (row : RowDef) (first bars : List ℕ) → Noted m rows first bars
    → rows m.tick ≡ row → IsSized m.list.set row
    → AreHolders m first bars (place_in row.holders) → IsRunning m (place_in row.holders) (running_in row.running)
    → IsDpcpChoice (under m rows) m.tick
choice_made m rows row first bars noted e sized holders running =
    chosen_from m rows first bars
    (record {
      noted = noted;
      holders = subst (λ r. AreHolders m first bars (holder_in r)) (sym e) holders;
      running = subst (λ r. IsRunning m (holder_in r) (running_on r)) (sym e) (running_read m (holder_claim m (place_in row.holders)) (local_claim m) (running_in row.running) (running_on row) running (running_same row));
    })
    (subst (λ r. IsSized m.list.set r) (sym e) sized)
