-- What joined runs are, on examples.
use Rattle.std.proofs.Common.{◌≡◌, ℕ, refl, ap, [], ◌∷◌, Option, Some}
use Rattle.schedule_model.specs.RowDef.{RowDef, idle_row}
use Rattle.sim_engine.specs.Joined.{AreJoined}

-- Job 0 runs on the only processor, and nothing is held.
abbrev pub busy : RowDef
busy = record { running = Some 0 ∷ []; holders = [] }

a_place_more : (o : Option ℕ) → [] ≡ o ∷ [] → ⊥
a_place_more o e = absurd (cc)

other_rows : idle_row ≡ busy → ⊥
other_rows e = a_place_more (Some 0) (ap (λ row. row.running) e)

pub a_run_and_another : AreJoined (record { ticks = 2; row = idle_row } ∷ record { ticks = 1; row = busy } ∷ [])
a_run_and_another = (other_rows, tt)

pub the_same_twice : AreJoined (record { ticks = 2; row = busy } ∷ record { ticks = 1; row = busy } ∷ []) → ⊥
the_same_twice joined = joined.0 refl
