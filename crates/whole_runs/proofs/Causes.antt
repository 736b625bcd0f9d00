-- Stops, and what they say where something else is asked for.
use Rattle.std.proofs.Common.{Err}
use Rattle.whole_runs.specs.Ends.{GivesOrStops}
use Rattle.whole_runs.specs.declared.stops.Halt.{Halt}
use Rattle.whole_runs.specs.declared.stops.Halt.TheVariants.{Memory, Large, Units}

-- a stop is one for whatever is asked for, where its cause is one
pub stop_of : {X Y : Type 0} (halt : Halt) (is : X → Type 0) (other : Y → Type 0) (cause larger : Type 0) → (cause → larger)
    → GivesOrStops (Err halt) is cause → GivesOrStops (Err halt) other larger
stop_of Memory is other cause larger passes h = tt
stop_of Large is other cause larger passes h = passes h
stop_of Units is other cause larger passes h = absurd h
