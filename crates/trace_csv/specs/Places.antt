-- Where a reader is in a text, and what a byte does, in the terms of `csv`: its states and its actions.
use Rattle.std.specs.Prelude.{◌≡◌, ℕ}
use Rattle.std.specs.declared.vec.Vec.{Vec}
use Rattle.std.specs.Global.{Global}
use Rattle.csv.specs.Machine.{fields_after, field_after}
use Rattle.csv.specs.declared.parser.State.{State}
use Rattle.csv.specs.declared.parser.State.TheVariants as st
use Rattle.csv.specs.declared.parser.Action.{Action}
use Rattle.csv.specs.declared.parser.Action.TheVariants as act
use Rattle.trace_csv.specs.declared.bytes.ReaderPlace.{ReaderPlace}
use Rattle.trace_csv.specs.declared.bytes.ReaderPlace.TheVariants as place
use Rattle.trace_csv.specs.declared.bytes.Effect.{Effect}
use Rattle.trace_csv.specs.declared.bytes.Effect.TheVariants as effect
use Rattle.trace_csv.specs.Records.{fields_seen}

abbrev pub place_seen : ReaderPlace → State
place_seen place.Between = st.StartRecord
place_seen place.AfterReturn = st.AfterCr
place_seen place.FieldStart = st.StartField
place_seen place.Plain = st.InField
place_seen place.Quoted = st.InQuoted
place_seen place.AfterQuote = st.AfterQuote

abbrev pub effect_seen : Effect → Action
effect_seen effect.Skip = act.Skip
effect_seen effect.Copy = act.Copy
effect_seen effect.EndField = act.EndField
effect_seen effect.EndRecord = act.EndRecord

-- Does the byte lead to the place, and have the effect, that `csv` gives it?
pub record DoesAs (step : ReaderPlace × Effect) (given : State × Action) : Type 0 where
  pub place : place_seen step.0 ≡ given.0
  pub effect : effect_seen step.1 ≡ given.1

-- Is a byte of this effect applied to the fields so far, and to the current field?
pub record IsByteTaken (does : Effect) (byte : ℕ) (before : Vec (Vec ℕ Global) Global) (begun : Vec ℕ Global)
    (after : Vec (Vec ℕ Global) Global) (now : Vec ℕ Global) : Type 0
  where
    pub fields : fields_seen after.items ≡ fields_after (effect_seen does) (fields_seen before.items) begun.items
    pub field : now.items ≡ field_after (effect_seen does) byte begun.items
