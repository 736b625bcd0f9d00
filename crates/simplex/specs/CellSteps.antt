-- What do the steps of an exchange answer at one cell, and at a list of nonzero cells?
use Rattle.std.specs.Prelude.{◌≡◌, ◌≢◌, ◌⊎◌, ℕ, ◌<◌, List, [], ◌∷◌, ◌++◌, pos, Result, Ok, Err}
use Rattle.std.specs.Global.{Global}
use Rattle.std.specs.declared.vec.Vec.{Vec}
use Rattle.fraction128.specs.Fraction.{Fraction, IsForm, IsQuotient}
use Rattle.fraction128.specs.Gives.{HasNoForm, IsWideLess}
use Rattle.fraction128.specs.declared.Wide.{Wide}
use Rattle.exchange_runs.specs.Exchange.{IsLess}
use Rattle.simplex.specs.Entries.{listed_at, AreSparse, AreBelow}
use Rattle.simplex.specs.declared.entries.Entry.{Entry}
use Rattle.simplex.specs.declared.SolveStop.{SolveStop}
use Rattle.simplex.specs.declared.SolveStop.TheVariants.{Memory, Wide as WideStop, Units}

-- What is left of a if f times y is subtracted, or Wide exactly if the product or the difference has no form
abbrev pub TakesCell : Result Fraction Wide → Fraction → Fraction → Fraction → Type 0
TakesCell (Ok b) a f y = IsLess a f y b
TakesCell (Err w) a f y = IsWideLess a f y

-- Can it be divided by: is it not zero, and can a `Frac` hold it?
pub record IsDivisor (by : Fraction) : Type 0 where
  pub nonzero : by.num ≢ pos 0
  pub form : IsForm by

-- Is `divided` the list with each value divided?
pub record AreDivided (entries : List Entry) (by : Fraction) (divided : List Entry) : Type 0 where
  pub sparse : AreSparse divided
  pub below : (end : ℕ) → AreBelow end entries → AreBelow end divided
  pub quotient : (v : ℕ) → IsQuotient (listed_at entries v) by (listed_at divided v)

-- Each value divided, or Wide exactly if a quotient has no form.
abbrev pub DividesAll : Result (Vec Entry Global) SolveStop → List Entry → Fraction → Type 0
DividesAll (Ok divided) entries by = AreDivided entries by divided.items
DividesAll (Err Memory) entries by = Unit {0}
DividesAll (Err WideStop) entries by =
    (v : ℕ) × ((end : ℕ) → AreBelow end entries → v < end) × HasNoForm (IsQuotient (listed_at entries v) by)
DividesAll (Err Units) entries by = ⊥

-- Is `after` the list with one more cell at its end? A zero cell gets no entry.
abbrev pub IsPushed : List Entry → ℕ → Fraction → List Entry → Type 0
IsPushed before v f after =
    ((f.num ≡ pos 0) × (after ≡ before)) ⊎ ((f.num ≢ pos 0) × (after ≡ before ++ record { variable = v; value = f } ∷ []))

-- Is `left` what is left of a list if f times another is subtracted, at every variable?
pub record AreLeft (end : ℕ) (entries : List Entry) (f : Fraction) (pivot left : List Entry) : Type 0 where
  pub sparse : AreSparse left
  pub below : AreBelow end left
  pub each : (v : ℕ) → IsLess (listed_at entries v) f (listed_at pivot v) (listed_at left v)

-- f times the pivot's cell subtracted from each cell, or Wide exactly if a product or a difference has no form.
abbrev pub TakesAway : Result (Vec Entry Global) SolveStop → ℕ → List Entry → Fraction → List Entry → Type 0
TakesAway (Ok left) end entries f pivot = AreLeft end entries f pivot left.items
TakesAway (Err Memory) end entries f pivot = Unit {0}
TakesAway (Err WideStop) end entries f pivot = (v : ℕ) × (v < end) × IsWideLess (listed_at entries v) f (listed_at pivot v)
TakesAway (Err Units) end entries f pivot = ⊥
