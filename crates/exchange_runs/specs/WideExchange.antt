-- The exchange that can't be made: it is begun, and forms a value that no `Frac` holds.
use Rattle.std.specs.Prelude.{◌≢◌, ◌⊎◌, ℕ, ◌<◌, ◌≤◌}
use Rattle.fraction128.specs.Fraction.{Fraction, IsForm, IsQuotient}
use Rattle.fraction128.specs.Gives.{HasNoForm, IsWideLess}
use Rattle.program_form.specs.Program.{ProgramDef, height}
use Rattle.exchange_runs.specs.Table.{Table, variables}
use Rattle.exchange_runs.specs.Exchange.{IsEntering, HasRatio, IsLeaving}

-- Has the ratio of some row below k no form, if e enters? The limits are at the given place.
pub record IsWideRatio (place k : ℕ) (t : Table) (e : ℕ) : Type 0 where
  pub of_row : ℕ
  pub within : of_row < k
  pub has : HasRatio t e of_row
  pub wide : HasNoForm (IsQuotient (t.cell of_row place) (t.cell of_row e))

-- Has some cell of row r no form after it is divided by the cell at e?
pub record IsWideQuotient (t : Table) (e r : ℕ) : Type 0 where
  pub at_place : ℕ
  pub wide : HasNoForm (IsQuotient (t.cell r at_place) (t.cell r e))

-- Has row r a form after it is divided, but not what is left of some cell of another row up to `most`?
pub record IsWideTaking (most : ℕ) (t : Table) (e r : ℕ) : Type 0 where
  pub divided : ℕ → Fraction
  pub divided_form : (v : ℕ) → IsForm (divided v)
  pub is_divided : (v : ℕ) → IsQuotient (t.cell r v) (t.cell r e) (divided v)
  pub of_row : ℕ
  pub at_place : ℕ
  pub within : of_row ≤ most
  pub other : of_row ≢ r
  pub wide : IsWideLess (t.cell of_row at_place) (t.cell of_row e) (divided at_place)

-- Does the exchange of row r for e form such a value?
abbrev pub IsWideStep : ℕ → Table → ℕ → ℕ → Type 0
IsWideStep most t e r = IsWideQuotient t e r ⊎ IsWideTaking most t e r

-- Does the exchange that begins at t form a ratio, a quotient, a product or a difference that has no form?
pub record IsWideExchange (p : ProgramDef) (t : Table) : Type 0 where
  pub entering : ℕ
  pub enters : IsEntering p t entering
  pub wide : IsWideRatio (variables p) (height p) t entering
      ⊎ ((r : ℕ) × (IsLeaving p t entering r) × IsWideStep (height p) t entering r)
