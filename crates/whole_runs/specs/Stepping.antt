-- What does a run keep from one exchange to the next, and what does its step answer?
use Rattle.std.specs.Prelude.{◌≡◌, ℕ, Result, Ok, Err}
use Rattle.program_form.specs.Program.{ProgramDef, IsProgram}
use Rattle.exchange_runs.specs.Table.{Table}
use Rattle.exchange_runs.specs.Exchange.{IsEntering, IsExchangeOver}
use Rattle.exchange_runs.specs.SmallRuns.{IsSmall, SmallReached}
use Rattle.whole_runs.specs.States.{stand_at, table_seen, HasSize, AreStands, ArePlaced}
use Rattle.whole_runs.specs.Columns.{AreMarked}
use Rattle.whole_runs.specs.Choice.{IsFrom}
use Rattle.whole_runs.specs.Exchanges.{AreSmallRows}
use Rattle.whole_runs.specs.Large.{IsLargeExchange}
use Rattle.whole_runs.specs.declared.stands.Stand.TheVariants.{Outside}
use Rattle.whole_runs.specs.declared.stops.Halt.{Halt}
use Rattle.whole_runs.specs.declared.stops.Halt.TheVariants.{Memory, Large, Units}
use Rattle.whole_runs.specs.declared.tableau.Tableau.{Tableau}

-- The table of a tableau.
abbrev pub table_of : ProgramDef → Tableau → Table
table_of p t = table_seen p t.rows.items t.basis.items t.stands.items

-- Is it a tableau as a run keeps it: do its rows, its basis and its stands fit, are all values small, is each number marked, and does the
-- list of places fit the stands?
pub record IsTableau (p : ProgramDef) (t : Tableau) : Type 0 where
  pub size : HasSize p t.rows.items t.basis.items t.stands.items
  pub stands : AreStands p t.basis.items t.stands.items
  pub small : AreSmallRows p t.rows.items
  pub marked : AreMarked p t.rows.items t.marks
  pub placed : ArePlaced p t.outside.items t.stands.items

-- Has a run of the program reached this tableau, and does variable e, which is outside the basis at place k, enter now?
pub record CanStep (p : ProgramDef) (t : Tableau) (e k : ℕ) : Type 0 where
  pub program : IsProgram p
  pub tableau : IsTableau p t
  pub enters : IsEntering p (table_of p t) e
  pub place : stand_at t.stands.items e ≡ Outside k
  pub reached : (n : ℕ) × SmallReached p n (table_of p t)

-- Is `after` the next tableau of the run over small fractions, and has no variable below `from` a number above zero in the objective row?
pub record IsStepped (p : ProgramDef) (e : ℕ) (before after : Tableau) (from : ℕ) : Type 0 where
  pub tableau : IsTableau p after
  pub exchanged : (r : ℕ) × IsExchangeOver IsSmall p (table_of p before) (table_of p after) e r
  pub earlier : IsFrom p after.rows.items after.stands.items from

-- The next tableau, or Large if some row is too large for the exchange. Memory says nothing, and Units never comes.
abbrev pub Steps : Result ℕ Halt → ProgramDef → ℕ → Tableau → Tableau → Type 0
Steps (Ok from) p e before after = IsStepped p e before after from
Steps (Err Memory) p e before after = Unit {0}
Steps (Err Large) p e before after = IsLargeExchange p before.rows.items before.basis.items before.stands.items
Steps (Err Units) p e before after = ⊥
