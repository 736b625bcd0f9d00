-- What making the rows of the closer analysis is given.
use Rattle.std.specs.Prelude.{◌≡◌, ℕ, ◌<◌, nat_le, true, length}
use Rattle.blocking_columns.specs.Given.{AreKnownAt}
use Rattle.closer_spin_laws.specs.CloserSpinRows.{used_above}
use Rattle.spin_protocol.specs.Origins.{AreOrigins}
use Rattle.spin_protocol.specs.Tables.{Tells}
use Rattle.closer_spin.specs.declared.groups.SpunThere.{SpunThere}
use Rattle.closer_spin.specs.declared.rows.Analysed.{Analysed}
use Rattle.closer_spin.specs.declared.rows.TogetherRow.{TogetherRow}
use Rattle.closer_spin.specs.Tables.{TellsUsedBelow, AreUpper}
use Rattle.closer_spin.specs.Groups.{TellsThere, TellEverywhere}
use Rattle.closer_spin.specs.Together.{taken_together, least_above}

-- Are these columns of a task at bounds, with what its rows are formed from?
pub record CanMakeRows (t : Analysed) : Type 0 where
  pub can : AreKnownAt t.set.now t.bounds.now t.i.0 t.columns.now
  pub everywhere : TellEverywhere t.set.now t.i.0 t.everywhere.now
  pub below : TellsUsedBelow t.set.now t.i.0 t.below.now
  pub requests : AreUpper t.set.now t.bounds.now t.i.0 t.requests.now
  pub origins : AreOrigins t.set.now t.columns.now t.origins.now

-- With what lower tasks may spin for on a processor?
pub record CanAddThere (t : Analysed) (spun : SpunThere) : Type 0 where
  pub rows : CanMakeRows t
  pub there : TellsThere t.set.now t.i.0 spun

-- And with a resource?
pub record CanAddOne (t : Analysed) (spun : SpunThere) (q : ℕ) : Type 0 where
  pub there : CanAddThere t spun
  pub resource : q < length t.set.now.resources

-- With a row whose table tells its resources, of which enough are used above?
pub record CanAddSeveral (t : Analysed) (row : TogetherRow) : Type 0 where
  pub rows : CanMakeRows t
  pub table : Tells (length t.set.now.resources) (taken_together t.set.now t.i.0 row.processor row.group) row.table.items
  pub enough : nat_le (least_above row.group) (used_above t.set.now t.i.0 row.processor) ≡ true
