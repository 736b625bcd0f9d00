-- What is known of a group of resources for which lower tasks may spin.
use Rattle.std.specs.Prelude.{◌≡◌, ℕ, ◌+◌, ◌<◌, List, length, slice_index_or}
use Rattle.sporadic_model.specs.SetDef.{SetDef}
use Rattle.closer_spin.specs.declared.groups.SpunThere.{SpunThere}
use Rattle.closer_spin.specs.declared.groups.SpunTables.{SpunTables}
use Rattle.closer_spin.specs.declared.groups.Group.{Group}
use Rattle.closer_spin.specs.declared.groups.Group.TheVariants as group
use Rattle.closer_spin_laws.specs.CloserSpinRows.{is_spun_above, is_lone, is_set_apart, used_above, leaves_lone_out}
use Rattle.spin_protocol.specs.Tables.{Tells}
use Rattle.closer_spin.specs.Tables.{TellsSpun}

-- Do the tables say for which resources lower tasks may spin on processor k, which of them are used above, and which are lone?
pub record AreSpunTables (set : SetDef) (i k : ℕ) (t : SpunTables) : Type 0 where
  pub spun_is : TellsSpun set i k t.spun.items
  pub shared_is : Tells (length set.resources) (is_spun_above set i k) t.shared.items
  pub lone_is : Tells (length set.resources) (is_lone set i k) t.lone.items

-- Does the value say for which resources lower tasks may spin on its processor?
pub record TellsThere (set : SetDef) (i : ℕ) (t : SpunThere) : Type 0 where
  pub spun_is : TellsSpun set i t.processor t.spun.items
  pub shared_is : Tells (length set.resources) (is_spun_above set i t.processor) t.shared.items
  pub lone_is : Tells (length set.resources) (is_lone set i t.processor) t.lone.items
  pub apart_is : Tells (length set.resources) (is_set_apart set i t.processor) t.apart.items
  pub above_is : t.above ≡ used_above set i t.processor
  pub leaves_is : t.leaves_out ≡ leaves_lone_out set i t.processor

-- The same of processor k, counted from 0? And of each processor?
pub record TellsAt (set : SetDef) (i k : ℕ) (t : SpunThere) : Type 0 where
  pub there : TellsThere set i t
  pub place : t.processor ≡ k + 1

pub record TellEverywhere (set : SetDef) (i : ℕ) (everywhere : List SpunThere) : Type 0 where
  pub one_each : length everywhere ≡ set.processors
  pub each : (k : ℕ) (d : SpunThere) → k < set.processors → TellsAt set i k (slice_index_or everywhere k d)

-- Is the group's resource, if it names one, of the set?
abbrev pub HasGroup : SetDef → Group → Type 0
HasGroup set (group.Without q) = q.0 < length set.resources
HasGroup set (group.LoneWith q) = q.0 < length set.resources
HasGroup set _ = Unit {0}

-- Both.
pub record IsGroupOf (set : SetDef) (i : ℕ) (t : SpunThere) (g : Group) : Type 0 where
  pub there : TellsThere set i t
  pub known : HasGroup set g
