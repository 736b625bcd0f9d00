-- Which resources a row of several takes together, by the value that names them.
use Rattle.std.specs.Prelude.{◌≡◌, ℕ, Bool, true, nat_lt, nat_le, List, length}
use Rattle.number_laws.specs.Tests.{count_below}
use Rattle.sporadic_model.specs.SetDef.{SetDef}
use Rattle.fragments.specs.Constraints.{ConstraintDef}
use Rattle.closer_spin_laws.specs.CloserSpinRows.{is_spun_below, is_spun_above, is_lone, is_set_apart, is_spun_beside}
use Rattle.closer_spin_laws.specs.CloserSpinRows.{is_spun_with, used_above, together_row}
use Rattle.spin_protocol.specs.Tables.{Tells}
use Rattle.closer_spin.specs.declared.groups.Group.{Group}
use Rattle.closer_spin.specs.declared.groups.Group.TheVariants as group
use Rattle.closer_spin.specs.declared.groups.Pairing.{Pairing}
use Rattle.closer_spin.specs.declared.groups.Pairing.TheVariants as pairing

-- All for which lower tasks may spin, all but one, the lone ones with one, or these alone.
abbrev pub taken_together : SetDef → ℕ → ℕ → Group → ℕ → Bool
taken_together set i k group.All = is_spun_below set i k
taken_together set i k (group.Without q) = is_spun_beside set i k q.0
taken_together set i k (group.LoneWith q) = is_spun_with set i k q.0
taken_together set i k group.Lone = is_lone set i k

-- How many resources have to be used above, so that no other row says the same?
abbrev pub least_above : Group → ℕ
least_above group.All = 1
least_above (group.Without q) = 0
least_above (group.LoneWith q) = 3
least_above group.Lone = 0

-- The row of these resources.
abbrev pub row_together : SetDef → ℕ → ℕ → Group → ConstraintDef
row_together set i k g = together_row set i k (least_above g) (taken_together set i k g)

-- Which resources does a row of one resource take?
abbrev pub paired : Pairing → ℕ → Group
paired pairing.Others q = group.Without (record { 0 = q })
paired pairing.Lone q = group.LoneWith (record { 0 = q })

-- Has a row of this pairing one for q?
abbrev pub is_paired : SetDef → ℕ → ℕ → Pairing → ℕ → Bool
is_paired set i k pairing.Others = is_set_apart set i k
is_paired set i k pairing.Lone = is_spun_above set i k

-- Does the table tell them, are they several, and are enough used above?
pub record AreTold (set : SetDef) (i k : ℕ) (g : Group) (table : List Bool) : Type 0 where
  pub table_is : Tells (length set.resources) (taken_together set i k g) table
  pub several : nat_lt 1 (count_below (length set.resources) (taken_together set i k g)) ≡ true
  pub enough : nat_le (least_above g) (used_above set i k) ≡ true
