-- A table of the resources that other tasks of a task's processor use.
use Rattle.std.specs.Prelude.{ℕ, Bool, List, length}
use Rattle.sporadic_model.specs.SetDef.{SetDef}
use Rattle.spin_charging.specs.SpinPrograms.{is_used_beside}
use Rattle.spin_protocol.specs.Tables.{Tells}

-- Does the table say of each resource whether another task of i's processor uses it?
abbrev pub AreUsedBeside : SetDef → ℕ → List Bool → Type 0
AreUsedBeside set i used = Tells (length set.resources) (is_used_beside set i) used
