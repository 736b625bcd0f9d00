-- The two kinds of rows of spinning, by the type that names them.
use Rattle.std.specs.Prelude.{ℕ, ◌+◌, Bool, true, List, length}
use Rattle.sporadic_model.specs.SetDef.{SetDef}
use Rattle.sporadic_model.specs.Users.{is_user}
use Rattle.fragments.specs.Constraints.{ConstraintDef, per_pair}
use Rattle.spin_charging.specs.SpinPrograms.{spinning_row, own_spinning_row}
use Rattle.spin_protocol.specs.declared.rows.Spinning.{Spinning}
use Rattle.spin_protocol.specs.declared.rows.Spinning.TheVariants as spinning

abbrev pub row_of_kind : Spinning → SetDef → ℕ → ℕ → ℕ → ConstraintDef
row_of_kind spinning.All set i k q = spinning_row set i k q
row_of_kind spinning.Own set i k q = own_spinning_row set i k q

-- Those of each processor, counted from 1, and each resource.
abbrev pub rows_of_kind : Spinning → SetDef → ℕ → List ConstraintDef
rows_of_kind kind set i = per_pair set.processors (length set.resources) (λ k q. row_of_kind kind set i (k + 1) q)

-- Can such requests of q spin? If they are to be i's own, i has to use it.
abbrev pub is_spun_for : Spinning → SetDef → ℕ → ℕ → Bool
is_spun_for spinning.All set i q = true
is_spun_for spinning.Own set i q = is_user set q i
