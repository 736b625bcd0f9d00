-- A row of requests from a processor has no column if the table doesn't mark it, and one of own spinning none if the task doesn't use the
-- resource.
use Rattle.std.proofs.Common.{◌≡◌, ℕ, ◌<◌, ◌==◌, Bool, true, false, List, map, refl, arith, subst, inl, inr, not, ◌&&◌}
use Rattle.std.specs.Prelude.{slice_index_or}
use Rattle.std.proofs.lemmas.Bool.{cases_Bool, both_ways, and_parts, eqb-true, not-true}
use Rattle.std.proofs.lemmas.List.Elements.{All-map}
use Rattle.number_laws.proofs.CountLaws.{flag-passes}
use Rattle.sporadic_model.specs.SetDef.{SetDef, task_at}
use Rattle.sporadic_model.specs.Users.{is_user}
use Rattle.blocking_columns.specs.declared.columns.Class.{Class}
use Rattle.blocking_columns.specs.declared.columns.Class.TheVariants as class
use Rattle.blocking_columns.specs.declared.columns.Fragment.{Fragment}
use Rattle.blocking_columns.specs.ColumnDef.{ColumnDef, column_seen, is_class}
use Rattle.fragments.specs.Constraints.{ConstraintDef, holds_some}
use Rattle.blocking_columns.proofs.KnownColumns.{passing_pass}
use Rattle.program_laws.proofs.FewRows.{held}
use Rattle.spin_charging.specs.SpinPrograms.{blocks_by_spinning, is_from, is_spin_column, spin_columns, own_spinning_row}
use Rattle.spin_protocol.specs.declared.rows.Spinning.{Spinning}
use Rattle.spin_protocol.specs.declared.rows.Spinning.TheVariants as spinning
use Rattle.spin_protocol.specs.SpinRows.{row_of_kind, is_spun_for}
use Rattle.spin_protocol.specs.Origins.{origin_place, IsMarked, AreOrigins}

-- Has the row only columns of requests of q by tasks of processor k, and none of preemption?
abbrev pub IsOnlyFrom : SetDef → ℕ → ℕ → ConstraintDef → Type 0
IsOnlyFrom set k q row = (c : ColumnDef) → 0 < row.coefficient c
    → (is_from set k q c ≡ true) × (is_class class.Preemption c.class ≡ false)

pub none_from : (set : SetDef) (columns : List Fragment) (table : List Bool) (k q : ℕ) (row : ConstraintDef)
    → AreOrigins set columns table → IsOnlyFrom set k q row → slice_index_or table (origin_place k q) false ≡ false
    → holds_some (map column_seen columns) row ≡ false
none_from set columns table k q row marked only free = elim (cases_Bool (holds_some (map column_seen columns) row)) [
  | inr none ↦ none
  | inl some ↦
      let c : (c : ColumnDef) × (IsMarked set table c) × (0 < row.coefficient c) =
      held (IsMarked set table) (map column_seen columns) row (All-map (IsMarked set table) column_seen columns marked) some in
      let of : (is_from set k q c.0 ≡ true) × (is_class class.Preemption c.0.class ≡ false) = only c.0 c.2 in
      let both : (((task_at set c.0.task).processor == k) ≡ true) × ((c.0.resource == q) ≡ true) =
      and_parts ((task_at set c.0.task).processor == k) (c.0.resource == q) of.0 in
      let processor : (task_at set c.0.task).processor ≡ k = eqb-true _ _ both.0 in
      let resource : c.0.resource ≡ q = eqb-true _ _ both.1 in
      let place : origin_place (task_at set c.0.task).processor c.0.resource ≡ origin_place k q = omega (arith, processor, resource) in
      let there : slice_index_or table (origin_place k q) false ≡ true = rw (place) at c.1 of.1 in
      absurd (both_ways (slice_index_or table (origin_place k q) false) free there)
]

direct_runs_elsewhere : (k : Class) → is_class class.Direct k ≡ true → is_class class.Preemption k ≡ false
direct_runs_elsewhere class.Direct h = refl
direct_runs_elsewhere class.Indirect h = refl
direct_runs_elsewhere class.Preemption h = absurd cc

pub spinning_only : (kind : Spinning) (set : SetDef) (i k q : ℕ) → IsOnlyFrom set k q (row_of_kind kind set i k q)
spinning_only spinning.All set i k q c some =
    let both : (is_from set k q c ≡ true) × (not (is_class class.Preemption c.class) ≡ true) =
    and_parts _ _ (flag-passes (is_from set k q c && not (is_class class.Preemption c.class)) some) in
    (both.0, not-true (is_class class.Preemption c.class) both.1)
spinning_only spinning.Own set i k q c some =
    let both : (is_from set k q c ≡ true) × (is_class class.Direct c.class ≡ true) =
    and_parts _ _ (flag-passes (is_from set k q c && is_class class.Direct c.class) some) in
    (both.0, direct_runs_elsewhere c.class both.1)

-- Only what i requests blocks it directly.
direct_used : (set : SetDef) (i x r : ℕ) (k : Class) → is_class class.Direct k ≡ true → blocks_by_spinning set i x r k ≡ true
    → is_user set r i ≡ true
direct_used set i x r class.Direct d b = (and_parts _ _ b).1
direct_used set i x r class.Indirect d b = absurd (cc)
direct_used set i x r class.Preemption d b = absurd (cc)

-- So what it doesn't request has no row of own spinning.
pub own_missing : (set : SetDef) (i k q : ℕ) → is_user set q i ≡ false → holds_some (spin_columns set i) (own_spinning_row set i k q) ≡ false
own_missing set i k q unused = elim (cases_Bool (holds_some (spin_columns set i) (own_spinning_row set i k q))) [
  | inr none ↦ none
  | inl h ↦
      let c : (c : ColumnDef) × (is_spin_column set i c ≡ true) × (0 < (own_spinning_row set i k q).coefficient c) =
      held (λ c. is_spin_column set i c ≡ true) (spin_columns set i) (own_spinning_row set i k q) (passing_pass (is_spin_column set i) set) h in
      let counted = and_parts _ _ (flag-passes (is_from set k q c.0 && is_class class.Direct c.0.class) c.2) in
      let same : c.0.resource ≡ q = eqb-true _ _ (and_parts _ _ counted.0).1 in
      let blocks : blocks_by_spinning set i c.0.task c.0.resource c.0.class ≡ true = (and_parts _ _ c.1).1 in
      let used : is_user set q i ≡ true =
      subst (λ r. is_user set r i ≡ true) same (direct_used set i c.0.task c.0.resource c.0.class counted.1 blocks) in
      absurd (both_ways (is_user set q i) unused used)
]

-- And a kind of spinning that can't be for the resource has no row of it.
pub kind_missing : (kind : Spinning) (set : SetDef) (i k q : ℕ) → is_spun_for kind set i q ≡ false
    → holds_some (spin_columns set i) (row_of_kind kind set i k q) ≡ false
kind_missing spinning.All set i k q unspun = absurd (cc)
kind_missing spinning.Own set i k q unspun = own_missing set i k q unspun
