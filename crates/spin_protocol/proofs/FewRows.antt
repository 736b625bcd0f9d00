-- How many rows and columns a program of spin locks has at most.
use Rattle.std.proofs.Common.{◌≡◌, ℕ, ◌+◌, ◌-◌, ◌<◌, ◌≤◌, ◌==◌, ◌&&◌, not, Bool, true, List, [], ◌∷◌, ◌++◌, length, arith}
use Rattle.std.proofs.lemmas.Bool.{and_parts, eqb-true}
use Rattle.number_laws.proofs.CountLaws.{flag-passes}
use Rattle.program_form.specs.Program.{height, columns}
use Rattle.sporadic_model.specs.SetDef.{SetDef, task_at}
use Rattle.sporadic_model.specs.Accepted.{IsAccepted}
use Rattle.blocking_columns.specs.ColumnDef.{ColumnDef, is_class}
use Rattle.fragments.specs.Constraints.{ConstraintDef, per_pair, holds_some, rows_there}
use Rattle.blocking_columns.specs.declared.columns.Class.TheVariants as class
use Rattle.direct_constraints.specs.Rows.{common_rows}
use Rattle.program_laws.proofs.Lists.{filter_shorter}
use Rattle.program_laws.proofs.FewRows.{common_there}
use Rattle.program_laws.proofs.UsedResources.{requests_at_most}
use Rattle.program_laws.proofs.PlacedRows.{IsOfOrigin, origin_rows_few, there_behind, height_is, width_is, columns_by_requests, columns_by_of_others}
use Rattle.spin_charging.specs.SpinPrograms.{blocks_by_spinning, is_from, lower_request_row, spinning_row, own_spinning_row}
use Rattle.spin_charging.specs.SpinPrograms.{spin_rows, is_spin_column, spin_columns, spin_program}

-- The number of a task's processor, from 0 on.
abbrev processor_number : SetDef → ℕ → ℕ
processor_number set x = (task_at set x).processor - 1

from_there : (set : SetDef) (k q : ℕ) (c : ColumnDef) → is_from set (k + 1) q c ≡ true
    → (processor_number set c.task ≡ k) × (c.resource ≡ q)
from_there set k q c is =
    let both : (((task_at set c.task).processor == k + 1) ≡ true) × ((c.resource == q) ≡ true) =
    and_parts ((task_at set c.task).processor == k + 1) (c.resource == q) is in
    let at : (task_at set c.task).processor ≡ k + 1 = eqb-true _ _ both.0 in
    (omega (arith, at), eqb-true _ _ both.1)

spinning_of : (set : SetDef) (i k q : ℕ) → IsOfOrigin (processor_number set) k q (spinning_row set i (k + 1) q)
spinning_of set i k q c some = from_there set k q c (and_parts _ _
    (flag-passes (is_from set (k + 1) q c && not (is_class class.Preemption c.class)) some)).0

own_spinning_of : (set : SetDef) (i k q : ℕ) → IsOfOrigin (processor_number set) k q (own_spinning_row set i (k + 1) q)
own_spinning_of set i k q c some = from_there set k q c (and_parts _ _
    (flag-passes (is_from set (k + 1) q c && is_class class.Direct c.class) some)).0

rows_at_most : (set : SetDef) (i : ℕ) → IsAccepted set → i < length set.tasks
    → length (rows_there (spin_columns set i) (spin_rows set i)) ≤ 832
rows_at_most set i accepted here =
    let test : ColumnDef → Bool = is_spin_column set i in
    let cs : List ColumnDef = spin_columns set i in
    let users = columns_by_requests (blocks_by_spinning set i) set i in
    let lower : List ConstraintDef = lower_request_row ∷ [] in
    let all = per_pair set.processors (length set.resources) (λ k q. spinning_row set i (k + 1) q) in
    let own = per_pair set.processors (length set.resources) (λ k q. own_spinning_row set i (k + 1) q) in
    omega (
      arith,
      there_behind cs (common_rows set i) (lower ++ (all ++ own)),
      there_behind cs lower (all ++ own),
      there_behind cs all own,
      common_there test set i accepted here users (columns_by_of_others (blocks_by_spinning set i) set i),
      filter_shorter (holds_some cs) lower,
      origin_rows_few test set set.processors (processor_number set) (λ k q. spinning_row set i (k + 1) q) accepted users
          (spinning_of set i),
      origin_rows_few test set set.processors (processor_number set) (λ k q. own_spinning_row set i (k + 1) q) accepted users
          (own_spinning_of set i),
    )

pub spin_height : (set : SetDef) (i : ℕ) (r : List ℕ) → IsAccepted set → i < length set.tasks → height (spin_program set i r) ≤ 832
spin_height set i r accepted here =
    omega (arith, height_is set (spin_columns set i) (spin_rows set i) r, rows_at_most set i accepted here)

pub spin_width : (set : SetDef) (i : ℕ) (r : List ℕ) → IsAccepted set → columns (spin_program set i r) ≤ 768
spin_width set i r accepted = omega (
  arith,
  width_is set (spin_columns set i) (spin_rows set i) r,
  requests_at_most (is_spin_column set i) set accepted (columns_by_requests (blocks_by_spinning set i) set i),
)
