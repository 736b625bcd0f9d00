-- How many rows and columns a program of the distributed FIFO protocol has at most.
use Rattle.std.proofs.Common.{◌≡◌, ℕ, ◌+◌, ◌-◌, ◌<◌, ◌≤◌, ◌==◌, ◌&&◌, not, Bool, true, List, ◌++◌, length, arith}
use Rattle.std.proofs.lemmas.Bool.{and_parts, eqb-true}
use Rattle.number_laws.proofs.CountLaws.{flag-passes}
use Rattle.program_form.specs.Program.{height, columns}
use Rattle.sporadic_model.specs.SetDef.{SetDef}
use Rattle.sporadic_model.specs.Homes.{home_in}
use Rattle.sporadic_model.specs.Accepted.{IsAccepted}
use Rattle.blocking_columns.specs.ColumnDef.{ColumnDef, is_class}
use Rattle.blocking_columns.specs.Columns.{AreRequests, AreOfOthers}
use Rattle.fragments.specs.Constraints.{per_pair, rows_there}
use Rattle.blocking_columns.specs.Columns.{blocks_at_home}
use Rattle.blocking_columns.specs.declared.columns.Class.TheVariants.{Preemption}
use Rattle.direct_constraints.specs.Rows.{common_rows, turn_row}
use Rattle.preempt_constraints.specs.Rows.{preemption_rows}
use Rattle.program_laws.proofs.FewRows.{pair_rows_few, turn_of, common_there, preemption_there}
use Rattle.program_laws.proofs.UsedResources.{requests_at_most}
use Rattle.program_laws.proofs.PlacedRows.{IsOfPlace, place_rows_few, there_behind, height_is, width_is, columns_by_requests, columns_by_of_others}
use Rattle.dflp_laws.specs.Programs.{home_queue_row, dflp_rows, is_dflp_column, dflp_columns, dflp_program}

-- The number of a resource's home, from 0 on.
abbrev home_number : SetDef → ℕ → ℕ
home_number set q = home_in set q - 1

home_queue_of : (set : SetDef) (i x k : ℕ) → IsOfPlace (home_number set) x k (home_queue_row set i x (k + 1))
home_queue_of set i x k c some =
    let both : (((c.task == x) && not (is_class Preemption c.class)) ≡ true) × ((home_in set c.resource == k + 1) ≡ true) =
    and_parts _ _ (flag-passes (((c.task == x) && not (is_class Preemption c.class)) && (home_in set c.resource == k + 1)) some) in
    let at : home_in set c.resource ≡ k + 1 = eqb-true _ _ both.1 in
    (eqb-true _ _ (and_parts _ _ both.0).0, omega (arith, at))

requests : (set : SetDef) (i : ℕ) → AreRequests (is_dflp_column set i) set
requests set i = columns_by_requests (λ x. blocks_at_home set i) set i

of_others : (set : SetDef) (i : ℕ) → AreOfOthers (is_dflp_column set i) i
of_others set i = columns_by_of_others (λ x. blocks_at_home set i) set i

pub dflp_rows_at_most : (set : SetDef) (i : ℕ) → IsAccepted set → i < length set.tasks
    → length (rows_there (dflp_columns set i) (dflp_rows set i)) ≤ 894
dflp_rows_at_most set i accepted here =
    let test : ColumnDef → Bool = is_dflp_column set i in
    let cs : List ColumnDef = dflp_columns set i in
    let preemption = preemption_rows set i in
    let turns = per_pair (length set.tasks) (length set.resources) (turn_row set i) in
    let queues = per_pair (length set.tasks) set.processors (λ x k. home_queue_row set i x (k + 1)) in
    omega (
      arith,
      there_behind cs (common_rows set i) (preemption ++ (turns ++ queues)),
      there_behind cs preemption (turns ++ queues),
      there_behind cs turns queues,
      common_there test set i accepted here (requests set i) (of_others set i),
      preemption_there test set i accepted here (of_others set i),
      pair_rows_few test set (turn_row set i) accepted (requests set i) (turn_of set i),
      place_rows_few test set set.processors (home_number set) (λ x k. home_queue_row set i x (k + 1)) accepted (requests set i)
          (home_queue_of set i),
    )

pub dflp_height : (set : SetDef) (i : ℕ) (r : List ℕ) → IsAccepted set → i < length set.tasks → height (dflp_program set i r) ≤ 894
dflp_height set i r accepted here =
    omega (arith, height_is set (dflp_columns set i) (dflp_rows set i) r, dflp_rows_at_most set i accepted here)

pub dflp_width : (set : SetDef) (i : ℕ) (r : List ℕ) → IsAccepted set → columns (dflp_program set i r) ≤ 768
dflp_width set i r accepted = omega (
  arith,
  width_is set (dflp_columns set i) (dflp_rows set i) r,
  requests_at_most (is_dflp_column set i) set accepted (requests set i),
)
