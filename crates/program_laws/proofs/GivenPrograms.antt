-- The lists of the given columns and rows are a program, and its limits rise with the bounds.
use Rattle.std.proofs.Common.{◌≡◌, ℕ, ◌<◌, ◌≤◌, ◌^◌, Bool, List, [], ◌∷◌, map, length, refl, sym, ◌∙◌, ap, arith}
use Rattle.std.specs.Prelude.{slice_index, slice_index_or}
use Rattle.std.specs.List.{All, Contains}
use Rattle.std.proofs.lemmas.List.{get_or-map, length-map}
use Rattle.std.proofs.lemmas.List.Elements.{All-nil, All-cons, All-head, All-tail, All-filter, All-map, All-weaker}
use Rattle.program_form.specs.Program.{IsProgram, HasLengths, AreSmall}
use Rattle.program_form.specs.Limits.{HasLimitsAtMost}
use Rattle.sporadic_model.specs.SetDef.{SetDef}
use Rattle.sporadic_model.specs.Accepted.{IsAccepted}
use Rattle.blocking_columns.specs.ColumnDef.{ColumnDef, IsKnown}
use Rattle.blocking_columns.specs.Columns.{columns_where}
use Rattle.fragments.specs.Constraints.{ConstraintDef, holds_some, rows_there, limits_of}
use Rattle.blocking_columns.proofs.KnownColumns.{passing_known}
use Rattle.direct_constraints.specs.Rows.{request_row}
use Rattle.program_laws.specs.Programs.{program_with, cost_of}
use Rattle.program_laws.specs.Written.{IsSmallRow, Rises, AreWritten}
use Rattle.program_laws.proofs.Lists.{index_at_most, index_rises, entries_at_most, filter_shorter}
use Rattle.program_laws.proofs.SmallNumbers.{length_small}
use Rattle.program_laws.proofs.CoveredColumns.{covered_by}
use Rattle.program_laws.proofs.ListLengths.{passing_few}

pub limits_at_most : (set : SetDef) (cs : List ColumnDef) (rows : List ConstraintDef) (r s : List ℕ) → All (Rises r s) rows
    → HasLimitsAtMost (program_with set cs rows r) (program_with set cs rows s)
limits_at_most set cs rows r s rise = record {
  same_costs = refl;
  same_rows = refl;
  limits = λ k l. index_rises (λ row. row.limit (slice_index r)) (λ row. row.limit (slice_index s)) (rows_there cs rows)
      (All-filter (holds_some cs) (Rises r s) rows rise) k;
}

-- Rows that rise both ways have the same limits.
same_limits : (rows : List ConstraintDef) (r s : List ℕ) → All (Rises r s) rows → All (Rises s r) rows
    → map (λ row. row.limit (slice_index r)) rows ≡ map (λ row. row.limit (slice_index s)) rows
same_limits [] r s rise fall = refl
same_limits (row ∷ rows) r s rise fall =
    let one : row.limit (slice_index r) ≡ row.limit (slice_index s) =
    omega (arith, All-head (Rises r s) row rows rise, All-head (Rises s r) row rows fall) in
    ap (λ n. n ∷ map (λ (k : ConstraintDef). k.limit (slice_index r)) rows) one
    ∙ ap (λ ns. row.limit (slice_index s) ∷ ns) (same_limits rows r s (All-tail (Rises r s) row rows rise) (All-tail (Rises s r) row rows fall))

pub limits_stay : (set : SetDef) (cs : List ColumnDef) (rows : List ConstraintDef) (r s : List ℕ) → All (Rises r s) rows
    → All (Rises s r) rows → (program_with set cs rows r).limits ≡ (program_with set cs rows s).limits
limits_stay set cs rows r s rise fall = same_limits (rows_there cs rows) r s (All-filter (holds_some cs) (Rises r s) rows rise)
    (All-filter (holds_some cs) (Rises s r) rows fall)

all_of : {X : Type 0} (xs : List X) (P : X → Type 0) → ((x : X) → P x) → All P xs
all_of [] P holds = All-nil P
all_of (x ∷ xs) P holds = All-cons P x xs (holds x) (all_of xs P holds)

pub have_lengths : (set : SetDef) (cs : List ColumnDef) (rows : List ConstraintDef) (r : List ℕ) → HasLengths (program_with set cs rows r)
have_lengths set cs all r =
    let rows : List ConstraintDef = rows_there cs all in
    record {
      limit_each = length-map rows (λ (k : ConstraintDef). k.limit (slice_index r))
          ∙ sym (length-map rows (λ (k : ConstraintDef). map k.coefficient cs));
      entry_each = λ k l.
          let here : k < length rows = rw (← length-map rows (λ (k : ConstraintDef). map k.coefficient cs)) l in
          let none : ConstraintDef = record { coefficient = λ c. 0; limit = λ b. 0 } in
          ap length (get_or-map (λ (k : ConstraintDef). map k.coefficient cs) rows k none [] here)
          ∙ (length-map cs (slice_index_or rows k none).coefficient ∙ sym (length-map cs (cost_of set)));
    }

pub are_small : (set : SetDef) (cs : List ColumnDef) (rows : List ConstraintDef) (r : List ℕ) → IsAccepted set
    → All (IsKnown (length set.tasks) (length set.resources)) cs → All (IsSmallRow r) rows → AreSmall (program_with set cs rows r)
are_small set cs all r accepted known small =
    let rows : List ConstraintDef = rows_there cs all in
    let each : All (IsSmallRow r) rows = All-filter (holds_some cs) (IsSmallRow r) all small in
    record {
      costs = index_at_most 9223372036854775807 (map (cost_of set) cs) (All-map (λ n. n ≤ 9223372036854775807) (cost_of set) cs
          (All-weaker (IsKnown (length set.tasks) (length set.resources)) (λ c. cost_of set c ≤ 9223372036854775807)
          (λ c here. omega (arith, length_small set c.task c.resource accepted here.0)) cs known));
      entries = entries_at_most 9223372036854775807 (λ (k : ConstraintDef). map k.coefficient cs) rows
          (All-weaker (IsSmallRow r) (λ k. (c : ℕ) → slice_index (map k.coefficient cs) c ≤ 9223372036854775807)
          (λ k few c. index_at_most 9223372036854775807 (map k.coefficient cs)
          (All-map (λ n. n ≤ 9223372036854775807) k.coefficient cs
          (all_of cs (λ c. k.coefficient c ≤ 9223372036854775807) few.coefficients)) c) rows each);
      limits = index_at_most 9223372036854775807 (limits_of cs all r)
          (All-map (λ n. n ≤ 9223372036854775807) (λ (k : ConstraintDef). k.limit (slice_index r)) rows
          (All-weaker (IsSmallRow r) (λ k. k.limit (slice_index r) ≤ 9223372036854775807) (λ k few. few.limit) rows each));
    }

pub is_program : (set : SetDef) (i : ℕ) (cs : List ColumnDef) (rows : List ConstraintDef) (r : List ℕ) → IsAccepted set
    → AreWritten set i cs rows r → IsProgram (program_with set cs rows r)
is_program set i cs rows r accepted written = record {
  lengths = have_lengths set cs rows r;
  covered = λ c within. covered_by set i cs rows r c written.known written.requests within;
  small = are_small set cs rows r accepted written.known written.small;
  columns_to = rw (length-map cs (cost_of set)) written.columns_to;
  rows_to = rw (length-map (rows_there cs rows) (λ (k : ConstraintDef). map k.coefficient cs))
      (omega (arith, filter_shorter (holds_some cs) rows, written.rows_to));
}

-- Columns that pass a test are known and not many. So it is enough to know the rows.
pub written_where : (test : ColumnDef → Bool) (set : SetDef) (i : ℕ) (rows : List ConstraintDef) (r : List ℕ) → IsAccepted set
    → ((x q : ℕ) → x < length set.tasks → q < length set.resources → Contains rows (request_row set i x q))
    → All (IsSmallRow r) rows → length rows < 2 ^ 32 → AreWritten set i (columns_where test set) rows r
written_where test set i rows r accepted requests small few = record {
  known = passing_known test set;
  requests = requests;
  small = small;
  columns_to = omega (arith, passing_few test set accepted);
  rows_to = few;
}
