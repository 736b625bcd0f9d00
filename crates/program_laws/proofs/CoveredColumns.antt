-- Each column has a coefficient above zero in a row: in that of its requests.
use Rattle.std.proofs.Common.{◌≡◌, ℕ, ◌<◌, ◌==◌, ◌&&◌, true, List, [], ◌∷◌, ◌++◌, map, length, refl, ◌∙◌, ap, arith, nat_lt, eq-eqb}
use Rattle.std.specs.Prelude.{slice_index, slice_index_or}
use Rattle.std.specs.List.{All, Contains}
use Rattle.std.proofs.lemmas.List.{get_or-map, length-map}
use Rattle.std.proofs.lemmas.List.Folds.{list_any_at}
use Rattle.std.proofs.lemmas.List.Elements.{All-get_or, Contains-append_left}
use Rattle.number_laws.specs.Sums.{flag}
use Rattle.program_form.specs.Program.{IsCovered, columns}
use Rattle.sporadic_model.specs.SetDef.{SetDef}
use Rattle.sporadic_model.specs.declared.ids.Protocol.{Protocol}
use Rattle.blocking_columns.specs.declared.columns.Class.TheVariants as class
use Rattle.blocking_columns.specs.ColumnDef.{ColumnDef, IsKnown}
use Rattle.blocking_columns.specs.Columns.{columns_of}
use Rattle.fragments.specs.Constraints.{ConstraintDef, per, per_pair, holds_some, rows_there, coefficients_of}
use Rattle.blocking_columns.proofs.KnownColumns.{columns_known}
use Rattle.direct_constraints.specs.Rows.{request_row, time_row, common_rows}
use Rattle.preempt_constraints.specs.Rows.{preemption_rows}
use Rattle.program_laws.specs.Programs.{protocol_rows, rows_of, program_with, program_of, cost_of}
use Rattle.program_laws.proofs.Lists.{contains_filter, contains_collected}

some_column : ColumnDef
some_column = record { task = 0; resource = 0; class = class.Direct }

-- The row of the requests of a task and a resource of the set is one of the rows that every protocol has, and of any rows that begin with
-- these.
pub request_row_among : (set : SetDef) (i x q : ℕ) (rows : List ConstraintDef) → x < length set.tasks → q < length set.resources
    → Contains (common_rows set i ++ rows) (request_row set i x q)
request_row_among set i x q rows a b =
    let n = length set.tasks in
    let m = length set.resources in
    let row : ConstraintDef = request_row set i x q in
    let mine : Contains (per m (request_row set i x)) row =
    contains_collected m q (λ q. request_row set i x q ∷ []) row b (0, omega arith, refl) in
    let pair : Contains (per_pair n m (request_row set i)) row = contains_collected n x (λ x. per m (request_row set i x)) row a mine in
    Contains-append_left (common_rows set i) rows row
    (Contains-append_left (per_pair n m (request_row set i)) (per n (time_row set i)) row pair)

flag_itself : (x q : ℕ) → flag ((x == x) && (q == q)) ≡ 1
flag_itself x q = rw (eq-eqb x x refl, eq-eqb q q refl) refl

-- The coefficient of a column in a row, by the row's position among the rows of the program.
coefficient_at : (cs : List ColumnDef) (rows : List ConstraintDef) (row : ConstraintDef) (r c : ℕ) (d : ColumnDef)
    → r < length rows → slice_index_or rows r row ≡ row → c < length cs
    → slice_index (slice_index_or (map (λ k. map k.coefficient cs) rows) r []) c ≡ row.coefficient (slice_index_or cs c d)
coefficient_at cs rows row r c d within same here =
    ap (λ (l : List ℕ). slice_index l c) (get_or-map (λ (k : ConstraintDef). map k.coefficient cs) rows r row [] within)
    ∙ (ap (λ (k : ConstraintDef). slice_index (map k.coefficient cs) c) same ∙ get_or-map row.coefficient cs c d 0 here)

-- So if these rows are among the rows, each column is covered.
pub covered_by : (set : SetDef) (i : ℕ) (cs : List ColumnDef) (rows : List ConstraintDef) (r : List ℕ) (c : ℕ)
    → All (IsKnown (length set.tasks) (length set.resources)) cs
    → ((x q : ℕ) → x < length set.tasks → q < length set.resources → Contains rows (request_row set i x q))
    → c < columns (program_with set cs rows r) → IsCovered (program_with set cs rows r) c
covered_by set i cs rows r c all among within =
    let here : c < length cs = rw (← length-map cs (cost_of set)) within in
    let k : ColumnDef = slice_index_or cs c some_column in
    let known : IsKnown (length set.tasks) (length set.resources) k =
    All-get_or (IsKnown (length set.tasks) (length set.resources)) cs c some_column here all in
    let row : ConstraintDef = request_row set i k.task k.resource in
    let one : row.coefficient k ≡ 1 = flag_itself k.task k.resource in
    let above : nat_lt 0 (row.coefficient k) ≡ true = rw one refl in
    let holds : holds_some cs row ≡ true = list_any_at (λ c. nat_lt 0 (row.coefficient c)) cs c some_column here above in
    let there : Contains (rows_there cs rows) row =
    contains_filter (holds_some cs) rows row (among k.task k.resource known.0 known.1) holds in
    let entry_here : slice_index (slice_index_or (coefficients_of cs rows) there.0 []) c ≡ row.coefficient k =
    coefficient_at cs (rows_there cs rows) row there.0 c some_column there.1 there.2 here in
    let inside : there.0 < length (coefficients_of cs rows) =
    rw (length-map (rows_there cs rows) (λ (k : ConstraintDef). map k.coefficient cs)) there.1 in
    record { by_row = there.0; within = inside; above = rw (entry_here, one) (omega arith) }

pub covered : (p : Protocol) (set : SetDef) (i : ℕ) (r : List ℕ) (c : ℕ) → c < columns (program_of p set i r)
    → IsCovered (program_of p set i r) c
covered p set i r c within = covered_by set i (columns_of p set i) (rows_of p set i) r c (columns_known p set i)
    (λ x q a b. request_row_among set i x q (preemption_rows set i ++ protocol_rows p set i) a b) within
