-- What stands where in the rows of a run: first each row of the program, changed, and then the objective row.
use Rattle.std.proofs.Common.{◌≡◌, ℕ, ◌+◌, ◌<◌, List, [], ◌∷◌, map, length, pos, ◌∙◌, arith, length-append}
use Rattle.std.specs.Prelude.{Some, None}
use Rattle.std.specs.declared.option.Option.{Option}
use Rattle.std.proofs.lemmas.List.{get_or-map, get_or_append_left, get_or_push, length-map}
use Rattle.whole_rows.specs.Rows.{RowDef}
use Rattle.whole_runs.specs.States.{row_at as seen_at}
use Rattle.free_search.specs.Tables.{row_at, rows_seen}

-- the changed rows are as many as the rows
length_changed : (rows : List RowDef) → length (map {B = Option RowDef} Some rows) ≡ length rows
length_changed rows = length-map rows Some

pub length_seen : (rows : List RowDef) (objective : RowDef) → length (rows_seen rows objective) ≡ length rows + 1
length_seen rows objective = omega (arith, length-append (map Some rows) (Some objective ∷ []), length_changed rows)

pub row_seen : (rows : List RowDef) (objective : RowDef) (i : ℕ) → i < length rows
    → seen_at (rows_seen rows objective) i ≡ Some (row_at rows i)
row_seen rows objective i l =
    get_or_append_left (map Some rows) (Some objective ∷ []) None i (omega (arith, length_changed rows))
    ∙ get_or-map Some rows i (record { nums = []; limit = pos 0; den = pos 1 }) None l

pub objective_seen : (rows : List RowDef) (objective : RowDef) → seen_at (rows_seen rows objective) (length rows) ≡ Some objective
objective_seen rows objective = get_or_push (map Some rows) (Some objective) None (length rows) (length_changed rows)
