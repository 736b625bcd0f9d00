-- The cells of the table of rows and stands, place by place.
use Rattle.std.proofs.Common.{◌≡◌, ℕ, ◌<◌, List, pos, refl, arith}
use Rattle.std.specs.declared.option.Option.{Option}
use Rattle.std.proofs.lemmas.Bool.{eq-eqb, ne_eqb, lt-ltb, le-ltb}
use Rattle.fraction128.specs.Fraction.{whole}
use Rattle.program_form.specs.Program.{ProgramDef}
use Rattle.exchange_runs.specs.Table.{variables}
use Rattle.whole_rows.specs.Rows.{RowDef}
use Rattle.whole_runs.specs.States.{row_at, stand_at, limit_seen, stand_cell, table_cell}
use Rattle.whole_runs.specs.declared.stands.Stand.{Stand}

pub cell_of_limit : (p : ProgramDef) (rows : List (Option RowDef)) (stands : List Stand) (i : ℕ)
    → table_cell p rows stands i (variables p) ≡ limit_seen p (row_at rows i) i
cell_of_limit p rows stands i = rw (eq-eqb (variables p) (variables p) refl) refl

pub cell_of_variable : (p : ProgramDef) (rows : List (Option RowDef)) (stands : List Stand) (i v : ℕ) → v < variables p
    → table_cell p rows stands i v ≡ stand_cell p (row_at rows i) i (stand_at stands v)
cell_of_variable p rows stands i v l = rw (ne_eqb v (variables p) (λ q. omega arith), lt-ltb v (variables p) l) refl

pub cell_past : (p : ProgramDef) (rows : List (Option RowDef)) (stands : List Stand) (i v : ℕ) → variables p < v
    → table_cell p rows stands i v ≡ whole (pos 0)
cell_past p rows stands i v l = rw (ne_eqb v (variables p) (λ q. omega arith), le-ltb v (variables p) (omega arith)) refl
