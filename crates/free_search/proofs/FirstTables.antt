-- The first table of the search is the first of the run.
use Rattle.std.proofs.Common.{◌≡◌, inl, inr, ℕ, ◌+◌, ◌-◌, ◌<◌, ◌≤◌, nat_lt, ◌==◌, if◌then◌else◌, List, length, get_or}
use Rattle.std.proofs.Common.{None, Some, ℤ, pos, ◌<ℤ◌, refl, sym, ◌∙◌, ap, subst, arith}
use Rattle.std.specs.declared.option.Option.{Option}
use Rattle.std.proofs.lemmas.Bool.{cases_eq, cases_lt, eq-eqb, ne_eqb, lt-ltb, le-ltb}
use Rattle.std.proofs.lemmas.Int.{ints}
use Rattle.fraction128.specs.Fraction.{Fraction, whole}
use Rattle.program_form.specs.Program.{ProgramDef, columns, height, limit}
use Rattle.exchange_runs.specs.Table.{variables, slack, IsStart}
use Rattle.exchange_runs.proofs.Found.{listed}
use Rattle.whole_rows.specs.Rows.{RowDef, limit_of}
use Rattle.whole_runs.specs.Starts.{IsFirstRow, IsCostRow, AreFirstRows, AreFirstStands}
use Rattle.whole_runs.specs.States.{row_at as seen_at, stand_at, cell_seen, limit_seen, stand_cell, table_cell, HasPlaces, HasSize}
use Rattle.whole_runs.specs.declared.stands.Stand.{Stand}
use Rattle.whole_runs.specs.declared.stands.Stand.TheVariants.{Outside, Basic}
use Rattle.whole_runs.proofs.FirstTable.{first_placed, first_stands_are, starts}
use Rattle.whole_runs.proofs.Seen.{cell_of_limit, cell_of_variable, cell_past}
use Rattle.free_search.specs.Tables.{row_at, rows_seen, HavePositive, AreStandsOf, IsAfter, table_with}
use Rattle.free_search.specs.Begun.{AreFirstParts}
use Rattle.free_search.specs.declared.tableau.Tableau.{Tableau}
use Rattle.free_search.proofs.SeenRows.{row_seen, objective_seen, length_seen}

-- where variable v is at first, if there are n columns
abbrev first_stand : ℕ → ℕ → Stand
first_stand n v = if nat_lt v n then Outside v else Basic (v - n)

less_own : (n r : ℕ) → (n + r) - n ≡ r
less_own n r = omega arith

-- A list of where each variable is. It exists only in the proof.
first_stands : (p : ProgramDef) → (stands : List Stand) × AreFirstStands p stands
first_stands p =
    let made : (xs : List Stand) × (length xs ≡ variables p)
    × ((v : ℕ) → v < variables p → get_or xs v (Basic 0) ≡ first_stand (columns p) v)
    = listed Stand (Basic 0) (variables p) (first_stand (columns p)) in (
      made.0,
      record {
        stand_each = made.1;
        columns_outside = λ c l. made.2 c (omega (arith, l)) ∙ rw (lt-ltb c (columns p) l) refl;
        slacks_basic = λ r l.
            made.2 (slack p r) (omega (arith, l))
            ∙ rw (le-ltb (slack p r) (columns p) (omega arith), less_own (columns p) r) refl;
      },
    )

-- the row at i of rows that no exchange has changed
abbrev first_or_none : ProgramDef → RowDef → ℕ → Option RowDef
first_or_none p objective i = if i == height p then Some objective else None

-- Rows that no exchange has changed, with the row of the costs. The search counts each row as changed from the start, with the same cells.
first_rows : (p : ProgramDef) (objective : RowDef) → IsCostRow p objective
    → (rows : List (Option RowDef)) × (AreFirstRows p rows) × (seen_at rows (height p) ≡ Some objective)
first_rows p objective costs =
    let made : (xs : List (Option RowDef)) × (length xs ≡ height p + 1)
    × ((i : ℕ) → i < height p + 1 → get_or xs i None ≡ first_or_none p objective i)
    = listed (Option RowDef) None (height p + 1) (first_or_none p objective) in
    let last : get_or made.0 (height p) None ≡ Some objective
    = made.2 (height p) (omega arith) ∙ rw (eq-eqb (height p) (height p) refl) refl in (
      made.0,
      record {
        row_each = made.1;
        untouched = λ i l. made.2 i (omega (arith, l)) ∙ rw (ne_eqb i (height p) (λ q. omega (arith, q, l))) refl;
        objective = objective;
        last = last;
        costs = costs;
      },
      last,
    )

-- Has row i the same cells in both forms, the program's own or a changed one?
record HasSameCells (p : ProgramDef) (i : ℕ) (row other : Option RowDef) : Type 0 where
  pub cells : (k : ℕ) → cell_seen p row i k ≡ cell_seen p other i k
  pub limit : limit_seen p row i ≡ limit_seen p other i

same_cell : (p : ProgramDef) (i : ℕ) (row other : Option RowDef) (stand : Stand) → HasSameCells p i row other
    → stand_cell p row i stand ≡ stand_cell p other i stand
same_cell p i row other (Outside k) h = h.cells k
same_cell p i row other (Basic j) h = refl

same_table_cell : (p : ProgramDef) (rows others : List (Option RowDef)) (stands : List Stand) (i v : ℕ)
    → HasSameCells p i (seen_at rows i) (seen_at others i) → table_cell p rows stands i v ≡ table_cell p others stands i v
same_table_cell p rows others stands i v h = elim (cases_lt v (variables p)) [
  | inl within ↦
      cell_of_variable p rows stands i v within
      ∙ (same_cell p i (seen_at rows i) (seen_at others i) (stand_at stands v) h
      ∙ sym (cell_of_variable p others stands i v within))
  | inr past ↦ elim (cases_eq v (variables p)) [
    | inl here ↦ rw here (cell_of_limit p rows stands i ∙ (h.limit ∙ sym (cell_of_limit p others stands i)))
    | inr away ↦
        let behind : variables p < v = omega (arith, past, away) in
        cell_past p rows stands i v behind ∙ sym (cell_past p others stands i v behind)
  ]
]

-- a row that is as at the start has the cells of one that no exchange has changed
same_cells : (p : ProgramDef) (i : ℕ) (row : RowDef) → IsFirstRow p i row → HasSameCells p i (Some row) None
same_cells p i row h = record { cells = h.cells; limit = h.limit }

seen_same : (p : ProgramDef) (tableau : Tableau) (others : List (Option RowDef)) → AreFirstParts p tableau → AreFirstRows p others
    → seen_at others (height p) ≡ Some tableau.objective → (i : ℕ) → i ≤ height p
    → HasSameCells p i (seen_at (rows_seen tableau.rows.items tableau.objective) i) (seen_at others i)
seen_same p tableau others parts first last i l = elim (cases_lt i (height p)) [
  | inl row ↦
      rw (row_seen tableau.rows.items tableau.objective i (omega (arith, row, parts.rows.as_many)), first.untouched i row)
      (same_cells p i (row_at tableau.rows.items i) (parts.rows.each i row))
  | inr past ↦
      let here : i ≡ height p = omega (arith, past, l) in
      let seen : seen_at (rows_seen tableau.rows.items tableau.objective) (height p) ≡ Some tableau.objective
      = ap (seen_at (rows_seen tableau.rows.items tableau.objective)) (sym parts.rows.as_many)
      ∙ objective_seen tableau.rows.items tableau.objective in
      rw (here, seen, last) (record { cells = λ k. refl; limit = refl })
]

first_table : (p : ProgramDef) (tableau : Tableau) (stands : List Stand) → AreFirstParts p tableau → AreFirstStands p stands
    → IsStart p (table_with p tableau stands)
first_table p tableau stands parts s =
    let others : (rows : List (Option RowDef)) × (AreFirstRows p rows) × (seen_at rows (height p) ≡ Some tableau.objective)
    = first_rows p tableau.objective parts.costs in
    let start = starts p others.0 tableau.basis.items stands others.1 parts.basis s in
    record {
      cells = λ i v l.
          same_table_cell p (rows_seen tableau.rows.items tableau.objective) others.0 stands i v
          (seen_same p tableau others.0 parts others.1 others.2 i l)
          ∙ start.cells i v l;
      basis = parts.basis.slacks;
    }

positive_if_whole : (row : RowDef) (n : ℤ) → limit_of row ≡ whole n → pos 0 <ℤ row.den
positive_if_whole row n h = let one : row.den ≡ pos 1 = ap (λ (f : Fraction). f.den) h in rw one (omega (arith, ints))

first_positive : (p : ProgramDef) (tableau : Tableau) → AreFirstParts p tableau → HavePositive tableau.rows.items tableau.objective
first_positive p tableau parts = record {
  rows = λ i l.
      positive_if_whole (row_at tableau.rows.items i) (pos (limit p i)) (parts.rows.each i (omega (arith, l, parts.rows.as_many))).limit;
  objective = positive_if_whole tableau.objective (pos 0) parts.costs.limit;
}

first_size : (p : ProgramDef) (tableau : Tableau) (stands : List Stand) → AreFirstParts p tableau → AreFirstStands p stands
    → HasSize p (rows_seen tableau.rows.items tableau.objective) tableau.basis.items stands
first_size p tableau stands parts s =
    let rows = tableau.rows.items in
    let objective = tableau.objective in
    record {
      row_each = length_seen rows objective ∙ ap (λ n. n + 1) parts.rows.as_many;
      basic_each = parts.basis.basic_each;
      stand_each = s.stand_each;
      places = λ i l. elim (cases_lt i (height p)) [
        | inl row ↦
            subst (HasPlaces p i) (sym (row_seen rows objective i (omega (arith, row, parts.rows.as_many)))) (parts.rows.each i row).as_many
        | inr past ↦
            let here : i ≡ length tableau.rows.items = omega (arith, past, l, parts.rows.as_many) in
            subst (HasPlaces p i) (sym (ap (seen_at (rows_seen rows objective)) here ∙ objective_seen rows objective))
            parts.costs.as_many
      ];
    }

first_stands_of : (p : ProgramDef) (tableau : Tableau) (stands : List Stand) → AreFirstParts p tableau → AreFirstStands p stands
    → AreStandsOf p tableau stands
first_stands_of p tableau stands parts s = record {
  size = first_size p tableau stands parts s;
  are = first_stands_are p tableau.basis.items stands parts.basis s;
  placed = first_placed p stands tableau.outside.items s parts.outside;
  full = λ k l. (
    rw (parts.outside.own k l) (omega (arith, l)),
    ap (stand_at stands) (parts.outside.own k l) ∙ s.columns_outside k l,
  );
}

-- The table of the first parts is that of the run before any exchange.
pub first_is : (p : ProgramDef) (tableau : Tableau) → AreFirstParts p tableau → IsAfter p 0 tableau
first_is p tableau parts =
    let made : (stands : List Stand) × AreFirstStands p stands = first_stands p in
    record {
      stands = made.0;
      are = first_stands_of p tableau made.0 parts made.1;
      positive = first_positive p tableau parts;
      reached = first_table p tableau made.0 parts made.1;
    }
