-- The first parts are the table that a run starts with.
use Rattle.std.proofs.Common.{◌≡◌, ◌≢◌, ◌⊎◌, inl, inr, ℕ, ◌-◌, ◌<◌, ◌≤◌, List, None, Some, pos}
use Rattle.std.proofs.Common.{refl, sym, ◌∙◌, ap, subst, arith}
use Rattle.std.specs.declared.option.Option.{Option}
use Rattle.std.proofs.lemmas.Bool.{cases_eq, cases_lt, eq-eqb, ne_eqb}
use Rattle.fraction128.specs.Fraction.{Fraction, whole}
use Rattle.program_form.specs.Program.{ProgramDef, columns, height, entry, cost}
use Rattle.exchange_runs.specs.Table.{variables, slack, first_number, first_entries, first_limit, IsStart}
use Rattle.exchange_runs.proofs.FirstTable.{first_of-own, first_of-other, first_of-past}
use Rattle.exchange_runs.proofs.FirstTable.{number_at_column, number_at_cost, number_at_limit, number_at_value}
use Rattle.whole_rows.specs.Marks.{HaveRoom}
use Rattle.whole_rows.specs.declared.marks.RowMarks.{RowMarks}
use Rattle.whole_rows.specs.Rows.{RowDef, cell_at}
use Rattle.whole_runs.specs.Columns.{num_seen, AreMarked}
use Rattle.whole_runs.specs.Starts.{AreFirstRows, IsFirstBasis, AreFirstStands, AreFirstOutside, AreFirstMarks}
use Rattle.whole_runs.specs.States.{row_at, stand_at, limit_seen, stand_cell, table_seen, HasPlaces, HasSize, AreStands, ArePlaced}
use Rattle.whole_runs.specs.declared.stands.Stand.{Stand}
use Rattle.whole_runs.specs.declared.stands.Stand.TheVariants.{Outside, Basic}
use Rattle.whole_runs.proofs.Seen.{cell_of_limit, cell_of_variable, cell_past}

-- Where is variable v at first: at its own place as a column, or in its row as a slack?
record IsColumnStand (p : ProgramDef) (stands : List Stand) (v : ℕ) : Type 0 where
  pub within : v < columns p
  pub outside : stand_at stands v ≡ Outside v

record IsSlackStand (p : ProgramDef) (stands : List Stand) (v : ℕ) : Type 0 where
  pub of_row : ℕ
  pub within : of_row < height p
  pub own : slack p of_row ≡ v
  pub basic : stand_at stands v ≡ Basic of_row

stand_first : (p : ProgramDef) (stands : List Stand) → AreFirstStands p stands → (v : ℕ) → v < variables p
    → IsColumnStand p stands v ⊎ IsSlackStand p stands v
stand_first p stands h v l = elim (cases_lt v (columns p)) [
  | inl column ↦ inl (record { within = column; outside = h.columns_outside v column })
  | inr past ↦
      let own : slack p (v - columns p) ≡ v = omega (arith, past) in
      let within : v - columns p < height p = omega (arith, past, l) in
      inr (record {
        of_row = v - columns p;
        within = within;
        own = own;
        basic = ap (stand_at stands) (sym own) ∙ h.slacks_basic (v - columns p) within;
      })
]

outside_once : (k v : ℕ) → Outside k ≡ Outside v → k ≡ v
outside_once k v q = cc

basic_once : (i r : ℕ) → Basic i ≡ Basic r → i ≡ r
basic_once i r q = cc

apart : (k i : ℕ) → Outside k ≡ Basic i → ⊥
apart k i q = cc

pub first_placed : (p : ProgramDef) (stands : List Stand) (outside : List ℕ) → AreFirstStands p stands → AreFirstOutside p outside
    → ArePlaced p outside stands
first_placed p stands outside s o = record {
  place_each = o.place_each;
  each = λ v k l is. elim (stand_first p stands s v l) [
    | inl column ↦ rw (outside_once k v (sym is ∙ column.outside)) (o.own v column.within)
    | inr row ↦ absurd (apart k row.of_row (sym is ∙ row.basic))
  ];
}

pub first_stands_are : (p : ProgramDef) (basis : List ℕ) (stands : List Stand) → IsFirstBasis p basis → AreFirstStands p stands
    → AreStands p basis stands
first_stands_are p basis stands b s = record {
  basic_within = λ i l. rw (b.slacks i l) (omega (arith, l));
  basic = λ i l. ap (stand_at stands) (b.slacks i l) ∙ s.slacks_basic i l;
  of_row = λ v i l is. elim (stand_first p stands s v l) [
    | inl column ↦ absurd (apart v i (sym column.outside ∙ is))
    | inr row ↦
        let same : row.of_row ≡ i = basic_once row.of_row i (sym row.basic ∙ is) in
        let within : i < height p = rw (← same) row.within in
        (within, b.slacks i within ∙ (ap (slack p) (sym same) ∙ row.own))
  ];
  place = λ v k l is. elim (stand_first p stands s v l) [
    | inl column ↦ rw (outside_once k v (sym is ∙ column.outside)) column.within
    | inr row ↦ absurd (apart k row.of_row (sym is ∙ row.basic))
  ];
  once = λ v w k lv lw iv iw. elim (stand_first p stands s v lv) [
    | inr row ↦ absurd (apart k row.of_row (sym iv ∙ row.basic))
    | inl column ↦ elim (stand_first p stands s w lw) [
      | inr other ↦ absurd (apart k other.of_row (sym iw ∙ other.basic))
      | inl other ↦ sym (outside_once k v (sym iv ∙ column.outside)) ∙ outside_once k w (sym iw ∙ other.outside)
    ]
  ];
}

pub first_size : (p : ProgramDef) (rows : List (Option RowDef)) (basis : List ℕ) (stands : List Stand)
    → AreFirstRows p rows → IsFirstBasis p basis → AreFirstStands p stands → HasSize p rows basis stands
first_size p rows basis stands r b s = record {
  row_each = r.row_each;
  basic_each = b.basic_each;
  stand_each = s.stand_each;
  places = λ i l. elim (cases_lt i (height p)) [
    | inl row ↦ subst (HasPlaces p i) (sym (r.untouched i row)) row
    | inr past ↦
        let last : i ≡ height p = omega (arith, past, l) in
        subst (HasPlaces p i) (sym (ap (row_at rows) last ∙ r.last)) r.costs.as_many
  ];
}

-- the cells of a row of the program
row_cell : (p : ProgramDef) (stands : List Stand) (i v : ℕ) → AreFirstStands p stands → i < height p → v < variables p
    → stand_cell p None i (stand_at stands v) ≡ whole (pos (first_number p i v))
row_cell p stands i v s li lv = elim (stand_first p stands s v lv) [
  | inl column ↦ rw (column.outside, number_at_column p i v li column.within) refl
  | inr row ↦ elim (cases_eq i row.of_row) [
    | inl own ↦
        let here : slack p i ≡ v = ap (slack p) own ∙ row.own in
        rw (
          row.basic,
          eq-eqb i row.of_row own,
          ← here,
          first_of-own (columns p) (first_entries p i) (slack p i) (variables p) (first_limit p i) (omega arith) (omega (arith, li)),
        )
        refl
    | inr away ↦
        rw (
          row.basic,
          ne_eqb i row.of_row away,
          first_of-other (columns p) (first_entries p i) (slack p i) (variables p) (first_limit p i) v
              (omega (arith, row.own)) lv (λ q. away (omega (arith, q, row.own))),
        )
        refl
  ]
]

-- and those of the objective row
objective_row_cell : (p : ProgramDef) (objective : RowDef) (stands : List Stand) (v : ℕ) → AreFirstStands p stands
    → ((k : ℕ) → cell_at objective k ≡ whole (pos (cost p k))) → v < variables p
    → stand_cell p (Some objective) (height p) (stand_at stands v) ≡ whole (pos (first_number p (height p) v))
objective_row_cell p objective stands v s costs lv = elim (stand_first p stands s v lv) [
  | inl column ↦ rw column.outside (costs v ∙ ap (λ n. whole (pos n)) (sym (number_at_cost p v column.within)))
  | inr row ↦
      rw (
        row.basic,
        ne_eqb (height p) row.of_row (λ q. omega (arith, q, row.within)),
        first_of-other (columns p) (first_entries p (height p)) (slack p (height p)) (variables p) (first_limit p (height p)) v
            (omega (arith, row.own)) lv (λ q. omega (arith, q, lv)),
      )
      refl
]

cell_first : (p : ProgramDef) (rows : List (Option RowDef)) (stands : List Stand) → AreFirstRows p rows → AreFirstStands p stands
    → (i v : ℕ) → i ≤ height p → v < variables p → stand_cell p (row_at rows i) i (stand_at stands v) ≡ whole (pos (first_number p i v))
cell_first p rows stands r s i v li lv = elim (cases_lt i (height p)) [
  | inl row ↦ rw (r.untouched i row) (row_cell p stands i v s row lv)
  | inr past ↦
      let last : i ≡ height p = omega (arith, past, li) in
      rw (last, r.last) (objective_row_cell p r.objective stands v s r.costs.cells lv)
]

limit_first : (p : ProgramDef) (rows : List (Option RowDef)) → AreFirstRows p rows → (i : ℕ) → i ≤ height p
    → limit_seen p (row_at rows i) i ≡ whole (pos (first_number p i (variables p)))
limit_first p rows r i li = elim (cases_lt i (height p)) [
  | inl row ↦ rw (r.untouched i row, number_at_limit p i row) refl
  | inr past ↦
      let last : i ≡ height p = omega (arith, past, li) in
      rw (last, r.last, number_at_value p) r.costs.limit
]

-- The first table.
pub starts : (p : ProgramDef) (rows : List (Option RowDef)) (basis : List ℕ) (stands : List Stand)
    → AreFirstRows p rows → IsFirstBasis p basis → AreFirstStands p stands → IsStart p (table_seen p rows basis stands)
starts p rows basis stands r b s = record {
  cells = λ i v l. elim (cases_lt v (variables p)) [
    | inl within ↦ cell_of_variable p rows stands i v within ∙ cell_first p rows stands r s i v l within
    | inr past ↦ elim (cases_eq v (variables p)) [
      | inl here ↦ rw here (cell_of_limit p rows stands i ∙ limit_first p rows r i l)
      | inr away ↦
          let behind : variables p < v = omega (arith, past, away) in
          cell_past p rows stands i v behind ∙ ap (λ n. whole (pos n)) (sym (first_of-past (columns p) (first_entries p i)
          (slack p i) (variables p) (first_limit p i) v (omega arith) behind))
    ]
  ];
  basis = b.slacks;
}

zero_whole : (n : ℕ) → pos n ≢ pos 0 → n ≢ 0
zero_whole n some none = some (ap pos none)

-- and its marks
pub first_marked : (p : ProgramDef) (rows : List (Option RowDef)) (marks : RowMarks) → AreFirstRows p rows → AreFirstMarks p marks
    → AreMarked p rows marks
first_marked p rows marks r m = record {
  room = subst (λ n. HaveRoom (columns p) n marks) (sym r.row_each) m.room;
  marked = λ k i lk li some. elim (cases_lt i (height p)) [
    | inl row ↦ m.entries k i lk row (zero_whole (entry p i k) (rw (r.untouched i row) at some))
    | inr past ↦
        let last : i ≡ height p = omega (arith, past, li, r.row_each) in
        let number : num_seen p (row_at rows i) i k ≡ pos (cost p k)
        = ap (λ (row : Option RowDef). num_seen p row i k) (ap (row_at rows) last ∙ r.last)
        ∙ ap (λ (f : Fraction). f.num) (r.costs.cells k) in
        rw last (m.costs k lk (zero_whole (cost p k) (rw number at some)))
  ];
}
