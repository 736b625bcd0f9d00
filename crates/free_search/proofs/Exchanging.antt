-- An exchange of the table is one of the run.
use Rattle.std.proofs.Common.{◌≡◌, ◌≢◌, inl, inr, ℕ, suc, ◌+◌, ◌<◌, List, length, slice_index, set, pos}
use Rattle.std.proofs.Common.{refl, sym, ap, ◌∙◌, subst, arith, get_or-set_same, get_or-set_other}
use Rattle.std.specs.Prelude.{Some}
use Rattle.std.proofs.lemmas.Bool.{cases_eq, cases_lt}
use Rattle.std.proofs.lemmas.Int.{ints}
use Rattle.fraction128.specs.Fraction.{whole}
use Rattle.program_form.specs.Program.{ProgramDef, columns, height}
use Rattle.exchange_runs.specs.Table.{variables}
use Rattle.exchange_runs.specs.Exchange.{IsEntering, IsLeavingOver}
use Rattle.exchange_runs.specs.Unbounded.{IsFraction, FreelyReached}
use Rattle.whole_rows.specs.Rows.{RowDef}
use Rattle.whole_runs.specs.States.{row_at as seen_at, stand_at, table_seen, AreStands, ArePlaced, HasPlaces, HasSize}
use Rattle.whole_runs.specs.Exchanges.{AreCells, AreExchangedOver, IsLeftOver}
use Rattle.whole_runs.specs.declared.stands.Stand.{Stand}
use Rattle.whole_runs.specs.declared.stands.Stand.TheVariants.{Outside}
use Rattle.whole_runs.proofs.Exchanging.{exchange_seen, size_exchanged, begun as begins}
use Rattle.whole_runs.proofs.Following.{placed_after}
use Rattle.whole_runs.proofs.Standing.{IsBegun, stands_after, stands_exchanged, stand_left, stand_other, left_basic, outside_apart}
use Rattle.free_search.specs.Exchanges.{AreExchanged, IsExchanged}
use Rattle.free_search.specs.Rows.{IsLeftRow}
use Rattle.free_search.specs.Tables.{row_at, rows_seen, HavePositive, IsAfter, table_with}
use Rattle.free_search.specs.declared.tableau.Tableau.{Tableau}
use Rattle.free_search.proofs.Choosing.{rows_are, objective_places}
use Rattle.free_search.proofs.Runs.{sizes_of}
use Rattle.free_search.proofs.SeenRows.{length_seen, row_seen, objective_seen}

zero_is : IsFraction (whole (pos 0))
zero_is = record { positive = omega (arith, ints) }

one_is : IsFraction (whole (pos 1))
one_is = record { positive = omega (arith, ints) }

-- each row has fractions as its cells, where each denominator is above zero
are_cells : (p : ProgramDef) (rows : List RowDef) (objective : RowDef) → HavePositive rows objective
    → AreCells IsFraction p (rows_seen rows objective)
are_cells p rows objective h = record {
  cells = λ i k l. elim (cases_lt i (length rows)) [
    | inl before ↦ rw (row_seen rows objective i before) (record { positive = h.rows i before })
    | inr behind ↦
        let last : i ≡ length rows = omega (arith, behind, l, length_seen rows objective) in
        rw (last, objective_seen rows objective) (record { positive = h.objective })
  ];
  limits = λ i l. elim (cases_lt i (length rows)) [
    | inl before ↦ rw (row_seen rows objective i before) (record { positive = h.rows i before })
    | inr behind ↦
        let last : i ≡ length rows = omega (arith, behind, l, length_seen rows objective) in
        rw (last, objective_seen rows objective) (record { positive = h.objective })
  ];
}

-- what is left of a row, seen as one of the run
left_seen : (p : ProgramDef) (i k : ℕ) (row divided left : RowDef) → IsLeftRow row k divided left
    → IsLeftOver IsFraction p i (Some row) k divided (Some left)
left_seen p i k row divided left h = record { own = h.own; others = h.others; limit = h.limit }

module _ (p : ProgramDef) (rows rows' : List RowDef) (objective objective' : RowDef) (k r : ℕ) (many : length rows ≡ height p)
    (each : (i : ℕ) → i < length rows → length (row_at rows i).nums ≡ columns p) (own : length objective.nums ≡ columns p)
    (lr : r < length rows) (h : AreExchanged rows rows' k r) (left : IsLeftRow objective k (row_at rows' r) objective') where
  after_at : (i : ℕ) → i < length rows → seen_at (rows_seen rows' objective') i ≡ Some (row_at rows' i)
  after_at i l = row_seen rows' objective' i (omega (arith, l, h.as_many))

  after_last : seen_at (rows_seen rows' objective') (length rows) ≡ Some objective'
  after_last = ap (seen_at (rows_seen rows' objective')) (sym h.as_many) ∙ objective_seen rows' objective'

  row_places : (i : ℕ) → i < length rows → length (row_at rows' i).nums ≡ columns p
  row_places i l = elim (cases_eq i r) [
    | inl here ↦ rw here (h.divided.as_many ∙ each r lr)
    | inr away ↦ (h.taken i l away).as_many ∙ each i l
  ]

  places_after : (i : ℕ) → i < length (rows_seen rows objective) → HasPlaces p i (seen_at (rows_seen rows' objective') i)
  places_after i l = elim (cases_lt i (length rows)) [
    | inl before ↦ subst (HasPlaces p i) (sym (after_at i before)) (row_places i before)
    | inr behind ↦
        let last : i ≡ length rows = omega (arith, behind, l, length_seen rows objective) in
        subst (HasPlaces p i) (sym (ap (seen_at (rows_seen rows' objective')) last ∙ after_last)) (left.as_many ∙ own)
  ]

  taken_after : (i : ℕ) → i < length (rows_seen rows objective) → i ≢ r
      → IsLeftOver IsFraction p i (seen_at (rows_seen rows objective) i) k (row_at rows' r) (seen_at (rows_seen rows' objective') i)
  taken_after i l away = elim (cases_lt i (length rows)) [
    | inl before ↦
        rw (row_seen rows objective i before, after_at i before)
        (left_seen p i k (row_at rows i) (row_at rows' r) (row_at rows' i) (h.taken i before away))
    | inr behind ↦
        let last : i ≡ length rows = omega (arith, behind, l, length_seen rows objective) in
        rw (last, objective_seen rows objective, after_last)
        (left_seen p (length rows) k objective (row_at rows' r) objective' left)
  ]

  exchanged_seen : AreExchangedOver IsFraction p (rows_seen rows objective) (rows_seen rows' objective') k r
  exchanged_seen = record {
    as_many = length_seen rows' objective' ∙ (ap (λ n. n + 1) h.as_many ∙ sym (length_seen rows objective));
    places = places_after;
    row = row_at rows' r;
    here = rw (after_at r lr) (record { as_many = row_places r lr; cells = λ j. refl; limit = refl });
    divided = rw (row_seen rows objective r lr) (record {
      cells = record {
        cells = λ j. record { positive = h.divided.positive };
        limit = record { positive = h.divided.positive };
      };
      own = h.divided.own;
      others = h.divided.others;
      limit = h.divided.limit;
    });
    taken = taken_after;
  }

  positive_after : HavePositive rows' objective'
  positive_after = record {
    rows = λ i l. elim (cases_eq i r) [
      | inl here ↦ rw here h.divided.positive
      | inr away ↦ (h.taken i (omega (arith, l, h.as_many)) away).own.form.positive
    ];
    objective = left.own.form.positive;
  }

-- each place has a variable after the exchange
full_after : (p : ProgramDef) (basis outside : List ℕ) (stands : List Stand) (e k r j : ℕ) → IsBegun p basis stands e k r
    → length outside ≡ columns p
    → ((i : ℕ) → i < columns p → (slice_index outside i < variables p) × (stand_at stands (slice_index outside i) ≡ Outside i))
    → j < columns p
    → (slice_index (set outside k (slice_index basis r)) j < variables p)
    × (stand_at (stands_after basis stands e k r) (slice_index (set outside k (slice_index basis r)) j) ≡ Outside j)
full_after p basis outside stands e k r j begun many full l = elim (cases_eq j k) [
  | inl here ↦
      rw (here, get_or-set_same outside k (slice_index basis r) 0 (omega (arith, here, l, many)))
      (begun.are.basic_within r begun.row, stand_left p basis stands e k r begun)
  | inr away ↦
      let v : ℕ = slice_index outside j in
      let apart_e : slice_index outside j ≢ e = λ same. away (outside_same j k
      (sym (full j l).1 ∙ (ap (λ x. stand_at stands x) same ∙ begun.place))) in
      let apart_b : slice_index outside j ≢ slice_index basis r =
      outside_apart stands v (slice_index basis r) j r (full j l).1 (left_basic p basis stands e k r begun) in
      rw (get_or-set_other outside k j (slice_index basis r) 0 away)
      ((full j l).0, stand_other basis stands e k r v apart_e apart_b ∙ (full j l).1)
]
  where
    outside_same : (i j : ℕ) → Outside i ≡ Outside j → i ≡ j
    outside_same i j h = cc

-- The table after the exchange is the next of the run.
pub exchanged : (p : ProgramDef) (n k r : ℕ) (old new : Tableau) (h : IsAfter p n old) → k < columns p
    → IsEntering p (table_with p old h.stands) (slice_index old.outside.items k)
    → IsLeavingOver IsFraction p (table_with p old h.stands) (slice_index old.outside.items k) r
    → IsExchanged old k r new → IsAfter p (suc n) new
exchanged p n k r old new h lk enters leaves x =
    let rows = old.rows.items in
    let basis = old.basis.items in
    let outside = old.outside.items in
    let e : ℕ = slice_index old.outside.items k in
    let seen = rows_seen old.rows.items old.objective in
    let after = rows_seen new.rows.items new.objective in
    let many : length old.rows.items ≡ height p = rows_are p old h.stands h.are in
    let lr : r < length old.rows.items = omega (arith, many, leaves.least.within) in
    let place : stand_at h.stands e ≡ Outside k = (h.are.full k lk).1 in
    let begun : IsBegun p old.basis.items h.stands e k r
    = begins IsFraction p seen basis h.stands e k r h.are.size h.are.are enters place leaves in
    let each : (i : ℕ) → i < length old.rows.items → length (row_at old.rows.items i).nums ≡ columns p
    = (sizes_of p old h.stands h.are).rows in
    let own : length old.objective.nums ≡ columns p = objective_places p old h.stands h.are in
    let are : AreExchangedOver IsFraction p (rows_seen old.rows.items old.objective) (rows_seen new.rows.items new.objective) k r
    = exchanged_seen p rows new.rows.items old.objective new.objective k r many each own lr x.rows x.objective in
    let placed = λ (outside' : List ℕ). (j : ℕ) → j < columns p → (slice_index outside' j < variables p)
    × (stand_at (stands_after old.basis.items h.stands (slice_index old.outside.items k) k r) (slice_index outside' j) ≡ Outside j) in
    record {
      stands = stands_after basis h.stands e k r;
      are = record {
        size = subst (λ (basis' : List ℕ). HasSize p after basis' (stands_after basis h.stands e k r)) (sym x.basis)
            (size_exchanged IsFraction p seen after basis h.stands e k r h.are.size are);
        are = subst (λ (basis' : List ℕ). AreStands p basis' (stands_after basis h.stands e k r)) (sym x.basis)
            (stands_exchanged p basis h.stands e k r begun);
        placed = subst (λ (outside' : List ℕ). ArePlaced p outside' (stands_after basis h.stands e k r)) (sym x.outside)
            (placed_after p basis h.stands outside e k r begun h.are.placed);
        full = subst placed (sym x.outside)
            (λ j l. full_after p basis outside h.stands e k r j begun h.are.placed.place_each h.are.full l);
      };
      positive = positive_after p rows new.rows.items old.objective new.objective k r many each own lr x.rows x.objective;
      reached = subst (λ (basis' : List ℕ). FreelyReached p (suc n) (table_seen p after basis' (stands_after basis h.stands e k r)))
          (sym x.basis) (
            table_with p old h.stands,
            e,
            r,
            h.reached,
            exchange_seen IsFraction zero_is one_is p seen after basis h.stands e k r h.are.size.row_each
                (are_cells p rows old.objective h.positive) begun enters leaves are,
          );
    }
