-- No variable has a number above zero in the objective row below the one where the next walk begins.
use Rattle.std.proofs.Common.{◌≡◌, ◌≢◌, inl, inr, ℕ, ◌+◌, ◌<◌, ◌≤◌, List, length, slice_index, set, Some, ℤ, pos, ◌-ℤ◌, ◌*ℤ◌, ◌≤ℤ◌, ◌<ℤ◌}
use Rattle.std.proofs.Common.{refl, sym, ap, ◌∙◌, arith, get_or-set_same, get_or-set_other, length-set}
use Rattle.std.specs.declared.option.Option.{Option}
use Rattle.std.proofs.lemmas.Int.{ints, by_lt_z}
use Rattle.number_laws.proofs.Ring.{zero-mul, mul-zero}
use Rattle.number_laws.proofs.Order.{times_positive}
use Rattle.fraction128.specs.Fraction.{Fraction, IsQuotient, whole}
use Rattle.program_form.specs.Program.{ProgramDef, height}
use Rattle.exchange_runs.specs.Table.{variables}
use Rattle.exchange_runs.specs.Exchange.{IsEntering, IsLeavingOver, IsLessOver}
use Rattle.exchange_runs.proofs.Shown.{Shows, shows_difference, shows_above}
use Rattle.exchange_runs.specs.SmallRuns.{IsSmall}
use Rattle.whole_rows.specs.Rows.{RowDef, PivotDef, entry_at, num_at, cell_at}
use Rattle.whole_runs.specs.States.{row_at, cell_seen, stand_at, table_seen, HasSize, AreStands, ArePlaced}
use Rattle.whole_runs.specs.Choice.{IsFrom}
use Rattle.whole_runs.specs.Exchanges.{AreSmallRows, AreExchanged}
use Rattle.whole_runs.specs.Takings.{ExchangesRows}
use Rattle.whole_runs.specs.declared.stands.Stand.{Stand}
use Rattle.whole_runs.specs.declared.stands.Stand.TheVariants.{Outside}
use Rattle.whole_runs.proofs.Exchanging.{begun, cell_read}
use Rattle.whole_runs.proofs.Marking.{product_none}
use Rattle.whole_runs.proofs.Standing.{IsBegun, stands_after, outside_cases}
use Rattle.whole_runs.proofs.Taking.{listed_cases, unlisted_zero}

-- Where the divided row has zero, what was not above zero isn't.
below_stays : (a f y b : Fraction) → IsSmall a → IsSmall f → IsSmall y → y.num ≡ pos 0 → a.num ≤ℤ pos 0 → IsLessOver IsSmall a f y b
    → b.num ≤ℤ pos 0
below_stays a f y b small_a small_f small_y none below h =
    let no_product : h.product.num ≡ pos 0
    = product_none f y h.product small_f small_y (ap (λ x. f.num *ℤ x) none ∙ mul-zero f.num) h.is_product in
    let shown : Shows a.den (a.num -ℤ pos 0) b = shows_difference a.den a.num (pos 0) a h.product b
    (record { same = refl; positive = small_a.positive })
    (record { same = rw no_product (zero-mul a.den ∙ sym (zero-mul h.product.den)); positive = h.product_form.positive })
    h.form.positive h.is_difference in
    by_lt_z (pos 0) b.num
    (λ above. absurd (apart a.num below (shows_above a.den (a.num -ℤ pos 0) b small_a.positive shown above))) (λ le. le)
  where
    apart : (x : ℤ) → x ≤ℤ pos 0 → pos 0 <ℤ (x -ℤ pos 0) → ⊥
    apart x l h = omega (arith, ints)

-- One over a value isn't zero.
inverse_apart : (a c : Fraction) → IsSmall a → IsSmall c → IsQuotient (whole (pos 1)) a c → c.num ≢ pos 0
inverse_apart a c small_a small_c h none =
    let above : pos 0 <ℤ ((pos 1 *ℤ a.den) *ℤ c.den) = times_positive (pos 1 *ℤ a.den) c.den
    (times_positive (pos 1) a.den (omega (arith, ints)) small_a.positive) small_c.positive in
    gone ((pos 1 *ℤ a.den) *ℤ c.den) above
    (sym h.same ∙ (ap (λ x. x *ℤ (pos 1 *ℤ a.num)) none ∙ zero-mul (pos 1 *ℤ a.num)))
  where
    gone : (x : ℤ) → pos 0 <ℤ x → x ≡ pos 0 → ⊥
    gone x l h = omega (arith, ints)

-- The variable that leaves is where the entering one was.
pub placed_after : (p : ProgramDef) (basis : List ℕ) (stands : List Stand) (outside : List ℕ) (e k r : ℕ)
    → IsBegun p basis stands e k r → ArePlaced p outside stands
    → ArePlaced p (set outside k (slice_index basis r)) (stands_after basis stands e k r)
placed_after p basis stands outside e k r h placed = record {
  place_each = length-set outside k (slice_index basis r) ∙ placed.place_each;
  each = λ v j l at. elim (outside_cases p basis stands e k r v j h l at) [
    | inl left ↦
        let within : k < length outside = omega (arith, h.are.place e k h.enters h.place, placed.place_each) in
        rw left.1 (get_or-set_same outside k (slice_index basis r) 0 within ∙ sym left.0)
    | inr other ↦ get_or-set_other outside k j (slice_index basis r) 0 other.0 ∙ placed.each v j l other.1
  ];
}

-- Where the divided row has zero, a variable's number in the objective row isn't above zero after the exchange if it wasn't before.
unlisted_below : (p : ProgramDef) (rows rows' : List (Option RowDef)) (basis : List ℕ) (stands : List Stand) (e k r v j : ℕ)
    → length rows ≡ height p + 1 → AreSmallRows p rows → IsBegun p basis stands e k r
    → IsEntering p (table_seen p rows basis stands) e → (h : AreExchanged p rows rows' k r) → v < e
    → stand_at (stands_after basis stands e k r) v ≡ Outside j → num_at h.row j ≡ pos 0
    → (cell_seen p (row_at rows' (height p)) (height p) j).num ≤ℤ pos 0
unlisted_below p rows rows' basis stands e k r v j many small at_first enters h before at none =
    let m = height p in
    let within : height p < length rows = omega (arith, many) in
    let row_within : r < length rows = omega (arith, many, at_first.row) in
    let variable : v < variables p = omega (arith, before, at_first.enters) in
    elim (outside_cases p basis stands e k r v j at_first variable at) [
      | inl left ↦
          let none_own : (cell_at h.row k).num ≡ pos 0 = ap (num_at h.row) (sym left.1) ∙ none in
          absurd (inverse_apart (cell_seen p (row_at rows r) r k) (cell_at h.row k) (small.cells r k row_within) (h.divided.cells.cells k)
          h.divided.own none_own)
      | inr other ↦
          let was : (cell_seen p (row_at rows (height p)) (height p) j).num ≤ℤ pos 0
          = rw (cell_read p rows stands m v (Outside j) variable other.1) at (enters.least v before) in
          below_stays (cell_seen p (row_at rows m) m j) (cell_seen p (row_at rows m) m k) (cell_at h.row j)
          (cell_seen p (row_at rows' m) m j) (small.cells m j within) (small.cells m k within) (h.divided.cells.cells j) none was
          ((h.taken m within (λ same. omega (arith, same, at_first.row))).others j other.0)
    ]

some_once : (a b : RowDef) → Some a ≡ Some b → a ≡ b
some_once a b h = cc

-- So the next walk may begin at the least variable whose number is above zero at a place that the pivot lists, or at the one that entered.
pub from_after : (p : ProgramDef) (rows rows' : List (Option RowDef)) (basis : List ℕ) (stands : List Stand) (outside : List ℕ)
    (pivot : PivotDef) (objective : RowDef) (e k r from : ℕ)
    → length rows ≡ height p + 1 → AreSmallRows p rows → IsBegun p basis stands e k r
    → IsEntering p (table_seen p rows basis stands) e → ExchangesRows p rows rows' k r pivot
    → ArePlaced p outside (stands_after basis stands e k r) → row_at rows' (height p) ≡ Some objective
    → from ≤ e → ((m : ℕ) → m < length pivot.entries → pos 0 <ℤ num_at objective (entry_at pivot.entries m).place
    → from ≤ slice_index outside (entry_at pivot.entries m).place)
    → IsFrom p rows' (stands_after basis stands e k r) from
from_after p rows rows' basis stands outside pivot objective e k r from many small before enters h placed last first each row is v j l at =
    let same : row ≡ objective = some_once row objective (sym is ∙ last) in
    let variable : v < variables p = omega (arith, l, first, before.enters) in
    rw same (by_lt_z (pos 0) (num_at objective j)
    (λ above. elim (listed_cases pivot.entries j) [
      | inl listed ↦
          let least : from ≤ slice_index outside j = rw listed.2 at (each listed.0 listed.1 (rw listed.2 above)) in
          absurd (omega (arith, least, placed.each v j variable at, l))
      | inr none ↦
          let below : (cell_seen p (row_at rows' (height p)) (height p) j).num ≤ℤ pos 0
          = unlisted_below p rows rows' basis stands e k r v j many small before enters h.0 (omega (arith, l, first)) at
          (sym (h.1.each j) ∙ unlisted_zero pivot.entries j none) in
          rw last at below
    ])
    (λ le. le))

-- The same, of an exchange.
pub step_placed : (p : ProgramDef) (rows : List (Option RowDef)) (basis : List ℕ) (stands : List Stand) (outside : List ℕ) (e k r : ℕ)
    → HasSize p rows basis stands → AreStands p basis stands
    → IsEntering p (table_seen p rows basis stands) e → stand_at stands e ≡ Outside k
    → IsLeavingOver IsSmall p (table_seen p rows basis stands) e r → ArePlaced p outside stands
    → ArePlaced p (set outside k (slice_index basis r)) (stands_after basis stands e k r)
step_placed p rows basis stands outside e k r size are enters place leaves placed =
    placed_after p basis stands outside e k r (begun IsSmall p rows basis stands e k r size are enters place leaves) placed

pub step_from : (p : ProgramDef) (rows rows' : List (Option RowDef)) (basis : List ℕ) (stands : List Stand) (outside : List ℕ)
    (pivot : PivotDef) (objective : RowDef) (e k r from : ℕ)
    → HasSize p rows basis stands → AreStands p basis stands → AreSmallRows p rows
    → IsEntering p (table_seen p rows basis stands) e → stand_at stands e ≡ Outside k
    → IsLeavingOver IsSmall p (table_seen p rows basis stands) e r → ExchangesRows p rows rows' k r pivot → ArePlaced p outside stands
    → row_at rows' (height p) ≡ Some objective → from ≤ e
    → ((m : ℕ) → m < length pivot.entries → pos 0 <ℤ num_at objective (entry_at pivot.entries m).place
    → from ≤ slice_index (set outside k (slice_index basis r)) (entry_at pivot.entries m).place)
    → IsFrom p rows' (stands_after basis stands e k r) from
step_from p rows rows' basis stands outside pivot objective e k r from size are small enters place leaves h placed last first each =
    let at = begun IsSmall p rows basis stands e k r size are enters place leaves in
    from_after p rows rows' basis stands (set outside k (slice_index basis r)) pivot objective e k r from size.row_each small at enters h
    (placed_after p basis stands outside e k r at placed) last first each
