-- Marks stay true over an exchange: a number that isn't zero after it was not zero before, or the row had a number at the entering
-- place, and the divided row one here.
use Rattle.std.proofs.Common.{◌≡◌, ◌≢◌, inl, inr, ℕ, ◌<◌, List, length, Some, None, ℤ, pos, ◌-ℤ◌, ◌*ℤ◌, ◌<ℤ◌, refl, sym, ap, ◌∙◌, arith}
use Rattle.std.specs.declared.option.Option.{Option}
use Rattle.std.proofs.lemmas.Bool.{cases_eq}
use Rattle.std.proofs.lemmas.Int.{ints}
use Rattle.number_laws.proofs.Ring.{zero-mul, mul-zero}
use Rattle.number_laws.proofs.Order.{cancel, times_positive}
use Rattle.fraction128.specs.Fraction.{Fraction, IsProduct, IsDifference, whole}
use Rattle.program_form.specs.Program.{ProgramDef, columns}
use Rattle.exchange_runs.specs.Exchange.{IsLessOver}
use Rattle.exchange_runs.specs.SmallRuns.{IsSmall}
use Rattle.whole_rows.specs.Marks.{IsMarked}
use Rattle.whole_rows.specs.declared.marks.RowMarks.{RowMarks}
use Rattle.whole_rows.specs.Rows.{RowDef, num_at, cell_at}
use Rattle.whole_runs.specs.States.{row_at, cell_seen}
use Rattle.whole_runs.specs.Columns.{num_seen, AreMarked}
use Rattle.whole_runs.specs.Takings.{AreJoined}
use Rattle.whole_runs.specs.Exchanges.{AreSmallRows, IsLeft, AreExchanged}
use Rattle.whole_runs.proofs.Smalls.{zero_or_not, small_zero}

no_number : (n d c : ℤ) → pos 0 <ℤ d → n *ℤ d ≡ pos 0 *ℤ c → n ≡ pos 0
no_number n d c above h = cancel n (pos 0) d above (h ∙ (zero-mul c ∙ sym (zero-mul d)))

pub product_none : (f y product : Fraction) → IsSmall f → IsSmall y → f.num *ℤ y.num ≡ pos 0 → IsProduct f y product → product.num ≡ pos 0
product_none f y product small_f small_y none h =
    no_number product.num (f.den *ℤ y.den) product.den (times_positive f.den y.den small_f.positive small_y.positive)
    (h.same ∙ ap (λ x. x *ℤ product.den) none)

difference_none : (a product b : Fraction) → IsSmall a → IsSmall product → a.num ≡ pos 0 → product.num ≡ pos 0 → IsDifference a product b
    → b.num ≡ pos 0
difference_none a product b small_a small_product none_a none_product h =
    no_number b.num (a.den *ℤ product.den) b.den (times_positive a.den product.den small_a.positive small_product.positive)
    (h.same ∙ rw (none_a, none_product) (ap (λ x. x *ℤ b.den) (gone product.den a.den)))
  where
    gone : (x y : ℤ) → (pos 0 *ℤ x) -ℤ (pos 0 *ℤ y) ≡ pos 0
    gone x y = omega (arith, ints)

-- If there was nothing, and nothing is subtracted, nothing is left.
less_none : (a f y b : Fraction) → IsSmall a → IsSmall f → IsSmall y → a.num ≡ pos 0 → f.num *ℤ y.num ≡ pos 0
    → IsLessOver IsSmall a f y b → b.num ≡ pos 0
less_none a f y b small_a small_f small_y none_a none h =
    let no_product : h.product.num ≡ pos 0 = product_none f y h.product small_f small_y none h.is_product in
    difference_none a h.product b small_a h.product_form none_a no_product h.is_difference

-- the number that a row has at a place is that of its cell
pub num_of_cell : (p : ProgramDef) (row : Option RowDef) (i k : ℕ) → (cell_seen p row i k).num ≡ num_seen p row i k
num_of_cell p None i k = refl
num_of_cell p (Some row) i k = refl

pub pivot_number : (p : ProgramDef) (rows : List (Option RowDef)) (k r : ℕ) → pos 0 <ℤ (cell_seen p (row_at rows r) r k).num
    → num_seen p (row_at rows r) r k ≢ pos 0
pivot_number p rows k r above same =
    let none : (cell_seen p (row_at rows r) r k).num ≡ pos 0 = num_of_cell p (row_at rows r) r k ∙ same in
    omega (arith, ints, none, above)

-- Another row's number at another place than k.
marked_left : (p : ProgramDef) (rows : List (Option RowDef)) (marks marks' : RowMarks) (k i j : ℕ) (divided : RowDef) (left : Option RowDef)
    → AreMarked p rows marks → AreSmallRows p rows → AreJoined marks marks' divided k → ((m : ℕ) → IsSmall (cell_at divided m))
    → i < length rows → k < columns p → j < columns p → j ≢ k → IsLeft p i (row_at rows i) k divided left
    → num_seen p left i j ≢ pos 0 → IsMarked marks' j i
marked_left p rows marks marks' k i j divided left marked small joined small_divided l lk lj apart h some =
    let row = row_at rows i in
    let here : num_seen p (row_at rows i) i j ≢ pos 0 → IsMarked marks' j i
    = λ was. joined.kept.marked j i (marked.marked j i lj l was) in
    let none : (cell_seen p (row_at rows i) i k).num *ℤ (cell_at divided j).num ≡ pos 0 → num_seen p (row_at rows i) i j ≢ pos 0
    = λ product same. some (sym (num_of_cell p left i j)
    ∙ less_none (cell_seen p row i j) (cell_seen p row i k) (cell_at divided j) (cell_seen p left i j) (small.cells i j l)
    (small.cells i k l) (small_divided j) (num_of_cell p row i j ∙ same) product (h.others j apart)) in
    elim (zero_or_not (num_at divided j)) [
      | inl zero_y ↦ here (none (ap (λ x. (cell_seen p row i k).num *ℤ x) zero_y ∙ mul-zero (cell_seen p row i k).num))
      | inr listed ↦ elim (zero_or_not (num_seen p (row_at rows i) i k)) [
        | inl zero_f ↦ here (none (ap (λ x. x *ℤ num_at divided j) (num_of_cell p row i k ∙ zero_f) ∙ zero-mul (num_at divided j)))
        | inr was ↦ joined.joined j i listed (omega (arith, l, marked.room.row_each)) (marked.marked k i lk l was)
      ]
    ]

-- And at k, where what was zero is taken from.
marked_own : (p : ProgramDef) (rows : List (Option RowDef)) (marks marks' : RowMarks) (k i : ℕ) (divided : RowDef) (left : Option RowDef)
    → AreMarked p rows marks → AreSmallRows p rows → AreJoined marks marks' divided k → ((m : ℕ) → IsSmall (cell_at divided m))
    → i < length rows → k < columns p → IsLeft p i (row_at rows i) k divided left
    → num_seen p left i k ≢ pos 0 → IsMarked marks' k i
marked_own p rows marks marks' k i divided left marked small joined small_divided l lk h some =
    let row = row_at rows i in
    elim (zero_or_not (num_seen p (row_at rows i) i k)) [
      | inl zero_f ↦ absurd (some (sym (num_of_cell p left i k)
          ∙ less_none (whole (pos 0)) (cell_seen p row i k) (cell_at divided k) (cell_seen p left i k) small_zero (small.cells i k l)
          (small_divided k) refl (ap (λ x. x *ℤ num_at divided k) (num_of_cell p row i k ∙ zero_f) ∙ zero-mul (num_at divided k)) h.own))
      | inr was ↦ joined.kept.marked k i (marked.marked k i lk l was)
    ]

pub marked_after : (p : ProgramDef) (rows rows' : List (Option RowDef)) (marks marks' : RowMarks) (k r : ℕ)
    → AreMarked p rows marks → AreSmallRows p rows → (h : AreExchanged p rows rows' k r) → AreJoined marks marks' h.row k
    → k < columns p → r < length rows → pos 0 <ℤ (cell_seen p (row_at rows r) r k).num → AreMarked p rows' marks'
marked_after p rows rows' marks marks' k r marked small h joined lk lr above = record {
  room = record {
    row_each = rw (h.as_many, joined.kept.words) marked.room.row_each;
    word_each = rw (joined.kept.words, joined.kept.as_many) marked.room.word_each;
  };
  marked = λ j i lj li some.
      let l : i < length rows = omega (arith, li, h.as_many) in
      elim (cases_eq i r) [
        | inl here ↦
            let some_r : num_seen p (row_at rows' r) r j ≢ pos 0 = rw here at some in
            let number : num_at h.row j ≡ num_seen p (row_at rows' r) r j
            = ap (λ (f : Fraction). f.num) (h.here.cells j) ∙ num_of_cell p (row_at rows' r) r j in
            let own : num_at h.row j ≢ pos 0 = λ none. some_r (sym number ∙ none) in
            rw here (joined.joined j r own (omega (arith, lr, marked.room.row_each))
            (marked.marked k r lk lr (pivot_number p rows k r above)))
        | inr away ↦ elim (cases_eq j k) [
          | inl own ↦
              let at : num_seen p (row_at rows' i) i k ≢ pos 0 = rw own at some in
              rw own (marked_own p rows marks marks' k i h.row (row_at rows' i) marked small joined h.divided.cells.cells l lk
              (h.taken i l away) at)
          | inr other ↦
              marked_left p rows marks marks' k i j h.row (row_at rows' i) marked small joined h.divided.cells.cells l lk lj other
              (h.taken i l away) some
        ]
      ];
}
