-- What dividing a row by a cell, and by a common divisor, makes of its cells.
use Rattle.std.proofs.Common.{◌≡◌, ℕ, ◌*◌, ◌<◌, ◌≤◌, length, ℤ, pos, ◌*ℤ◌, ◌<ℤ◌, unsigned_abs}
use Rattle.std.proofs.Common.{refl, sym, ◌∙◌, ap, arith, get_or-set_same, get_or-set_other, length-set}
use Rattle.std.proofs.lemmas.Int.{ints, unsigned_abs-mul}
use Rattle.std.proofs.Math.Nat.{mul-le-mul, le_refl}
use Rattle.fraction128.proofs.Unique.{size_positive}
use Rattle.whole_rows.proofs.Dividing.{quotient_positive}
use Rattle.number_laws.proofs.Ring.{as_diff, diffs, same_diff, mul-one}
use Rattle.whole_rows.specs.Rows.{RowDef, num_at}
use Rattle.whole_rows.specs.Rows.{IsBounded}
use Rattle.whole_rows.specs.Numbers.{IsSameRow, swapped}
use Rattle.whole_rows.specs.Steps.{AreSmallCells, IsDividedRow}

-- numbers within a bound that fits are small
pub small_cells : (row : RowDef) (most : ℕ) → IsBounded row most → AreSmallCells row
small_cells row most h =
    let fits = h.fits in
    let den : unsigned_abs row.den ≤ most = h.den in
    let limit : unsigned_abs row.limit ≤ most = h.limit in
    record {
      cells = λ k.
          let num : unsigned_abs (num_at row k) ≤ most = h.nums k in
          record { positive = h.positive; small_num = omega arith; small_den = omega arith };
      limit = record { positive = h.positive; small_num = omega arith; small_den = omega arith };
    }

-- a row is itself, divided by 1
pub same_row : (row : RowDef) → IsSameRow row row
same_row row = record {
  divisor = pos 1;
  above = omega (arith, ints);
  nums = record { as_many = refl; each = λ k. sym (mul-one (num_at row k)) };
  limit = sym (mul-one row.limit);
  den = sym (mul-one row.den);
}

own_ring : (x d g : ℤ) → x *ℤ (pos 1 *ℤ (d *ℤ g)) ≡ (pos 1 *ℤ (x *ℤ g)) *ℤ d
own_ring x d g = rw (as_diff x, as_diff d, as_diff g, as_diff (pos 1)) (simp diffs (same_diff _ _ _ _ (omega arith)))

other_ring : (x d g e : ℤ) → x *ℤ (e *ℤ (d *ℤ g)) ≡ ((x *ℤ g) *ℤ e) *ℤ d
other_ring x d g e = rw (as_diff x, as_diff d, as_diff g, as_diff e) (simp diffs (same_diff _ _ _ _ (omega arith)))

-- a number over what the cell has as its number is the quotient
pub divided_row : (row : RowDef) (k : ℕ) (divided : RowDef) → k < length row.nums → IsSameRow (swapped row k) divided
    → AreSmallCells divided → IsDividedRow row k divided
divided_row row k divided l h small =
    let entered : num_at row k ≡ divided.den *ℤ h.divisor = h.den in
    let own : row.den ≡ num_at divided k *ℤ h.divisor =
    sym (get_or-set_same row.nums k row.den (pos 0) l) ∙ h.nums.each k in
    record {
      as_many = h.nums.as_many ∙ length-set row.nums k row.den;
      small = small;
      own = record { same = rw (entered, own) (own_ring (num_at divided k) divided.den h.divisor) };
      others = λ j other.
          let num : num_at row j ≡ num_at divided j *ℤ h.divisor =
          sym (get_or-set_other row.nums k j row.den (pos 0) other) ∙ h.nums.each j in
          record { same = rw (entered, num) (other_ring (num_at divided j) divided.den h.divisor row.den) };
      limit = record { same = rw (entered, h.limit) (other_ring divided.limit divided.den h.divisor row.den) };
    }

divided_size : (before after by : ℤ) (most : ℕ) → pos 0 <ℤ by → before ≡ after *ℤ by → unsigned_abs before ≤ most
    → unsigned_abs after ≤ most
divided_size before after by most above is within =
    let one : 1 ≤ unsigned_abs by = size_positive by above in
    let size : unsigned_abs before ≡ unsigned_abs after * unsigned_abs by = ap unsigned_abs is ∙ unsigned_abs-mul after by in
    let least : unsigned_abs after * 1 ≤ unsigned_abs after * unsigned_abs by = mul-le-mul (le_refl (unsigned_abs after)) one in
    omega arith

-- a row divided by a common divisor keeps its bound
pub same_bounded : (row tight : RowDef) (most : ℕ) → IsBounded row most → IsSameRow row tight → IsBounded tight most
same_bounded row tight most h is = record {
  positive = quotient_positive row.den tight.den is.divisor h.positive is.above is.den;
  nums = λ k. divided_size (num_at row k) (num_at tight k) is.divisor most is.above (is.nums.each k) (h.nums k);
  limit = divided_size row.limit tight.limit is.divisor most is.above is.limit h.limit;
  den = divided_size row.den tight.den is.divisor most is.above is.den h.den;
  fits = h.fits;
}
