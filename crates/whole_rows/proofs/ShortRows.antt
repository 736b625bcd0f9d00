-- What contracts see of a row that is kept by its nonzero numbers.
use Rattle.std.proofs.Common.{◌≡◌, inl, inr, ℕ, ◌+◌, ◌-◌, ◌*◌, ◌<◌, ◌≤◌, ◌^◌, max, List, map, length, replicate, ℤ, pos, negsuc, ◌-ℤ◌, ◌*ℤ◌}
use Rattle.std.proofs.Common.{unsigned_abs, refl, sym, ◌∙◌, ap, arith, get_or-set_same, get_or-set_other, length-set}
use Rattle.std.specs.List.{range_with_len}
use Rattle.std.proofs.lemmas.Bool.{cases_eq, cases_lt}
use Rattle.std.proofs.lemmas.Int.{ints}
use Rattle.std.proofs.lemmas.List.{ext_get_or, get_or_past, get_or-replicate, length-replicate}
use Rattle.std.proofs.lemmas.List.FromFn.{length-map-range_with_len, get_or-map-range_with_len}
use Rattle.std.proofs.Math.Nat.{mul-le-mul, le_refl}
use Rattle.std.proofs.Math.Seq.{take-length}
use Rattle.number_laws.proofs.Ring.{mul-one}
use Rattle.program_form.specs.SparseRows.{number_at, coefficient_at, AreCoefficients}
use Rattle.program_form.specs.declared.sparse_rows.Coefficient.{Coefficient}
use Rattle.whole_rows.specs.Rows.{RowDef, PivotDef, num_at, listed_at, entry_at, listed_row, coefficient_row}
use Rattle.whole_rows.specs.Rows.{AreSparse, AreBelow, IsBounded, IsPivotOf}
use Rattle.whole_rows.specs.Numbers.{entry_of, AreFirst, AreFrom, AreListed, AreListedWithin, IsGreatestListed, AreLess, IsSameRow, swapped}
use Rattle.whole_rows.specs.Numbers as numbers
use Rattle.whole_rows.specs.Steps.{AreSmallCells, IsDividedRow, IsLeftRow}
use Rattle.whole_rows.specs.Given.{CanSubtract}
use Rattle.whole_rows.specs.Short.{IsFactor, CanSubtractListed, AreLeft}
use Rattle.whole_rows.specs.declared.entries.Entry.{Entry}
use Rattle.whole_rows.proofs.Coefficients.{listed_is, first_sparse, first_below, first_within}
use Rattle.whole_rows.proofs.Entering.{divided_row}
use Rattle.whole_rows.proofs.Listed.{listed_entry, listed_past}
use Rattle.whole_rows.proofs.Taking.{IsTakenRow, left_row, taken_bounded, listed_within, products_fit}

-- the numbers of the row
pub listed_num : (n : ℕ) (es : List Entry) (limit : ℤ) (k : ℕ) → AreBelow n es → num_at (listed_row n es limit) k ≡ listed_at es k
listed_num n es limit k below = elim (cases_lt k n) [
  | inl within ↦ get_or-map-range_with_len (listed_at es) 0 n k k (pos 0) within (omega arith)
  | inr past ↦
      get_or_past (map (listed_at es) (range_with_len 0 n)) k (pos 0) (omega (arith, length-map-range_with_len (listed_at es) 0 n, past))
      ∙ sym (listed_past es n k below past)
]

pub listed_places : (n : ℕ) (es : List Entry) (limit : ℤ) → length (listed_row n es limit).nums ≡ n
listed_places n es limit = length-map-range_with_len (listed_at es) 0 n

-- the row of coefficients
pub listed_coefficients : (n : ℕ) (cs : List Coefficient) (es : List Entry) (limit : ℕ) → AreFirst (length cs) cs es
    → listed_row n es (pos limit) ≡ coefficient_row n cs limit
listed_coefficients n cs es limit first =
    let nums : map (listed_at es) (range_with_len 0 n) ≡ map (λ v. pos (number_at cs v)) (range_with_len 0 n) =
    ext_get_or (pos 0) _ _
    (length-map-range_with_len (listed_at es) 0 n ∙ sym (length-map-range_with_len (λ v. pos (number_at cs v)) 0 n))
    (λ k l.
    let within : k < n = omega (arith, length-map-range_with_len (listed_at es) 0 n, l) in
    get_or-map-range_with_len (listed_at es) 0 n k k (pos 0) within (omega arith)
    ∙ (rw (first, take-length cs) (listed_is cs k)
    ∙ sym (get_or-map-range_with_len (λ v. pos (number_at cs v)) 0 n k k (pos 0) within (omega arith)))) in
    ap (λ (xs : List ℤ). record { nums = xs; limit = pos limit; den = pos 1 }) nums

pub coefficients_bounded : (n : ℕ) (cs : List Coefficient) (es : List Entry) (limit most : ℕ) → AreCoefficients n cs
    → ((j : ℕ) → j < length cs → (coefficient_at cs j).number < 2 ^ 63) → limit < 2 ^ 63 → AreFirst (length cs) cs es
    → IsGreatestListed es (max limit 1) most → IsBounded (listed_row n es (pos limit)) most
coefficients_bounded n cs es limit most h small small_limit first greatest =
    let sparse : AreSparse es = rw first (first_sparse n (length cs) cs h) in
    let below : AreBelow n es = rw first (first_below n (length cs) cs h) in
    let within : most ≤ 2 ^ 63 - 1 = greatest.least (2 ^ 63 - 1) (omega arith) (rw first (first_within (length cs) cs small)) in
    let least : max limit 1 ≤ most = greatest.first in
    record {
      positive = omega (arith, ints);
      nums = λ k. rw (listed_num n es (pos limit) k below) (listed_within es most k sparse greatest.all);
      limit = omega (arith, ints);
      den = omega (arith, ints);
      fits = omega arith;
    }

-- what is left of the row
pub listed_taken : (n : ℕ) (es after : List Entry) (limit rest : ℤ) (k : ℕ) (f : ℤ) (pivot : PivotDef) → AreBelow n es
    → AreLeft n es k f pivot.entries after → rest ≡ (limit *ℤ pos 1) -ℤ (f *ℤ pivot.limit)
    → IsTakenRow (listed_row n es limit) k (pos 1) f pivot (listed_row n after rest)
listed_taken n es after limit rest k f pivot below h is = record {
  nums = record {
    as_many = listed_places n after rest ∙ sym (listed_places n es limit);
    own = listed_num n after rest k h.below ∙ h.own;
    others = λ j away.
        listed_num n after rest j h.below ∙ (h.others_left j away
        ∙ ap (λ x. x -ℤ (f *ℤ listed_at pivot.entries j)) (sym (mul-one (listed_at es j)) ∙ ap (λ x. x *ℤ pos 1)
        (sym (listed_num n es limit j below))));
  };
  limit = is;
  den = refl;
}

-- room for that
pub can_subtract : (n : ℕ) (es : List Entry) (limit : ℤ) (k : ℕ) (f : ℤ) (bound : ℕ) (pivot : PivotDef) → AreSparse es → AreBelow n es
    → AreBelow n pivot.entries → IsFactor (listed_row n es limit) k pivot f bound → CanSubtractListed n es f pivot.entries
can_subtract n es limit k f bound pivot sparse below below_others h = record {
  sparse = sparse;
  below = below;
  sparse_others = h.pivot_bounded.sparse;
  below_others = below_others;
  room = λ j.
      let own : unsigned_abs (listed_at es j) ≤ h.most = rw (listed_num n es limit j below) at (h.bounded.nums j) in
      let other : unsigned_abs (listed_at pivot.entries j) ≤ h.others =
      listed_within pivot.entries h.others j h.pivot_bounded.sparse h.pivot_bounded.nums in
      let product : unsigned_abs f * unsigned_abs (listed_at pivot.entries j) ≤ unsigned_abs f * h.others =
      mul-le-mul (le_refl (unsigned_abs f)) other in
      omega (arith, h.is, h.fits);
}

pub limit_room : (n : ℕ) (es : List Entry) (limit : ℤ) (k : ℕ) (f : ℤ) (bound : ℕ) (pivot : PivotDef)
    → IsFactor (listed_row n es limit) k pivot f bound → unsigned_abs limit * 1 + unsigned_abs f * unsigned_abs pivot.limit < 2 ^ 63
limit_room n es limit k f bound pivot h =
    let own : unsigned_abs limit ≤ h.most = h.bounded.limit in
    let product : unsigned_abs f * unsigned_abs pivot.limit ≤ unsigned_abs f * h.others =
    mul-le-mul (le_refl (unsigned_abs f)) h.pivot_bounded.limit in
    omega (arith, h.is, h.fits)

-- the bound on what is left, and that it is so
pub left_bounded : (n : ℕ) (es after : List Entry) (limit rest : ℤ) (k : ℕ) (f : ℤ) (bound : ℕ) (pivot : PivotDef) → AreBelow n es
    → IsFactor (listed_row n es limit) k pivot f bound → AreLeft n es k f pivot.entries after
    → rest ≡ (limit *ℤ pos 1) -ℤ (f *ℤ pivot.limit) → IsBounded (listed_row n after rest) bound
left_bounded n es after limit rest k f bound pivot below h left is =
    taken_bounded (listed_row n es limit) (listed_row n after rest) pivot k h.most h.others bound (pos 1) f h.bounded h.pivot_bounded
    (omega (arith, ints)) h.is h.fits (listed_taken n es after limit rest k f pivot below left is)

pub leaves_listed : (n : ℕ) (es after : List Entry) (limit rest : ℤ) (k : ℕ) (f : ℤ) (bound : ℕ) (pivot : PivotDef) → AreBelow n es
    → IsFactor (listed_row n es limit) k pivot f bound → AreLeft n es k f pivot.entries after
    → rest ≡ (limit *ℤ pos 1) -ℤ (f *ℤ pivot.limit)
    → (length (listed_row n after rest).nums ≡ length (listed_row n es limit).nums)
    × ((divided : RowDef) → IsPivotOf pivot divided → IsLeftRow (listed_row n es limit) k divided (listed_row n after rest))
leaves_listed n es after limit rest k f bound pivot below h left is = (
  listed_places n after rest ∙ sym (listed_places n es limit),
  λ divided own.
      left_row (listed_row n es limit) (listed_row n after rest) divided pivot k h.most h.others bound (pos 1) f h.bounded h.pivot_bounded
      h.cut h.is h.fits (listed_taken n es after limit rest k f pivot below left is) own,
)

-- a row that is divided by 1 stays, if it is over 1
pub stays_divided : (row : RowDef) (k : ℕ) → k < length row.nums → row.den ≡ pos 1 → num_at row k ≡ pos 1 → AreSmallCells row
    → IsDividedRow row k row
stays_divided row k within den num small =
    let same : IsSameRow (swapped row k) row = record {
      divisor = pos 1;
      above = omega (arith, ints);
      nums = record {
        as_many = sym (length-set row.nums k row.den);
        each = λ j. elim (cases_eq j k) [
          | inl here ↦ rw here (get_or-set_same row.nums k row.den (pos 0) within ∙ (den ∙ (sym num ∙ sym (mul-one (num_at row k)))))
          | inr away ↦ get_or-set_other row.nums k j row.den (pos 0) away ∙ sym (mul-one (num_at row j))
        ];
      };
      limit = sym (mul-one row.limit);
      den = num ∙ (sym den ∙ sym (mul-one row.den));
    } in
    divided_row row k row within same small

-- the listed numbers in a list of zeros
zero_at : (n k : ℕ) (xs : List ℤ) → xs ≡ replicate n (pos 0) → numbers.number_at xs k ≡ pos 0
zero_at n k xs h = elim (cases_lt k n) [
  | inl within ↦ rw h (get_or-replicate n k (pos 0) (pos 0) within)
  | inr past ↦ rw h (get_or_past (replicate n (pos 0)) k (pos 0) (omega (arith, length-replicate n (pos 0))))
]

zero_less_minus : (x : ℤ) → pos 0 -ℤ (negsuc 0 *ℤ x) ≡ x
zero_less_minus x = omega (arith, ints)

listed_small : (n most : ℕ) (es : List Entry) (limit : ℤ) → AreBelow n es → IsBounded (listed_row n es limit) most → (k : ℕ)
    → unsigned_abs (listed_at es k) < 2 ^ 63
listed_small n most es limit below h k =
    let size : unsigned_abs (num_at (listed_row n es limit) k) ≤ most = h.nums k in
    let fits : most < 2 ^ 63 = h.fits in
    let small : unsigned_abs (num_at (listed_row n es limit) k) < 2 ^ 63 = omega arith in
    rw (listed_num n es limit k below) at small

pub can_spread : (n most : ℕ) (es : List Entry) (limit : ℤ) (xs : List ℤ) → AreSparse es → AreBelow n es
    → IsBounded (listed_row n es limit) most → xs ≡ replicate n (pos 0) → CanSubtract xs (negsuc 0) es
can_spread n most es limit xs sparse below h zeros = record {
  sparse = sparse;
  below = rw (zeros, length-replicate n (pos 0)) below;
  products = products_fit xs (pos 1) (negsuc 0) es sparse (λ k.
      let small : unsigned_abs (listed_at es k) < 2 ^ 63 = listed_small n most es limit below h k in
      rw (zero_at n k xs zeros) (omega arith));
  room = λ k. rw (zero_at n k xs zeros, zero_less_minus (listed_at es k)) (listed_small n most es limit below h k);
}

pub spread_nums : (n : ℕ) (es : List Entry) (xs after : List ℤ) → xs ≡ replicate n (pos 0) → AreLess xs (negsuc 0) es after
    → after ≡ map (listed_at es) (range_with_len 0 n)
spread_nums n es xs after zeros h =
    let many : length after ≡ n = h.as_many ∙ (ap length zeros ∙ length-replicate n (pos 0)) in
    ext_get_or (pos 0) after (map (listed_at es) (range_with_len 0 n)) (many ∙ sym (length-map-range_with_len (listed_at es) 0 n))
    (λ k l.
    h.each k ∙ (ap (λ x. x -ℤ (negsuc 0 *ℤ listed_at es k)) (zero_at n k xs zeros) ∙ (zero_less_minus (listed_at es k)
    ∙ sym (get_or-map-range_with_len (listed_at es) 0 n k k (pos 0) (omega (arith, many, l)) (omega arith)))))

-- the nonzero numbers of the row
pub listed_from : (n : ℕ) (es : List Entry) (limit : ℤ) → AreSparse es → AreBelow n es → AreFrom (listed_row n es limit).nums es
listed_from n es limit sparse below = record {
  sparse = sparse;
  below = λ j l. rw (listed_places n es limit) (below j l);
  own = λ j l.
      sym (listed_num n es limit (entry_at es j).place below ∙ listed_entry es j (entry_at es j).place sparse.rise l refl);
}

pub listed_each : (n : ℕ) (es : List Entry) (limit : ℤ) → AreBelow n es → AreListed (listed_row n es limit).nums es
listed_each n es limit below k = sym (listed_num n es limit k below)
