-- The coefficients of a row as a list of its numbers that aren't zero.
use Rattle.std.proofs.Common.{◌≡◌, ◌≢◌, inl, inr, ℕ, ◌+◌, ◌-◌, ◌<◌, ◌≤◌, ◌^◌, min, List, [], ◌∷◌, ◌++◌, map, take, length, ℤ, pos}
use Rattle.std.proofs.Common.{unsigned_abs, refl, sym, ◌∙◌, ap, arith, get_or-take}
use Rattle.std.proofs.lemmas.Bool.{cases_eq, cases_lt, eq-eqb, ne_eqb}
use Rattle.std.proofs.lemmas.Int.{ints}
use Rattle.std.proofs.lemmas.List.{get_or_past, get_or-map, map-append, length-map, length-take, take_more}
use Rattle.std.proofs.lemmas.List.FromFn.{length-map-range_with_len, get_or-map-range_with_len}
use Rattle.std.proofs.Math.Seq.{take-length}
use Rattle.program_form.specs.SparseRows.{number_at, coefficient_at, AreCoefficients}
use Rattle.program_form.specs.declared.sparse_rows.Coefficient.{Coefficient}
use Rattle.program_form.proofs.Coefficients.{number_past}
use Rattle.whole_rows.specs.Rows.{PivotDef, coefficient_row, entry_at, listed_at, num_at, AreSparse, AreBelow, IsPivotOf}
use Rattle.whole_rows.specs.Numbers.{entry_of, AreFirst, AreListedWithin, IsGreatestListed}
use Rattle.whole_rows.specs.PivotView.{IsBoundedPivot}
use Rattle.whole_rows.specs.declared.entries.Entry.{Entry}
use Rattle.whole_rows.proofs.Listed.{nothing}
use Rattle.whole_rows.proofs.Larger.{attained_in_pivot}

abbrev pub no_coefficient : Coefficient
no_coefficient = record { column = 0; number = 0 }

-- what the row of coefficients has at each place
pub number_in : (n : ℕ) (cs : List Coefficient) (limit k : ℕ) → AreCoefficients n cs
    → num_at (coefficient_row n cs limit) k ≡ pos (number_at cs k)
number_in n cs limit k h = elim (cases_lt k n) [
  | inl within ↦ get_or-map-range_with_len (λ v. pos (number_at cs v)) 0 n k k (pos 0) within (omega arith)
  | inr past ↦
      get_or_past (coefficient_row n cs limit).nums k (pos 0)
      (omega (arith, length-map-range_with_len (λ v. pos (number_at cs v)) 0 n, past))
      ∙ ap pos (sym (number_past n cs k h past))
]

-- and what the list of them
pub listed_is : (cs : List Coefficient) (k : ℕ) → listed_at (map entry_of cs) k ≡ pos (number_at cs k)
listed_is [] k = refl
listed_is (c ∷ cs) k = elim (cases_eq c.column k) [
  | inl here ↦ rw (eq-eqb c.column k here) refl
  | inr away ↦ rw (ne_eqb c.column k away) (listed_is cs k)
]

-- an entry of the first ones is that of a coefficient
inside : (m : ℕ) (cs : List Coefficient) (j : ℕ) → j < length (map entry_of (take m cs)) → (j < m) × (j < length cs)
inside m cs j l =
    let long : length (map entry_of (take m cs)) ≡ min m (length cs) = length-map (take m cs) entry_of ∙ length-take m cs in
    (omega (arith, long, l), omega (arith, long, l))

entry_first : (m : ℕ) (cs : List Coefficient) (j : ℕ) → j < length (map entry_of (take m cs))
    → entry_at (map entry_of (take m cs)) j ≡ entry_of (coefficient_at cs j)
entry_first m cs j l =
    get_or-map entry_of (take m cs) j no_coefficient nothing (omega (arith, length-map (take m cs) entry_of, l))
    ∙ ap entry_of (get_or-take m cs j no_coefficient (inside m cs j l).0)

pub first_sparse : (n m : ℕ) (cs : List Coefficient) → AreCoefficients n cs → AreSparse (map entry_of (take m cs))
first_sparse n m cs h = record {
  rise = λ i j l lj. rw (entry_first m cs i (omega arith), entry_first m cs j lj) (h.rise i j l (inside m cs j lj).1);
  nonzero = λ j lj. rw (entry_first m cs j lj) (above_zero (coefficient_at cs j).number (h.nonzero j (inside m cs j lj).1));
}
  where
    above_zero : (x : ℕ) → 0 < x → pos x ≢ pos 0
    above_zero x l = omega (arith, ints)

pub first_below : (n m : ℕ) (cs : List Coefficient) → AreCoefficients n cs → AreBelow n (map entry_of (take m cs))
first_below n m cs h j l = rw (entry_first m cs j l) (h.below j (inside m cs j l).1)

pub first_within : (m : ℕ) (cs : List Coefficient) → ((j : ℕ) → j < length cs → (coefficient_at cs j).number < 2 ^ 63)
    → AreListedWithin (2 ^ 63 - 1) (map entry_of (take m cs))
first_within m cs small j = elim (cases_lt j (length (map entry_of (take m cs)))) [
  | inl l ↦
      let number : (coefficient_at cs j).number < 2 ^ 63 = small j (inside m cs j l).1 in
      rw (entry_first m cs j l) (omega arith)
  | inr past ↦ rw (get_or_past (map entry_of (take m cs)) j nothing past) (omega arith)
]

-- one coefficient more
pub first_more : (m : ℕ) (cs : List Coefficient) (entries : List Entry) (x : ℤ) → m < length cs → AreFirst m cs entries
    → x ≡ pos (coefficient_at cs m).number
    → AreFirst (m + 1) cs (entries ++ record { place = (coefficient_at cs m).column; num = x } ∷ [])
first_more m cs entries x l h is =
    rw (h, is, take_more cs m no_coefficient l) (sym (map-append entry_of (take m cs) (coefficient_at cs m ∷ [])))

-- What is kept of them.
pub first_bounded : (n : ℕ) (cs : List Coefficient) (limit : ℕ) (pivot : PivotDef) (most : ℕ) → AreCoefficients n cs
    → ((j : ℕ) → j < length cs → (coefficient_at cs j).number < 2 ^ 63) → limit < 2 ^ 63
    → ((m : ℕ) × AreFirst m cs pivot.entries) → pivot.limit ≡ pos limit → pivot.den ≡ pos 1
    → IsGreatestListed pivot.entries limit most → IsBoundedPivot pivot most
first_bounded n cs limit pivot most h small small_limit first limit_is den greatest =
    let sparse : AreSparse pivot.entries = rw first.1 (first_sparse n first.0 cs h) in
    let within : most ≤ 2 ^ 63 - 1 = greatest.least (2 ^ 63 - 1) (omega arith) (rw first.1 (first_within first.0 cs small)) in
    record {
      sparse = sparse;
      positive = rw den (omega (arith, ints));
      nums = greatest.all;
      limit = rw limit_is greatest.first;
      fits = omega arith;
      attained = attained_in_pivot pivot most limit sparse (sym (ap unsigned_abs limit_is)) greatest.attained;
    }

-- All of them are the row's.
pub pivot_of_coefficients : (n : ℕ) (cs : List Coefficient) (limit : ℕ) (pivot : PivotDef) → AreCoefficients n cs
    → AreFirst (length cs) cs pivot.entries → pivot.limit ≡ pos limit → pivot.den ≡ pos 1
    → IsPivotOf pivot (coefficient_row n cs limit)
pivot_of_coefficients n cs limit pivot h first limit_is den = record {
  sparse = rw first (first_sparse n (length cs) cs h);
  below = rw (first, length-map-range_with_len (λ v. pos (number_at cs v)) 0 n) (first_below n (length cs) cs h);
  each = λ k. rw (first, take-length cs) (listed_is cs k ∙ sym (number_in n cs limit k h));
  limit = limit_is;
  den = den;
}
