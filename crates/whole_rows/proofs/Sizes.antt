-- How large the numbers of a row are.
use Rattle.std.proofs.Common.{◌≡◌, inl, inr, ℕ, ◌-◌, ◌<◌, ◌≤◌, ◌^◌, List, length, unsigned_abs, ap, refl, arith}
use Rattle.std.proofs.lemmas.Bool.{cases_lt}
use Rattle.std.proofs.lemmas.List.{get_or_past}
use Rattle.whole_rows.specs.Rows.{RowDef, PivotDef, entry_at, num_at}
use Rattle.whole_rows.specs.Steps.{AreSmallCells}
use Rattle.whole_rows.specs.Numbers.{AreFrom, AreListedWithin, IsGreatestListed}
use Rattle.whole_rows.specs.PivotView.{IsBoundedPivot}
use Rattle.whole_rows.specs.declared.entries.Entry.{Entry}
use Rattle.whole_rows.proofs.Listed.{nothing}
use Rattle.whole_rows.proofs.Larger.{attained_in_pivot}

number_small : (row : RowDef) (es : List Entry) → AreSmallCells row → AreFrom row.nums es → AreListedWithin (2 ^ 63 - 1) es
number_small row es small from j = elim (cases_lt j (length es)) [
  | inl within ↦
      let number : unsigned_abs (num_at row (entry_at es j).place) < 2 ^ 63 = (small.cells (entry_at es j).place).small_num in
      rw (from.own j within) (omega arith)
  | inr past ↦ rw (get_or_past es j nothing past) (omega arith)
]

-- the numbers listed are no greater than those of the row
pub listed_small : (row : RowDef) (pivot : PivotDef) (most : ℕ) → AreSmallCells row → AreFrom row.nums pivot.entries
    → pivot.limit ≡ row.limit → pivot.den ≡ row.den → IsGreatestListed pivot.entries (unsigned_abs pivot.limit) most
    → IsBoundedPivot pivot most
listed_small row pivot most small from limit den greatest =
    let limit_small : unsigned_abs row.limit < 2 ^ 63 = small.limit.small_num in
    let within : most ≤ 2 ^ 63 - 1 =
    greatest.least (2 ^ 63 - 1) (omega (arith, ap unsigned_abs limit)) (number_small row pivot.entries small from) in
    record {
      sparse = from.sparse;
      positive = rw den small.limit.positive;
      nums = greatest.all;
      limit = greatest.first;
      fits = omega arith;
      attained = attained_in_pivot pivot most (unsigned_abs pivot.limit) from.sparse refl greatest.attained;
    }
