-- The variable that enters, and the least ratio of the rows so far.
use Rattle.std.proofs.Common.{◌≡◌, ◌⊎◌, inl, inr, ℕ, zero, suc, ◌+◌, ◌-◌, ◌<◌, ◌≤◌, List, length, ℤ, pos, ◌*ℤ◌, ◌≤ℤ◌, ◌<ℤ◌}
use Rattle.std.proofs.Common.{slice_index, refl, sym, ap, ◌∙◌, subst, arith}
use Rattle.std.specs.Prelude.{Some, None, IfSome, true, false, nat_lt}
use Rattle.std.specs.declared.option.Option.{Option}
use Rattle.std.proofs.lemmas.Bool.{cases_eq, cases_lt, ne_eqb, lt-ltb, le-ltb}
use lib.Signed.{clash_ℤ, ≤ℤ_refl}
use Rattle.number_laws.proofs.Order.{weaker}
use Rattle.number_laws.proofs.Ring.{mul-assoc}
use Rattle.fraction128.specs.Fraction.{Fraction, IsQuotient, over}
use Rattle.program_form.specs.Program.{ProgramDef, height}
use Rattle.exchange_runs.specs.Table.{Table, variables, objective}
use Rattle.exchange_runs.specs.Exchange.{HasRatio}
use Rattle.exchange_runs.proofs.Leasts.{AreFractions, least_without}
use Rattle.exchange_runs.specs.SmallRuns.{IsSmall}
use Rattle.whole_rows.specs.Rows.{RowDef, num_at, listed_at, entry_at, AreSparse}
use Rattle.whole_rows.specs.declared.entries.Entry.{Entry}
use Rattle.whole_rows.proofs.Listed.{listed_entry, listed_none}
use Rattle.whole_runs.specs.States.{row_at, cell_seen, limit_seen, stand_at, stand_cell, table_cell, table_seen, AreStands}
use Rattle.whole_runs.specs.Columns.{num_seen, IsColumn}
use Rattle.whole_runs.specs.Exchanges.{Enters}
use Rattle.whole_runs.specs.Choice.{AreNoneAbove, IsFirstAbove, value_of, IsRatioRead, ReadsRatio, IsRatioOf, Comes}
use Rattle.whole_runs.specs.Choice.{IsLeastOf, IsLeastSoFar}
use Rattle.whole_runs.specs.declared.choice.Ratio.{Ratio}
use Rattle.whole_runs.specs.declared.stands.Stand.{Stand}
use Rattle.whole_runs.specs.declared.stands.Stand.TheVariants.{Outside, Basic}
use Rattle.whole_runs.proofs.Exchanging.{cell_read}
use Rattle.whole_runs.proofs.Marking.{num_of_cell}
use Rattle.whole_runs.proofs.Seen.{cell_of_limit}

-- a cell and the limit of a row have one denominator
pub one_den : (p : ProgramDef) (row : Option RowDef) (i k : ℕ) → (limit_seen p row i).den ≡ (cell_seen p row i k).den
one_den p None i k = refl
one_den p (Some row) i k = refl

-- the number of a variable outside the basis is that of its place
pub num_of_place : (p : ProgramDef) (rows : List (Option RowDef)) (stands : List Stand) (i v k : ℕ) → v < variables p
    → stand_at stands v ≡ Outside k → (table_cell p rows stands i v).num ≡ num_seen p (row_at rows i) i k
num_of_place p rows stands i v k l at =
    ap (λ (f : Fraction). f.num) (cell_read p rows stands i v (Outside k) l at) ∙ num_of_cell p (row_at rows i) i k

stand_cases : (stand : Stand) → ((k : ℕ) × (stand ≡ Outside k)) ⊎ ((j : ℕ) × (stand ≡ Basic j))
stand_cases (Outside k) = inl (k, refl)
stand_cases (Basic j) = inr (j, refl)

-- in another row than its own a basic variable has zero
basic_zero : (p : ProgramDef) (row : Option RowDef) (i j : ℕ) → j < i → (stand_cell p row i (Basic j)).num ≡ pos 0
basic_zero p row i j l = rw (ne_eqb i j (λ q. omega arith)) refl

module _ (p : ProgramDef) (rows : List (Option RowDef)) (basis other : List ℕ) (stands : List Stand) (row : RowDef)
    (many : length stands ≡ variables p) (are : AreStands p other stands) (last : row_at rows (height p) ≡ Some row) where
  -- the objective number of a variable outside the basis
  outside_number : (v k : ℕ) → v < variables p → stand_at stands v ≡ Outside k
      → (objective p (table_seen p rows basis stands) v).num ≡ num_at row k
  outside_number v k l at =
      num_of_place p rows stands (height p) v k l at ∙ ap (λ (x : Option RowDef). num_seen p x (height p) k) last

  none_before : (end v : ℕ) → end ≤ variables p → AreNoneAbove row stands end → v < end
      → (objective p (table_seen p rows basis stands) v).num ≤ℤ pos 0
  none_before end v within none l =
      let inside : v < variables p = omega arith in
      elim (stand_cases (stand_at stands v)) [
        | inl outside ↦ rw (outside_number v outside.0 inside outside.1) (none v outside.0 l outside.1)
        | inr basic ↦
            let zero_there : (objective p (table_seen p rows basis stands) v).num ≡ pos 0 =
            ap (λ (f : Fraction). f.num) (cell_read p rows stands (height p) v (Basic basic.0) inside basic.1)
            ∙ basic_zero p (row_at rows (height p)) (height p) basic.0 (are.of_row v basic.0 inside basic.1).0 in
            rw zero_there (≤ℤ_refl (pos 0))
      ]

  -- the first variable above zero in the objective row enters
  pub first_enters : (first : Option (ℕ × ℕ)) → IsFirstAbove first row stands → Enters first p rows basis stands
  first_enters None none = record { none = λ v l. none_before (length stands) v (omega (arith, many)) none (omega (arith, many)) }
  first_enters (Some e) h =
      let inside : e.0 < variables p = omega (arith, many, h.0) in (
        record {
          within = inside;
          above = rw (outside_number e.0 e.1 inside h.1) h.2;
          least = λ v l. none_before e.0 v (omega arith) h.3 l;
        },
        h.1,
      )

-- limit over number, where both have one denominator
pub quotient_is : (a b : Fraction) (limit num : ℤ) → a.num ≡ limit → b.num ≡ num → a.den ≡ b.den → IsQuotient a b (over limit num)
quotient_is a b limit num is_limit is_num same = record { same = rw (is_limit, is_num, same) (sym (mul-assoc limit b.den num)) }

-- the ratio of row i, at the numbers that were read
pub ratio_read : (p : ProgramDef) (rows : List (Option RowDef)) (basis : List ℕ) (stands : List Stand) (column : List Entry)
    (e k : ℕ) (cell : Entry) (ratio : Ratio) → IsColumn p rows k column → e < variables p → stand_at stands e ≡ Outside k
    → cell.place < length rows → listed_at column cell.place ≡ cell.num → IsRatioRead p rows cell ratio
    → IsRatioOf (variables p) (table_seen p rows basis stands) e ratio
ratio_read p rows basis stands column e k cell ratio is l at within listed h =
    let i = cell.place in
    let num_is : (table_cell p rows stands cell.place e).num ≡ ratio.num
    = num_of_place p rows stands i e k l at ∙ (sym (is.each i within) ∙ (listed ∙ sym h.num)) in
    let limit_is : (table_cell p rows stands cell.place (variables p)).num ≡ ratio.limit
    = ap (λ (f : Fraction). f.num) (cell_of_limit p rows stands i) ∙ sym h.limit in
    let den_is : (table_cell p rows stands cell.place (variables p)).den ≡ (table_cell p rows stands cell.place e).den
    = ap (λ (f : Fraction). f.den) (cell_of_limit p rows stands i)
    ∙ (one_den p (row_at rows i) i k ∙ ap (λ (f : Fraction). f.den) (sym (cell_read p rows stands i e (Outside k) l at))) in
    record {
      has = record { above = rw (h.row, num_is, h.num) h.above };
      is = record {
        form = record { positive = rw h.num h.above; small_num = h.small_limit; small_den = rw h.num h.small_num };
        quotient = rw h.row
            (quotient_is (table_cell p rows stands i (variables p)) (table_cell p rows stands i e) ratio.limit ratio.num limit_is num_is
            den_is);
      };
    }

-- a number that isn't above zero has no ratio
pub no_ratio : (p : ProgramDef) (rows : List (Option RowDef)) (basis : List ℕ) (stands : List Stand) (column : List Entry) (e k : ℕ)
    (cell : Entry) → IsColumn p rows k column → e < variables p → stand_at stands e ≡ Outside k → cell.place < length rows
    → listed_at column cell.place ≡ cell.num → cell.num ≤ℤ pos 0 → HasRatio (table_seen p rows basis stands) e cell.place → ⊥
no_ratio p rows basis stands column e k cell is l at within listed none has =
    let i = cell.place in
    let num_is : (table_cell p rows stands cell.place e).num ≡ cell.num
    = num_of_place p rows stands i e k l at ∙ (sym (is.each i within) ∙ listed) in
    clash_ℤ has.above (rw num_is none)

pub small_fractions : AreFractions IsSmall
small_fractions f small = small.positive

-- the lesser ratio comes first, whatever the basic variables are
module _ (next best : Ratio) (basis : List ℕ) where
  pub next_comes : (next.limit *ℤ best.num) <ℤ (best.limit *ℤ next.num) → Comes true next best basis
  next_comes h = (record { le = weaker h }, λ back. clash_ℤ h back.le)

  pub best_comes : (best.limit *ℤ next.num) <ℤ (next.limit *ℤ best.num) → Comes false next best basis
  best_comes h = (record { le = weaker h }, λ back. clash_ℤ h back.le)

  -- of equal ratios that of the lesser basic variable comes first
  pub equal_comes : next.limit *ℤ best.num ≡ best.limit *ℤ next.num
      → Comes (nat_lt (slice_index basis next.row) (slice_index basis best.row)) next best basis
  equal_comes same =
      let j = slice_index basis next.row in
      let i = slice_index basis best.row in
      elim (cases_lt j i) [
        | inl before ↦ rw (lt-ltb j i before) (record { le = rw same (≤ℤ_refl (best.limit *ℤ next.num)) }, λ back. omega (arith, before))
        | inr behind ↦ rw (le-ltb j i behind) (record { le = rw same (≤ℤ_refl (best.limit *ℤ next.num)) }, λ back. behind)
      ]

-- a row without a ratio changes nothing
no_more : (place : ℕ) (t : Table) (e i : ℕ) (best : Option Ratio) → IsLeastSoFar place t e i best → (HasRatio t e i → ⊥)
    → IsLeastSoFar place t e (i + 1) best
no_more place t e i None so_far none = λ k l above. elim (cases_eq k i) [
  | inl here ↦ none (subst (λ (n : ℕ). HasRatio t e n) here above)
  | inr other ↦ so_far k (omega arith) above
]
no_more place t e i (Some best) so_far none = least_without IsSmall place t e i best.row (value_of best) so_far none

-- nor do n rows without one
pub none_more : (n place : ℕ) (t : Table) (e k v : ℕ) (best : Option Ratio) → IsLeastSoFar place t e k best → v ≡ k + n
    → ((i : ℕ) → k ≤ i → i < v → HasRatio t e i → ⊥) → IsLeastSoFar place t e v best
none_more zero place t e k v best h far none = let here : v ≡ k = omega (arith, far) in rw here h
none_more (suc n) place t e k v best h far none =
    none_more n place t e (k + 1) v best (no_more place t e k best h (none k (omega arith) (omega (arith, far))))
    (omega (arith, far)) (λ i l. none i (omega arith))

-- the row of the least ratio stays below every greater bound
pub row_up : (best : Option Ratio) (m n : ℕ) → m ≤ n → IfSome best (λ b. b.row < m) → IfSome best (λ b. b.row < n)
row_up None m n l h = tt
row_up (Some best) m n l h = omega (arith, l, h)

-- Are the first `count` entries those of rows below i?
pub record IsSplit (column : List Entry) (count i : ℕ) : Type 0 where
  pub within : count ≤ length column
  pub before : (j : ℕ) → j < count → (entry_at column j).place < i
  pub behind : (j : ℕ) → count ≤ j → j < length column → i ≤ (entry_at column j).place

pub split_through : (column : List Entry) (j i : ℕ) → AreSparse column → j < length column → (entry_at column j).place ≡ i
    → IsSplit column (j + 1) (i + 1)
split_through column j i h l is = record {
  within = omega arith;
  before = λ m lm. elim (cases_eq m j) [
    | inl here ↦ rw (here, is) (omega arith)
    | inr earlier ↦
        let rise : (entry_at column m).place < (entry_at column j).place = h.rise m j (omega arith) l in omega (arith, is)
  ];
  behind = λ m lm inside.
      let rise : (entry_at column j).place < (entry_at column m).place = h.rise j m (omega arith) inside in omega (arith, is);
}

-- between a split and the next entry nothing is listed
split_gap : (column : List Entry) (count from i v : ℕ) → AreSparse column → IsSplit column count from → from ≤ i → i < v
    → (count < length column → v ≤ (entry_at column count).place) → listed_at column i ≡ pos 0
split_gap column count from i v h split up l next = listed_none column i (λ j lj is. elim (cases_lt j count) [
  | inl earlier ↦ let b : (entry_at column j).place < from = split.before j earlier in omega (arith, is)
  | inr later ↦
      let first : v ≤ (entry_at column count).place = next (omega arith) in
      elim (cases_eq j count) [
        | inl here ↦ let own : v ≤ (entry_at column j).place = rw here first in omega (arith, is, own)
        | inr behind ↦
            let rise : (entry_at column count).place < (entry_at column j).place = h.rise count j (omega arith) lj in omega (arith, is)
      ]
])

-- so the rows before the next one that the column lists change nothing
pub none_before_next : (p : ProgramDef) (rows : List (Option RowDef)) (basis : List ℕ) (stands : List Stand) (column : List Entry)
    (e k j from v : ℕ) (best : Option Ratio) → IsColumn p rows k column → e < variables p → stand_at stands e ≡ Outside k
    → IsSplit column j from → IsLeastSoFar (variables p) (table_seen p rows basis stands) e from best
    → from ≤ v → v ≤ length rows → (j < length column → v ≤ (entry_at column j).place)
    → IsLeastSoFar (variables p) (table_seen p rows basis stands) e v best
none_before_next p rows basis stands column e k j from v best is l at split h up within next =
    none_more (v - from) (variables p) (table_seen p rows basis stands) e from v best h (omega arith)
    (λ i li lv has.
    let inside : i < length rows = omega arith in
    let zero_there : (table_cell p rows stands i e).num ≡ pos 0 = num_of_place p rows stands i e k l at
    ∙ (sym (is.each i inside) ∙ split_gap column j from i v is.sparse split li lv next) in
    clash_ℤ has.above (rw zero_there (≤ℤ_refl (pos 0))))

-- the rows through the next that the column lists
module _ (p : ProgramDef) (rows : List (Option RowDef)) (basis : List ℕ) (stands : List Stand) (column : List Entry) (e k j from : ℕ)
    (best : Option Ratio) (is : IsColumn p rows k column) (l : e < variables p) (at : stand_at stands e ≡ Outside k)
    (split : IsSplit column j from) (lj : j < length column)
    (so_far : IsLeastSoFar (variables p) (table_seen p rows basis stands) e from best) where
  place_within : (entry_at column j).place < length rows
  place_within = is.below j lj

  up_to : IsLeastSoFar (variables p) (table_seen p rows basis stands) e (entry_at column j).place best
  up_to = none_before_next p rows basis stands column e k j from (entry_at column j).place best is l at split so_far
      (split.behind j (omega arith) lj) (omega (arith, place_within)) (λ lk. omega arith)

  listed : listed_at column (entry_at column j).place ≡ (entry_at column j).num
  listed = listed_entry column j (entry_at column j).place is.sparse.rise lj refl

  pub row_passed : ReadsRatio None p rows (entry_at column j)
      → IsLeastSoFar (variables p) (table_seen p rows basis stands) e ((entry_at column j).place + 1) best
  row_passed none =
      no_more (variables p) (table_seen p rows basis stands) e (entry_at column j).place best up_to
      (no_ratio p rows basis stands column e k (entry_at column j) is l at place_within listed none)

  -- a row that has a ratio, and the least of it and those before
  pub row_counted : (ratio next : Ratio) → ReadsRatio (Some ratio) p rows (entry_at column j)
      → (IsLeastSoFar (variables p) (table_seen p rows basis stands) e ratio.row best
      → IsRatioOf (variables p) (table_seen p rows basis stands) e ratio
      → IsLeastOf (variables p) (table_seen p rows basis stands) e (ratio.row + 1) next)
      → IsLeastSoFar (variables p) (table_seen p rows basis stands) e ((entry_at column j).place + 1) (Some next)
  row_counted ratio next read least =
      subst (λ (i : ℕ). IsLeastOf (variables p) (table_seen p rows basis stands) e (i + 1) next) read.row
      (least (rw read.row up_to)
      (ratio_read p rows basis stands column e k (entry_at column j) ratio is l at place_within listed read))
