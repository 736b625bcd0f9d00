-- The run of the worked program of seven rows, table by table.
use Rattle.std.proofs.Common.{◌≡◌, inl, inr, ℕ, zero, suc, ◌<◌, ◌≤◌, ◌==◌, ◌&&◌, Bool, true, nat_le, nat_lt, List, []}
use Rattle.std.proofs.Common.{◌∷◌, length, slice_index, slice_index_or, ℤ, pos, negsuc, ◌*ℤ◌, unsigned_abs, lit<, ◌%◌}
use Rattle.std.proofs.Common.{◌^◌, refl, ap, ap₂, arith}
use Rattle.std.specs.Int.{◌∣◌}
use Rattle.std.specs.Ordering.{int_eq}
use Rattle.std.proofs.lemmas.Bool.{cases_lt, leb-true, ltb-true, eqb-true, and_parts}
use Rattle.std.proofs.lemmas.Bool.Decides.{Decides-int_eq}
use Rattle.std.proofs.lemmas.List.{get_or_past}
use Rattle.std.proofs.lemmas.List.Elements.{All-from_get_or}
use Rattle.std.proofs.Math.Nat.{dvd_of_mod-eq-zero}
use Rattle.fraction128.specs.Fraction.{Fraction, over, whole}
use Rattle.fraction128.specs.Scaling.{IsLeastCommon, AreScaled, fraction_at}
use Rattle.number_laws.specs.Tests.{all_below}
use Rattle.number_laws.proofs.TestLaws.{all_below-each}
use Rattle.program_form.specs.Program.{ProgramDef, columns}
use Rattle.program_form.specs.SevenRows.{seven_rows, seven_rows_dual}
use Rattle.exchange_runs.specs.Table.{Table, IsStart, first_number, slack, variables}
use Rattle.exchange_runs.specs.Exchange.{IsLast, IsExchange}
use Rattle.exchange_runs.specs.Run.{Reached}
use Rattle.exchange_runs.specs.Readings.{dual_at, IsValueOf, AreDuals}
use Rattle.exchange_runs.specs.Outcomes.{EndsWithin, NeedsMoreThan}
use Rattle.exchange_runs.specs.Account.{RunReadsSo, ReadsSo}
use Rattle.exchange_runs.specs.SevenRowsRun.{seven_rows_account, seven_rows_primal}
use Rattle.exchange_runs.proofs.FirstTable.{first_of-past}
use Rattle.exchange_runs.proofs.ExchangeTests.{IsZeroPast, exchange_from, last_from, leaving_from}

-- The table of given cells, zero elsewhere.
abbrev list_table : List (List Fraction) → List ℕ → Table
list_table rows basis = record { cell = λ i v. fraction_at (slice_index_or rows i []) v; basic = λ i. slice_index basis i }

abbrev w : ℕ → Fraction
w n = whole (pos n)

abbrev f : ℤ → ℕ → Fraction
f n d = over n (pos d)

-- The first table of a program.
abbrev first_table : ProgramDef → Table
first_table p = record { cell = λ i v. whole (pos (first_number p i v)); basic = λ i. slack p i }

first_starts : (p : ProgramDef) → IsStart p (first_table p)
first_starts p = record { cells = λ i v l. refl; basis = λ i l. refl }

-- Such a table is zero past its rows.
rows_short : (rows : List (List Fraction)) (n : ℕ)
    → all_below (length rows) (λ i. nat_le (length (slice_index_or rows i [])) n) ≡ true → (i : ℕ)
    → length (slice_index_or rows i []) ≤ n
rows_short rows n h i = elim (cases_lt i (length rows)) [
  | inl within ↦ leb-true (length (slice_index_or rows i [])) n
      (all_below-each (length rows) (λ k. nat_le (length (slice_index_or rows k [])) n) h i within)
  | inr past ↦ let none : slice_index_or rows i [] ≡ [] = get_or_past rows i [] past in rw none (omega arith)
]

zero_past : (rows : List (List Fraction)) (basis : List ℕ)
    → all_below (length rows) (λ i. nat_le (length (slice_index_or rows i [])) 11) ≡ true
    → IsZeroPast seven_rows (list_table rows basis)
zero_past rows basis h i v past =
    get_or_past (slice_index_or rows i []) v (whole (pos 0)) (omega (arith, rows_short rows 11 h i, eleven v past))
  where
    eleven : (k : ℕ) → 10 < k → 11 ≤ k
    eleven k l = omega arith

zero_past_first : (p : ProgramDef) → IsZeroPast p (first_table p)
zero_past_first p i v past = ap (λ n. whole (pos n)) (first_of-past (columns p) _ _ (variables p) _ v (omega arith) past)

abbrev rows_one : List (List Fraction)
rows_one =
    (w 1 ∷ w 0 ∷ w 0 ∷ w 1 ∷ w 0 ∷ w 0 ∷ w 0 ∷ w 0 ∷ w 0 ∷ w 0 ∷ w 1 ∷ []) ∷
    (w 0 ∷ w 1 ∷ w 0 ∷ w 0 ∷ w 1 ∷ w 0 ∷ w 0 ∷ w 0 ∷ w 0 ∷ w 0 ∷ w 1 ∷ []) ∷
    (w 0 ∷ w 0 ∷ w 1 ∷ w 0 ∷ w 0 ∷ w 1 ∷ w 0 ∷ w 0 ∷ w 0 ∷ w 0 ∷ w 1 ∷ []) ∷
    (w 0 ∷ w 2 ∷ w 0 ∷ f (negsuc 2) 1 ∷ w 0 ∷ w 0 ∷ w 1 ∷ w 0 ∷ w 0 ∷ w 0 ∷ w 1 ∷ []) ∷
    (w 0 ∷ w 0 ∷ w 2 ∷ w 0 ∷ w 0 ∷ w 0 ∷ w 0 ∷ w 1 ∷ w 0 ∷ w 0 ∷ w 3 ∷ []) ∷
    (w 0 ∷ w 0 ∷ w 1 ∷ f (negsuc 0) 1 ∷ w 0 ∷ w 0 ∷ w 0 ∷ w 0 ∷ w 1 ∷ w 0 ∷ w 0 ∷ []) ∷
    (w 0 ∷ w 1 ∷ w 0 ∷ w 0 ∷ w 0 ∷ w 0 ∷ w 0 ∷ w 0 ∷ w 0 ∷ w 1 ∷ w 1 ∷ []) ∷
    (w 0 ∷ w 2 ∷ w 2 ∷ f (negsuc 2) 1 ∷ w 0 ∷ w 0 ∷ w 0 ∷ w 0 ∷ w 0 ∷ w 0 ∷ f (negsuc 2) 1 ∷ []) ∷
    []

abbrev table_one : Table
table_one = list_table rows_one (0 ∷ 4 ∷ 5 ∷ 6 ∷ 7 ∷ 8 ∷ 9 ∷ [])

past_one : IsZeroPast seven_rows table_one
past_one = zero_past rows_one (0 ∷ 4 ∷ 5 ∷ 6 ∷ 7 ∷ 8 ∷ 9 ∷ []) refl

abbrev rows_two : List (List Fraction)
rows_two =
    (w 1 ∷ w 0 ∷ w 0 ∷ w 1 ∷ w 0 ∷ w 0 ∷ w 0 ∷ w 0 ∷ w 0 ∷ w 0 ∷ w 1 ∷ []) ∷
    (w 0 ∷ w 0 ∷ w 0 ∷ f (pos 3) 2 ∷ w 1 ∷ w 0 ∷ f (negsuc 0) 2 ∷ w 0 ∷ w 0 ∷ w 0 ∷ f (pos 1) 2 ∷ []) ∷
    (w 0 ∷ w 0 ∷ w 1 ∷ w 0 ∷ w 0 ∷ w 1 ∷ w 0 ∷ w 0 ∷ w 0 ∷ w 0 ∷ w 1 ∷ []) ∷
    (w 0 ∷ w 1 ∷ w 0 ∷ f (negsuc 2) 2 ∷ w 0 ∷ w 0 ∷ f (pos 1) 2 ∷ w 0 ∷ w 0 ∷ w 0 ∷ f (pos 1) 2 ∷ []) ∷
    (w 0 ∷ w 0 ∷ w 2 ∷ w 0 ∷ w 0 ∷ w 0 ∷ w 0 ∷ w 1 ∷ w 0 ∷ w 0 ∷ w 3 ∷ []) ∷
    (w 0 ∷ w 0 ∷ w 1 ∷ f (negsuc 0) 1 ∷ w 0 ∷ w 0 ∷ w 0 ∷ w 0 ∷ w 1 ∷ w 0 ∷ w 0 ∷ []) ∷
    (w 0 ∷ w 0 ∷ w 0 ∷ f (pos 3) 2 ∷ w 0 ∷ w 0 ∷ f (negsuc 0) 2 ∷ w 0 ∷ w 0 ∷ w 1 ∷ f (pos 1) 2 ∷ []) ∷
    (w 0 ∷ w 0 ∷ w 2 ∷ w 0 ∷ w 0 ∷ w 0 ∷ f (negsuc 0) 1 ∷ w 0 ∷ w 0 ∷ w 0 ∷ f (negsuc 3) 1 ∷ []) ∷
    []

abbrev table_two : Table
table_two = list_table rows_two (0 ∷ 4 ∷ 5 ∷ 1 ∷ 7 ∷ 8 ∷ 9 ∷ [])

past_two : IsZeroPast seven_rows table_two
past_two = zero_past rows_two (0 ∷ 4 ∷ 5 ∷ 1 ∷ 7 ∷ 8 ∷ 9 ∷ []) refl

abbrev rows_three : List (List Fraction)
rows_three =
    (w 1 ∷ w 0 ∷ w 0 ∷ w 1 ∷ w 0 ∷ w 0 ∷ w 0 ∷ w 0 ∷ w 0 ∷ w 0 ∷ w 1 ∷ []) ∷
    (w 0 ∷ w 0 ∷ w 0 ∷ f (pos 3) 2 ∷ w 1 ∷ w 0 ∷ f (negsuc 0) 2 ∷ w 0 ∷ w 0 ∷ w 0 ∷ f (pos 1) 2 ∷ []) ∷
    (w 0 ∷ w 0 ∷ w 0 ∷ w 1 ∷ w 0 ∷ w 1 ∷ w 0 ∷ w 0 ∷ f (negsuc 0) 1 ∷ w 0 ∷ w 1 ∷ []) ∷
    (w 0 ∷ w 1 ∷ w 0 ∷ f (negsuc 2) 2 ∷ w 0 ∷ w 0 ∷ f (pos 1) 2 ∷ w 0 ∷ w 0 ∷ w 0 ∷ f (pos 1) 2 ∷ []) ∷
    (w 0 ∷ w 0 ∷ w 0 ∷ w 2 ∷ w 0 ∷ w 0 ∷ w 0 ∷ w 1 ∷ f (negsuc 1) 1 ∷ w 0 ∷ w 3 ∷ []) ∷
    (w 0 ∷ w 0 ∷ w 1 ∷ f (negsuc 0) 1 ∷ w 0 ∷ w 0 ∷ w 0 ∷ w 0 ∷ w 1 ∷ w 0 ∷ w 0 ∷ []) ∷
    (w 0 ∷ w 0 ∷ w 0 ∷ f (pos 3) 2 ∷ w 0 ∷ w 0 ∷ f (negsuc 0) 2 ∷ w 0 ∷ w 0 ∷ w 1 ∷ f (pos 1) 2 ∷ []) ∷
    (w 0 ∷ w 0 ∷ w 0 ∷ w 2 ∷ w 0 ∷ w 0 ∷ f (negsuc 0) 1 ∷ w 0 ∷ f (negsuc 1) 1 ∷ w 0 ∷ f (negsuc 3) 1 ∷ []) ∷
    []

abbrev table_three : Table
table_three = list_table rows_three (0 ∷ 4 ∷ 5 ∷ 1 ∷ 7 ∷ 2 ∷ 9 ∷ [])

past_three : IsZeroPast seven_rows table_three
past_three = zero_past rows_three (0 ∷ 4 ∷ 5 ∷ 1 ∷ 7 ∷ 2 ∷ 9 ∷ []) refl

abbrev rows_four : List (List Fraction)
rows_four =
    (w 1 ∷ w 0 ∷ w 0 ∷ w 0 ∷ f (negsuc 1) 3 ∷ w 0 ∷ f (pos 1) 3 ∷ w 0 ∷ w 0 ∷ w 0 ∷ f (pos 2) 3 ∷ []) ∷
    (w 0 ∷ w 0 ∷ w 0 ∷ w 1 ∷ f (pos 2) 3 ∷ w 0 ∷ f (negsuc 0) 3 ∷ w 0 ∷ w 0 ∷ w 0 ∷ f (pos 1) 3 ∷ []) ∷
    (w 0 ∷ w 0 ∷ w 0 ∷ w 0 ∷ f (negsuc 1) 3 ∷ w 1 ∷ f (pos 1) 3 ∷ w 0 ∷ f (negsuc 0) 1 ∷ w 0 ∷ f (pos 2) 3 ∷ []) ∷
    (w 0 ∷ w 1 ∷ w 0 ∷ w 0 ∷ w 1 ∷ w 0 ∷ w 0 ∷ w 0 ∷ w 0 ∷ w 0 ∷ w 1 ∷ []) ∷
    (w 0 ∷ w 0 ∷ w 0 ∷ w 0 ∷ f (negsuc 3) 3 ∷ w 0 ∷ f (pos 2) 3 ∷ w 1 ∷ f (negsuc 1) 1 ∷ w 0 ∷ f (pos 7) 3 ∷ []) ∷
    (w 0 ∷ w 0 ∷ w 1 ∷ w 0 ∷ f (pos 2) 3 ∷ w 0 ∷ f (negsuc 0) 3 ∷ w 0 ∷ w 1 ∷ w 0 ∷ f (pos 1) 3 ∷ []) ∷
    (w 0 ∷ w 0 ∷ w 0 ∷ w 0 ∷ f (negsuc 0) 1 ∷ w 0 ∷ w 0 ∷ w 0 ∷ w 0 ∷ w 1 ∷ w 0 ∷ []) ∷
    (w 0 ∷ w 0 ∷ w 0 ∷ w 0 ∷ f (negsuc 3) 3 ∷ w 0 ∷ f (negsuc 0) 3 ∷ w 0 ∷ f (negsuc 1) 1 ∷ w 0 ∷ f (negsuc 13) 3 ∷ []) ∷
    []

abbrev table_four : Table
table_four = list_table rows_four (0 ∷ 3 ∷ 5 ∷ 1 ∷ 7 ∷ 2 ∷ 9 ∷ [])

past_four : IsZeroPast seven_rows table_four
past_four = zero_past rows_four (0 ∷ 3 ∷ 5 ∷ 1 ∷ 7 ∷ 2 ∷ 9 ∷ []) refl

exchange_one : IsExchange seven_rows (first_table seven_rows) table_one 0 0
exchange_one = exchange_from seven_rows (first_table seven_rows) table_one 0 0 (w 1) (zero_past_first seven_rows)
    past_one refl refl refl refl refl

exchange_two : IsExchange seven_rows table_one table_two 1 3
exchange_two = exchange_from seven_rows table_one table_two 1 3 (f (pos 1) 2) past_one past_two refl refl refl refl refl

exchange_three : IsExchange seven_rows table_two table_three 2 5
exchange_three = exchange_from seven_rows table_two table_three 2 5 (w 0) past_two past_three refl refl refl refl refl

exchange_four : IsExchange seven_rows table_three table_four 3 1
exchange_four = exchange_from seven_rows table_three table_four 3 1 (f (pos 1) 3) past_three past_four refl refl refl refl refl

last_table : IsLast seven_rows table_four
last_table = last_from seven_rows table_four refl

reads_one : ReadsSo seven_rows (first_table seven_rows) table_one 0 (record { entered = 0; left = 3; ratio = w 1; value = w 3 })
reads_one = record {
  exchange = exchange_one;
  left = refl;
  ratio = (leaving_from seven_rows (first_table seven_rows) 0 0 (w 1) refl).ratio;
  value = refl;
}

reads_two : ReadsSo seven_rows table_one table_two 3 (record { entered = 1; left = 6; ratio = f (pos 1) 2; value = w 4 })
reads_two = record {
  exchange = exchange_two;
  left = refl;
  ratio = (leaving_from seven_rows table_one 1 3 (f (pos 1) 2) refl).ratio;
  value = refl;
}

reads_three : ReadsSo seven_rows table_two table_three 5 (record { entered = 2; left = 8; ratio = w 0; value = w 4 })
reads_three = record {
  exchange = exchange_three;
  left = refl;
  ratio = (leaving_from seven_rows table_two 2 5 (w 0) refl).ratio;
  value = refl;
}

reads_four : ReadsSo seven_rows table_three table_four 1 (record { entered = 3; left = 4; ratio = f (pos 1) 3; value = f (pos 14) 3 })
reads_four = record {
  exchange = exchange_four;
  left = refl;
  ratio = (leaving_from seven_rows table_three 3 1 (f (pos 1) 3) refl).ratio;
  value = refl;
}

pub run_reads_so : (t : Table) × (RunReadsSo seven_rows seven_rows_account t) × IsLast seven_rows t
run_reads_so = (
  table_four,
  (
    table_three,
    1,
    (
      table_two,
      5,
      (table_one, 3, (first_table seven_rows, 0, first_starts seven_rows, reads_one), reads_two),
      reads_three,
    ),
    reads_four,
  ),
  last_table,
)

reached_three : Reached seven_rows 3 table_three
reached_three = (
  table_two,
  2,
  5,
  (table_one, 1, 3, (first_table seven_rows, 0, 0, first_starts seven_rows, exchange_one), exchange_two),
  exchange_three,
)

-- What is read off the last table.
values : (c : ℕ) → c < 3 → IsValueOf 10 table_four 7 c (fraction_at seven_rows_primal c)
values zero l = inl (0, lit< tt, refl, refl)
values (suc zero) l = inl (3, lit< tt, refl, refl)
values (suc (suc zero)) l = inl (5, lit< tt, refl, refl)
values (suc (suc (suc n))) l = absurd (omega arith)

abbrev duals : List Fraction
duals = w 0 ∷ f (pos 4) 3 ∷ w 0 ∷ f (pos 1) 3 ∷ w 0 ∷ w 2 ∷ w 0 ∷ []

abbrev same_fraction : Fraction → Fraction → Bool
same_fraction a b = int_eq a.num b.num && int_eq a.den b.den

same_from : (a b : Fraction) → same_fraction a b ≡ true → a ≡ b
same_from a b h =
    let parts = and_parts (int_eq a.num b.num) (int_eq a.den b.den) h in
    let nums : a.num ≡ b.num = (Decides-int_eq a.num b.num).0 parts.0 in
    let dens : a.den ≡ b.den = (Decides-int_eq a.den b.den).0 parts.1 in
    ap₂ over nums dens

are_duals : AreDuals seven_rows table_four duals
are_duals = record {
  dual_each = refl;
  duals_are = λ r l. same_from (fraction_at duals r) (dual_at seven_rows table_four r)
      (all_below-each 7 (λ k. same_fraction (fraction_at duals k) (dual_at seven_rows table_four k)) refl r l);
}

least_is_three : IsLeastCommon duals 3
least_is_three = record {
  positive = lit< tt;
  common = All-from_get_or (λ d. unsigned_abs d.den ∣ 3) duals (whole (pos 0)) (λ i l.
      dvd_of_mod-eq-zero (unsigned_abs (fraction_at duals i).den)
      (eqb-true (3 % unsigned_abs (fraction_at duals i).den) 0
      (all_below-each 7 (λ k. 3 % unsigned_abs (fraction_at duals k).den == 0) refl i l)));
  least = λ k h. h 1 (whole (pos 0)) (lit< tt);
}

are_scaled : AreScaled 3 duals seven_rows_dual.num
are_scaled = record {
  len = refl;
  each = λ i l. record {
    same = (Decides-int_eq (pos (slice_index seven_rows_dual.num i) *ℤ (fraction_at duals i).den) ((fraction_at duals i).num *ℤ pos 3)).0
        (all_below-each 7
        (λ k. int_eq (pos (slice_index seven_rows_dual.num k) *ℤ (fraction_at duals k).den)
        ((fraction_at duals k).num *ℤ pos 3)) refl i l);
  };
}

pub ends_so : EndsWithin seven_rows 5 4 (over (pos 14) (pos 3)) seven_rows_primal seven_rows_dual
ends_so = record {
  table = table_four;
  run = record { reached = (table_three, 3, 1, reached_three, exchange_four); last = last_table };
  within = lit< tt;
  read_off = record {
    is_value = refl;
    is_primal = record { value_each = refl; values = values };
    is_dual = record {
      duals = duals;
      are_duals = are_duals;
      least = least_is_three;
      scaled = are_scaled;
      small_den = lit< tt;
      small_num = All-from_get_or (λ k. k < 2 ^ 63) seven_rows_dual.num 0 (λ i l.
          ltb-true (slice_index seven_rows_dual.num i) 9223372036854775808
          (all_below-each 7 (λ k. nat_lt (slice_index seven_rows_dual.num k) 9223372036854775808) refl i l));
    };
  };
}

-- With a unit less the fourth exchange is not begun.
pub needs_so : NeedsMoreThan seven_rows 4
needs_so = inr (3, table_three, 3, refl, reached_three, exchange_four.enters)
