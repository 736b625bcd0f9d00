-- What `decimal` writes is read as the same number.
use Rattle.std.proofs.Common.{◌≡◌, ◌<◌, ◌+◌, ◌^◌, ◌==◌, ◌&&◌, ℕ, zero, suc, true, List, [], ◌∷◌, length, map, Option}
use Rattle.std.proofs.Common.{None, Some, refl, ap, arith}
use Rattle.std.specs.Prelude.{decimal, nat_le, slice_index}
use Rattle.std.specs.Int.{is_in_range}
use Rattle.std.specs.List.{list_all}
use Rattle.std.proofs.lemmas.Bool.{and_parts, leb-true, le-leb, ltb-true, ne_eqb}
use Rattle.std.proofs.Math.Bool.{or-true}
use Rattle.std.proofs.lemmas.Fmt.{decimal_digit, decimal_nonempty, digits_decimal, digits_value-decimal, first_decimal}
use Rattle.std.proofs.lemmas.Str.Parse.{IsDigitsTest, IsNumeralModel, numerals_by_fold}
use Rattle.schedule_model.specs.Fitting.{is_below, names_below}
use Rattle.text_pieces.specs.Numbers.{is_digit, is_number, number_in, number_between, value_after}
use Rattle.trace_csv.specs.RowLines.{is_cell, is_listed, job_in}
use Rattle.trace_csv.specs.Written.{cell_of}

abbrev AreDigits : List ℕ → Type 0
AreDigits ds = list_all is_digit ds ≡ true

tells : IsDigitsTest AreDigits
tells = record {
  empty = refl;
  parts = λ c cs e. let k = and_parts (is_digit c) (list_all is_digit cs) e in
      let m = and_parts (nat_le 48 c) (nat_le c 57) k.0 in ((leb-true 48 c m.0, leb-true c 57 m.1), k.1);
  more = λ c cs k e i. (le-leb 48 c k.0 i && le-leb c 57 k.1 i) && e i;
}

own : IsNumeralModel AreDigits (value_after 0)
own = numerals_by_fold AreDigits tells value_after (record { empty = λ n. refl; more = λ n c cs k. refl })

pub decimal_form : (n : ℕ) → n < 2 ^ 64 → is_number (decimal n) ≡ true
decimal_form zero h = rw (decimal_digit 0 (omega arith)) refl
decimal_form (suc m) h =
    let some = decimal_nonempty (suc m) h in
    let first = first_decimal (suc m) (omega arith) h in
    rw (
      ne_eqb (length (decimal (suc m))) 0 (λ e. omega arith),
      digits_decimal own (suc m) h,
      ne_eqb (slice_index (decimal (suc m)) 0) 48 (λ e. omega arith),
    ) refl

pub number_of_decimal : (n : ℕ) → n < 2 ^ 64 → number_in (decimal n) ≡ Some n
number_of_decimal n h = rw (decimal_form n h) (ap (λ (m : ℕ). Some m) (digits_value-decimal own n h))

pub between_of_decimal : (least most n : ℕ) → n < 2 ^ 64 → is_in_range least most n ≡ true → number_between least most (decimal n) ≡ Some n
between_of_decimal least most n h range = rw (number_of_decimal n h, range) refl

-- The cell that names a job is read as naming it.
pub job_of_cell : (m : ℕ) (o : Option ℕ) → m < 2 ^ 64 → is_below m o ≡ true → job_in m (cell_of o) ≡ o
job_of_cell m None small below = refl
job_of_cell m (Some j) small below =
    let under : j < m = ltb-true j m below in
    let low : nat_le 1 (j + 1) ≡ true = le-leb 1 (j + 1) (omega arith) in
    let high : nat_le (j + 1) m ≡ true = le-leb (j + 1) m (omega arith) in
    let range : is_in_range 1 m (j + 1) ≡ true = λ i. low i && high i in
    rw (between_of_decimal 1 m (j + 1) (omega arith) range) (ap (λ (n : ℕ). Some n) (omega arith))

cell_form : (m : ℕ) (o : Option ℕ) → m < 2 ^ 64 → is_below m o ≡ true → is_cell (cell_of o) ≡ true
cell_form m None small below = refl
cell_form m (Some j) small below =
    let under : j < m = ltb-true j m below in
    rw (decimal_form (j + 1) (omega arith)) (or-true (length (decimal (j + 1)) == 0))

cell_listed : (m : ℕ) (o : Option ℕ) → m < 2 ^ 64 → is_below m o ≡ true → is_listed m (cell_of o) ≡ true
cell_listed m None small below = refl
cell_listed m (Some j) small below = rw (job_of_cell m (Some j) small below) (or-true (length (decimal (j + 1)) == 0))

pub jobs_of_cells : (m : ℕ) (os : List (Option ℕ)) → m < 2 ^ 64 → names_below m os ≡ true → map (job_in m) (map cell_of os) ≡ os
jobs_of_cells m [] small below = refl
jobs_of_cells m (o ∷ os) small below =
    let k = and_parts (is_below m o) (names_below m os) below in
    let first = job_of_cell m o small k.0 in
    let rest = jobs_of_cells m os small k.1 in
    λ i. first i ∷ rest i

pub cells_form : (m : ℕ) (os : List (Option ℕ)) → m < 2 ^ 64 → names_below m os ≡ true → list_all is_cell (map cell_of os) ≡ true
cells_form m [] small below = refl
cells_form m (o ∷ os) small below =
    let k = and_parts (is_below m o) (names_below m os) below in
    rw (cell_form m o small k.0) (cells_form m os small k.1)

pub cells_listed : (m : ℕ) (os : List (Option ℕ)) → m < 2 ^ 64 → names_below m os ≡ true → list_all (is_listed m) (map cell_of os) ≡ true
cells_listed m [] small below = refl
cells_listed m (o ∷ os) small below =
    let k = and_parts (is_below m o) (names_below m os) below in
    rw (cell_listed m o small k.0) (cells_listed m os small k.1)
