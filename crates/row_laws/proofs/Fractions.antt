-- From ticks to fractions. If the ticks of a window meet each row, the fractions are a scaled point of the program.
use Rattle.std.proofs.Common.{◌≡◌, ℕ, zero, suc, ◌*◌, ◌/◌, ◌<◌, ◌≤◌, Bool, true, List, [], ◌∷◌, length, get_or, map}
use Rattle.std.proofs.Common.{refl, sym, ap, ◌∙◌, arith, Some, sum_by}
use Rattle.std.specs.Prelude.{slice_index}
use Rattle.std.specs.List.{All, Contains}
use Rattle.std.proofs.Math.Nat.{mul-div_cancel_left, div-mul-le_self, mul-le-mul_right, mul-pos, mul_left_comm}
use Rattle.std.proofs.lemmas.List.{get_or-map, length-map}
use Rattle.std.proofs.lemmas.List.Elements.{All-filter, All-get_or, All-from_get_or, All-head, All-tail}
use Rattle.number_laws.specs.Sums.{sum_below}
use Rattle.number_laws.specs.Tests.{count_below}
use Rattle.number_laws.proofs.SumLaws.{sum_below-agree, sum_below-list_by, sum_below-times_right}
use Rattle.program_form.specs.Program.{ProgramDef, columns, height, cost, entry, limit}
use Rattle.program_form.specs.Points.{IsScaledPoint, worth}
use Rattle.sporadic_model.specs.SetDef.{SetDef}
use Rattle.sporadic_model.specs.Users.{length_of}
use Rattle.sporadic_model.specs.declared.ids.Protocol.{Protocol}
use Rattle.schedule_model.specs.RowDef.{Trace}
use Rattle.schedule_model.specs.Activity.{task_of}
use Rattle.blocking_columns.specs.ColumnDef.{ColumnDef}
use Rattle.blocking_columns.specs.Columns.{is_column, columns_where, columns_of}
use Rattle.fragments.specs.Constraints.{ConstraintDef, holds_some, rows_there}
use Rattle.program_laws.specs.Programs.{cost_of, rows_of, program_with, program_of}
use Rattle.program_laws.proofs.RowKinds.{EachKind, each_row}
use Rattle.charge_laws.specs.Windows.{window_end}
use Rattle.charge_laws.specs.Fractions.{charged_column, is_in, ticks_in, product_of_lengths, fractions_of, no_column}
use Rattle.row_laws.specs.Meeting.{Charges, brings, TicksMeet}
use Rattle.row_laws.proofs.ColumnSums.{columns_bring, columns_hold}

-- Has each of these columns requests of some length?
abbrev pub HaveLengths : SetDef → List ColumnDef → Type 0
HaveLengths set cs = All (λ c. 0 < length_of set c.task c.resource) cs

-- The product of positive lengths is positive.
pub product_positive : (set : SetDef) (cs : List ColumnDef) → HaveLengths set cs → 0 < product_of_lengths set cs
product_positive set [] h = omega arith
product_positive set (c ∷ cs) h =
    mul-pos (All-head (λ (d : ColumnDef). 0 < length_of set d.task d.resource) c cs h)
    (product_positive set cs (All-tail (λ (d : ColumnDef). 0 < length_of set d.task d.resource) c cs h))

-- Each of the lengths is a factor of it.
factor_of : (set : SetDef) (cs : List ColumnDef) (k : ℕ) (d : ColumnDef) → k < length cs
    → (m : ℕ) × (product_of_lengths set cs ≡ length_of set (get_or cs k d).task (get_or cs k d).resource * m)
factor_of set [] k d l = absurd (omega arith)
factor_of set (c ∷ cs) zero d l = (product_of_lengths set cs, refl)
factor_of set (c ∷ cs) (suc k) d l =
    let back : (m : ℕ) × (product_of_lengths set cs ≡ length_of set (get_or cs k d).task (get_or cs k d).resource * m) =
    factor_of set cs k d (omega arith) in (
      length_of set c.task c.resource * back.0,
      ap (λ z. length_of set c.task c.resource * z) back.1
          ∙ mul_left_comm (length_of set c.task c.resource) (length_of set (get_or cs k d).task (get_or cs k d).resource) back.0,
    )

-- If the product is positive, so is each length.
pub lengths_positive : (set : SetDef) (cs : List ColumnDef) → 0 < product_of_lengths set cs → HaveLengths set cs
lengths_positive set cs some =
    All-from_get_or (λ (c : ColumnDef). 0 < length_of set c.task c.resource) cs no_column (λ k l.
    let f : (m : ℕ) × (product_of_lengths set cs ≡ length_of set (get_or cs k no_column).task (get_or cs k no_column).resource * m) =
    factor_of set cs k no_column l in
    factor_some (length_of set (get_or cs k no_column).task (get_or cs k no_column).resource) f.0 (rw (← f.1) some)) where
      factor_some : (a b : ℕ) → 0 < a * b → 0 < a
      factor_some zero b x = absurd (omega arith)
      factor_some (suc a) b x = omega arith

-- A whole of scale s, divided by a length: what each tick is worth.
abbrev pub share_of : SetDef → ℕ → ℕ → ℕ → ℕ
share_of set s x q = s / length_of set x q

-- A column's fraction is its ticks times its share. Its share times its length is a whole.
record WholeShare (set : SetDef) (s ticks : ℕ) (c : ColumnDef) : Type 0 where
  fraction : (ticks * s) / length_of set c.task c.resource ≡ ticks * share_of set s c.task c.resource
  whole : length_of set c.task c.resource * share_of set s c.task c.resource ≡ s

quotient : (l s m : ℕ) → 0 < l → s ≡ l * m → s / l ≡ m
quotient l s m some e = ap (λ z. z / l) e ∙ mul-div_cancel_left m some

whole_share : (set : SetDef) (s ticks : ℕ) (c : ColumnDef) (m : ℕ) → 0 < length_of set c.task c.resource
    → s ≡ length_of set c.task c.resource * m → WholeShare set s ticks c
whole_share set s ticks c m some e =
    record { fraction = fraction (length_of set c.task c.resource) some e; whole = whole (length_of set c.task c.resource) some e } where
      fraction : (l : ℕ) → 0 < l → s ≡ l * m → (ticks * s) / l ≡ ticks * (s / l)
      fraction l b f =
          ap (λ z. (ticks * z) / l) f ∙ ap (λ z. z / l) (mul_left_comm ticks l m) ∙ mul-div_cancel_left (ticks * m) b
          ∙ ap (λ z. ticks * z) (sym (quotient l s m b f))

      whole : (l : ℕ) → 0 < l → s ≡ l * m → l * (s / l) ≡ s
      whole l b f = ap (λ z. l * z) (quotient l s m b f) ∙ sym f

-- The scale of the columns that pass a test.
abbrev scale_of : (ColumnDef → Bool) → SetDef → ℕ
scale_of test set = product_of_lengths set (columns_where test set)

whole_in : (set : SetDef) (cs : List ColumnDef) (k ticks : ℕ) → HaveLengths set cs → k < length cs
    → WholeShare set (product_of_lengths set cs) ticks (get_or cs k no_column)
whole_in set cs k ticks have l =
    let f : (m : ℕ) × (product_of_lengths set cs ≡ length_of set (get_or cs k no_column).task (get_or cs k no_column).resource * m) =
    factor_of set cs k no_column l in
    whole_share set (product_of_lengths set cs) ticks (get_or cs k no_column) f.0
    (All-get_or (λ (c : ColumnDef). 0 < length_of set c.task c.resource) cs k no_column l have) f.1

-- A row of the program.
no_row : ConstraintDef
no_row = record { coefficient = λ c. 0; limit = λ b. 0 }

-- The sum of the fractions in a row, as the columns' ticks.
row_ticks : (charges : Charges) (test : ColumnDef → Bool) (w : Trace) (bound : ℕ → ℕ) (n j : ℕ) (k : ConstraintDef)
    → HaveLengths w.set (columns_where test w.set)
    → sum_below (length (columns_where test w.set))
    (λ c. k.coefficient (get_or (columns_where test w.set) c no_column) * fractions_of charges w bound n j (columns_where test w.set) c)
    ≤ sum_below (window_end w bound n j)
    (λ t. brings charges w (λ c. k.coefficient c * share_of w.set (scale_of test w.set) c.task c.resource) j t)
unfolding ticks_in
row_ticks charges test w bound n j k have =
    let parts : sum_below (length cs) (λ c. k.coefficient (get_or cs c no_column) * fractions_of charges w bound n j cs c)
    ≡ sum_below (length cs) (λ c. part (get_or cs c no_column)) =
    sum_below-agree (length cs) (λ c. k.coefficient (get_or cs c no_column) * fractions_of charges w bound n j cs c)
    (λ c. part (get_or cs c no_column)) (λ c l. of_column c l) in
    omega (
      arith,
      parts,
      sum_below-list_by part no_column cs,
      columns_bring (λ c. k.coefficient c * share c) (λ t. charged_column charges w t j) (window_end w bound n j) (length w.set.tasks)
          (length w.set.resources) test,
    ) where
      cs : List ColumnDef
      cs = columns_where test w.set

      share : ColumnDef → ℕ
      share = λ c. share_of w.set (scale_of test w.set) c.task c.resource

      ticks : ColumnDef → ℕ
      ticks = λ c. count_below (window_end w bound n j) (λ t. is_in c (charged_column charges w t j))

      part : ColumnDef → ℕ
      part = λ c. ticks c * (k.coefficient c * share c)

      of_column : (c : ℕ) → c < length cs
          → k.coefficient (get_or cs c no_column) * fractions_of charges w bound n j cs c ≡ part (get_or cs c no_column)
      of_column c l =
          let d : ColumnDef = get_or cs c no_column in
          let a : WholeShare w.set (scale_of test w.set) (ticks d) d = whole_in w.set cs c (ticks d) have l in
          ap (λ z. k.coefficient d * z) a.fraction ∙ mul_left_comm (k.coefficient d) (ticks d) (share d)

-- So if the ticks meet each row of a list, the fractions are a scaled point of the program over these rows and the columns that pass a
-- test.
pub rows_are_point : (charges : Charges) (test : ColumnDef → Bool) (rows : List ConstraintDef) (w : Trace) (bounds : List ℕ) (n j : ℕ)
    → HaveLengths w.set (columns_where test w.set) → All (TicksMeet charges w (slice_index bounds) n j) rows
    → IsScaledPoint (program_with w.set (columns_where test w.set) rows bounds) (product_of_lengths w.set (columns_where test w.set))
    (fractions_of charges w (slice_index bounds) n j (columns_where test w.set))
rows_are_point charges test rows w bounds n j have each = record { positive = product_positive w.set cs have; kept = kept } where
  cs : List ColumnDef
  cs = columns_where test w.set

  program : ProgramDef
  program = program_with w.set cs rows bounds

  there : List ConstraintDef
  there = rows_there cs rows

  met : All (TicksMeet charges w (slice_index bounds) n j) there
  met = All-filter (holds_some cs) (TicksMeet charges w (slice_index bounds) n j) rows each

  term : ℕ → ℕ → ℕ
  term r c = entry program r c * fractions_of charges w (slice_index bounds) n j cs c

  coefficient : (r c : ℕ) → r < length there → c < length cs
      → entry program r c ≡ (get_or there r no_row).coefficient (get_or cs c no_column)
  coefficient r c here b =
      ap (λ (row : List ℕ). slice_index row c) (get_or-map (λ (k : ConstraintDef). map k.coefficient cs) there r no_row [] here)
      ∙ get_or-map (get_or there r no_row).coefficient cs c no_column 0 b

  kept : (r : ℕ) → r < height program
      → sum_below (columns program) (λ c. entry program r c * fractions_of charges w (slice_index bounds) n j cs c)
      ≤ product_of_lengths w.set cs * limit program r
  kept r l =
      let here : r < length there = rw (← length-map there (λ (k : ConstraintDef). map k.coefficient cs)) l in
      let k : ConstraintDef = get_or there r no_row in
      let meets : TicksMeet charges w (slice_index bounds) n j k =
      All-get_or (TicksMeet charges w (slice_index bounds) n j) there r no_row here met in
      let ticks : sum_below (window_end w (slice_index bounds) n j)
      (λ t. brings charges w (λ c. k.coefficient c * share_of w.set (scale_of test w.set) c.task c.resource) j t)
      ≤ scale_of test w.set * k.limit (slice_index bounds) =
      meets (scale_of test w.set) (share_of w.set (scale_of test w.set))
      (λ x q. div-mul-le_self (scale_of test w.set) (length_of w.set x q)) in
      let number : sum_below (columns program) (term r) ≡ sum_below (length cs) (term r) =
      ap (λ z. sum_below z (term r)) (length-map cs (cost_of w.set)) in
      let same : sum_below (length cs) (term r)
      ≡ sum_below (length cs) (λ c. k.coefficient (get_or cs c no_column) * fractions_of charges w (slice_index bounds) n j cs c) =
      sum_below-agree (length cs) (term r)
      (λ c. k.coefficient (get_or cs c no_column) * fractions_of charges w (slice_index bounds) n j cs c)
      (λ c b. ap (λ z. z * fractions_of charges w (slice_index bounds) n j cs c) (coefficient r c here b)) in
      let limits : limit program r ≡ k.limit (slice_index bounds) =
      get_or-map (λ (row : ConstraintDef). row.limit (slice_index bounds)) there r no_row 0 here in
      let whole : scale_of test w.set * limit program r ≡ scale_of test w.set * k.limit (slice_index bounds) =
      ap (λ z. scale_of test w.set * z) limits in
      omega (arith, number, same, row_ticks charges test w (slice_index bounds) n j k have, ticks, whole)

-- So it is for a protocol's programs, if the ticks meet each kind of its rows.
pub fractions_are_point : (charges : Charges) (p : Protocol) (w : Trace) (bounds : List ℕ) (n j : ℕ)
    → HaveLengths w.set (columns_of p w.set (task_of w j))
    → EachKind (TicksMeet charges w (slice_index bounds) n j) p w.set (task_of w j)
    → IsScaledPoint (program_of p w.set (task_of w j) bounds) (product_of_lengths w.set (columns_of p w.set (task_of w j)))
    (fractions_of charges w (slice_index bounds) n j (columns_of p w.set (task_of w j)))
fractions_are_point charges p w bounds n j have each =
    rows_are_point charges (is_column p w.set (task_of w j)) (rows_of p w.set (task_of w j)) w bounds n j have
    (each_row (TicksMeet charges w (slice_index bounds) n j) p w.set (task_of w j) each)

-- If each blocked tick is charged in one of the columns, and the program's columns are these, the fractions are worth at least the blocked
-- ticks.
pub columns_worth : (charges : Charges) (w : Trace) (bound : ℕ → ℕ) (n j : ℕ) (program : ProgramDef) (cs : List ColumnDef)
    (counts : ℕ → Bool) → program.costs ≡ map (cost_of w.set) cs → HaveLengths w.set cs
    → ((t : ℕ) → t < window_end w bound n j → counts t ≡ true
    → (d : ColumnDef) × (charged_column charges w t j ≡ Some d) × Contains cs d)
    → count_below (window_end w bound n j) counts * product_of_lengths w.set cs
    ≤ worth program (fractions_of charges w bound n j cs)
unfolding ticks_in
columns_worth charges w bound n j program cs counts costs have placed =
    let number : sum_below (columns program) term ≡ sum_below (length cs) term =
    ap (λ z. sum_below z term) (ap (λ (xs : List ℕ). length xs) costs ∙ length-map cs (cost_of w.set)) in
    let same : sum_below (length cs) term ≡ sum_below (length cs) (λ c. ticks (get_or cs c no_column) * scale) =
    sum_below-agree (length cs) term (λ c. ticks (get_or cs c no_column) * scale) (λ c l. of_column c l) in
    let times : sum_below (length cs) (λ c. ticks (get_or cs c no_column) * scale)
    ≡ sum_below (length cs) (λ c. ticks (get_or cs c no_column)) * scale =
    sum_below-times_right (length cs) scale (λ c. ticks (get_or cs c no_column)) in
    let list : sum_below (length cs) (λ c. ticks (get_or cs c no_column)) * scale ≡ sum_by ticks cs * scale =
    ap (λ z. z * scale) (sum_below-list_by ticks no_column cs) in
    let most : count_below e counts ≤ sum_by ticks cs = columns_hold (λ t. charged_column charges w t j) counts e cs placed in
    omega (arith, number, same, times, list, mul-le-mul_right scale most) where
      scale : ℕ
      scale = product_of_lengths w.set cs

      e : ℕ
      e = window_end w bound n j

      ticks : ColumnDef → ℕ
      ticks = λ c. count_below e (λ t. is_in c (charged_column charges w t j))

      term : ℕ → ℕ
      term = λ c. cost program c * fractions_of charges w bound n j cs c

      of_column : (c : ℕ) → c < length cs → term c ≡ ticks (get_or cs c no_column) * scale
      of_column c l =
          let d : ColumnDef = get_or cs c no_column in
          let a : WholeShare w.set scale (ticks d) d = whole_in w.set cs c (ticks d) have l in
          let cost_is : cost program c ≡ length_of w.set d.task d.resource =
          ap (λ (xs : List ℕ). slice_index xs c) costs ∙ get_or-map (cost_of w.set) cs c no_column 0 l in
          ap (λ z. z * fractions_of charges w bound n j cs c) cost_is
          ∙ ap (λ z. length_of w.set d.task d.resource * z) a.fraction
          ∙ mul_left_comm (length_of w.set d.task d.resource) (ticks d) (share_of w.set scale d.task d.resource) ∙ ap (λ z. ticks d * z) a.whole
