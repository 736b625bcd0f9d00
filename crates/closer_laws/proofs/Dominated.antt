-- Rows that others say already: where for each row of a list some row of another counts no less of each column, up to a limit that is
-- no greater, a point of the program over the other list is one of the program over the first. So what fits with the first fits with the
-- other.
use Rattle.std.proofs.Common.{◌≡◌, ℕ, ◌*◌, ◌<◌, ◌≤◌, Bool, true, List, [], length, map, get_or, ap, ◌∙◌, arith, nat_lt}
use Rattle.std.specs.Prelude.{slice_index}
use Rattle.std.specs.List.{All, Contains}
use Rattle.std.proofs.Math.Nat.{mul-le-mul_left, mul-le-mul_right}
use Rattle.std.proofs.lemmas.Bool.{lt-ltb}
use Rattle.std.proofs.lemmas.List.{get_or-map, get_or_default, length-map}
use Rattle.std.proofs.lemmas.List.Folds.{list_any_at}
use Rattle.std.proofs.lemmas.List.Elements.{All-filter, All-get_or, All-contains_itself, filter_passes}
use Rattle.number_laws.specs.Sums.{sum_below}
use Rattle.number_laws.proofs.SumLaws.{sum_below-agree, sum_below-monotone}
use Rattle.program_form.specs.Program.{ProgramDef, columns, height, entry, limit}
use Rattle.program_form.specs.Points.{IsScaledPoint}
use Rattle.sporadic_model.specs.SetDef.{SetDef}
use Rattle.program_sources.specs.Fitting.{AreFitting}
use Rattle.blocking_columns.specs.ColumnDef.{ColumnDef}
use Rattle.blocking_columns.specs.declared.columns.Class.{Class}
use Rattle.blocking_columns.specs.Columns.{columns_by}
use Rattle.fragments.specs.Constraints.{ConstraintDef, holds_some, rows_there}
use Rattle.program_laws.specs.Programs.{program_with, source_with, cost_of}
use Rattle.program_laws.proofs.Lists.{contains_filter}
use Rattle.program_laws.proofs.FewRows.{held}
use Rattle.charge_laws.specs.Fractions.{no_column}

-- Does a row say no less than another at these bounds?
pub record Dominates (bounds : List ℕ) (row less : ConstraintDef) : Type 0 where
  pub coefficients : (c : ColumnDef) → less.coefficient c ≤ row.coefficient c
  pub limit : row.limit (slice_index bounds) ≤ less.limit (slice_index bounds)

-- Does some row of the list?
pub record IsDominated (bounds : List ℕ) (rows : List ConstraintDef) (less : ConstraintDef) : Type 0 where
  pub row : ConstraintDef
  pub among : Contains rows row
  pub says : Dominates bounds row less

pub itself_dominated : (bounds : List ℕ) (rows : List ConstraintDef) (row : ConstraintDef) → Contains rows row → IsDominated bounds rows row
itself_dominated bounds rows row among =
    record { row = row; among = among; says = record { coefficients = λ c. omega arith; limit = omega arith } }

-- A row that says no less is there, where the other is.
holds_more : (cs : List ColumnDef) (row less : ConstraintDef) → ((c : ColumnDef) → less.coefficient c ≤ row.coefficient c)
    → holds_some cs less ≡ true → holds_some cs row ≡ true
holds_more cs row less more h =
    let c : (c : ColumnDef) × (Contains cs c) × (0 < less.coefficient c) = held (Contains cs) cs less (All-contains_itself cs) h in
    let above : nat_lt 0 (row.coefficient c.0) ≡ true = lt-ltb _ _ (omega (arith, c.2, more c.0)) in
    list_any_at (λ d. nat_lt 0 (row.coefficient d)) cs c.1.0 c.0 c.1.1 (ap (λ d. nat_lt 0 (row.coefficient d)) c.1.2 ∙ above)

no_row : ConstraintDef
no_row = record { coefficient = λ c. 0; limit = λ b. 0 }

-- What stands in the row of a program that is one of the list.
coefficient_at : (set : SetDef) (cs : List ColumnDef) (rows : List ConstraintDef) (bounds : List ℕ) (row : ConstraintDef) (r c : ℕ)
    → r < length (rows_there cs rows) → get_or (rows_there cs rows) r row ≡ row → c < length cs
    → entry (program_with set cs rows bounds) r c ≡ row.coefficient (get_or cs c no_column)
coefficient_at set cs rows bounds row r c within same here =
    ap (λ (l : List ℕ). slice_index l c) (get_or-map (λ (k : ConstraintDef). map k.coefficient cs) (rows_there cs rows) r row [] within)
    ∙ (ap (λ (k : ConstraintDef). slice_index (map k.coefficient cs) c) same ∙ get_or-map row.coefficient cs c no_column 0 here)

limit_at : (set : SetDef) (cs : List ColumnDef) (rows : List ConstraintDef) (bounds : List ℕ) (row : ConstraintDef) (r : ℕ)
    → r < length (rows_there cs rows) → get_or (rows_there cs rows) r row ≡ row
    → limit (program_with set cs rows bounds) r ≡ row.limit (slice_index bounds)
limit_at set cs rows bounds row r within same =
    get_or-map (λ (k : ConstraintDef). k.limit (slice_index bounds)) (rows_there cs rows) r row 0 within
    ∙ ap (λ (k : ConstraintDef). k.limit (slice_index bounds)) same

-- The sum of a row, over its columns.
row_sum : List ColumnDef → ConstraintDef → (ℕ → ℕ) → ℕ
row_sum cs row ys = sum_below (length cs) (λ c. row.coefficient (get_or cs c no_column) * ys c)

sum_at : (set : SetDef) (cs : List ColumnDef) (rows : List ConstraintDef) (bounds : List ℕ) (row : ConstraintDef) (r : ℕ) (ys : ℕ → ℕ)
    → r < length (rows_there cs rows) → get_or (rows_there cs rows) r row ≡ row
    → sum_below (columns (program_with set cs rows bounds)) (λ c. entry (program_with set cs rows bounds) r c * ys c) ≡ row_sum cs row ys
unfolding row_sum
sum_at set cs rows bounds row r ys within same =
    ap (λ n. sum_below n (λ c. entry (program_with set cs rows bounds) r c * ys c)) (length-map cs (cost_of set))
    ∙ sum_below-agree (length cs) (λ c. entry (program_with set cs rows bounds) r c * ys c)
    (λ c. row.coefficient (get_or cs c no_column) * ys c)
    (λ c b. ap (λ z. z * ys c) (coefficient_at set cs rows bounds row r c within same b))

sums_more : (cs : List ColumnDef) (row less : ConstraintDef) (ys : ℕ → ℕ) → ((c : ColumnDef) → less.coefficient c ≤ row.coefficient c)
    → row_sum cs less ys ≤ row_sum cs row ys
unfolding row_sum
sums_more cs row less ys more = sum_below-monotone (length cs) (λ c. less.coefficient (get_or cs c no_column) * ys c)
    (λ c. row.coefficient (get_or cs c no_column) * ys c) (λ c l. mul-le-mul_right (ys c) (more (get_or cs c no_column)))

-- So a point is one of the program over the rows that say less.
pub dominated_point : (set : SetDef) (cs : List ColumnDef) (rows more : List ConstraintDef) (bounds : List ℕ) (s : ℕ) (ys : ℕ → ℕ)
    → All (IsDominated bounds more) rows → IsScaledPoint (program_with set cs more bounds) s ys
    → IsScaledPoint (program_with set cs rows bounds) s ys
dominated_point set cs rows more bounds s ys dominated point = record { positive = point.positive; kept = λ r l. kept r l } where
  whole : ProgramDef
  whole = program_with set cs more bounds

  part : ProgramDef
  part = program_with set cs rows bounds

  there : List ConstraintDef
  there = rows_there cs rows

  by_row : (r : ℕ) (less : ConstraintDef) → r < length there → get_or there r less ≡ less → holds_some cs less ≡ true
      → IsDominated bounds more less → sum_below (columns part) (λ c. entry part r c * ys c) ≤ s * limit part r
  by_row r less within same holds d =
      let at : Contains (rows_there cs more) d.row =
      contains_filter (holds_some cs) more d.row d.among (holds_more cs d.row less d.says.coefficients holds) in
      let here : at.0 < height whole = rw (length-map (rows_there cs more) (λ (k : ConstraintDef). map k.coefficient cs)) at.1 in
      let kept : sum_below (columns whole) (λ c. entry whole at.0 c * ys c) ≤ s * limit whole at.0 = point.kept at.0 here in
      let limits : s * limit whole at.0 ≤ s * limit part r =
      mul-le-mul_left s (rw (limit_at set cs more bounds d.row at.0 at.1 at.2, limit_at set cs rows bounds less r within same) d.says.limit) in
      omega (
        arith,
        sum_at set cs rows bounds less r ys within same,
        sum_at set cs more bounds d.row at.0 ys at.1 at.2,
        sums_more cs d.row less ys d.says.coefficients,
        kept,
        limits,
      )

  kept : (r : ℕ) → r < height part → sum_below (columns part) (λ c. entry part r c * ys c) ≤ s * limit part r
  kept r l =
      let within : r < length there = rw (← length-map there (λ (k : ConstraintDef). map k.coefficient cs)) l in
      by_row r (get_or there r no_row) within (get_or_default there r (get_or there r no_row) no_row within)
      (All-get_or (λ row. holds_some cs row ≡ true) there r no_row within (filter_passes (holds_some cs) rows))
      (All-get_or (IsDominated bounds more) there r no_row within (All-filter (holds_some cs) (IsDominated bounds more) rows dominated))

-- So what fits with rows that say less fits with the others.
pub fitting_where_dominated : (set : SetDef) (blocks : ℕ → ℕ → ℕ → Class → Bool) (rows more : ℕ → List ConstraintDef) (cost : ℕ → ℕ)
    (s : List ℕ) → ((i : ℕ) → All (IsDominated s (more i)) (rows i)) → AreFitting (source_with set blocks rows cost) s
    → AreFitting (source_with set blocks more cost) s
fitting_where_dominated set blocks rows more cost s dominated fits = record {
  one_each = fits.one_each;
  kept = λ i v l comes. fits.kept i v l (record {
    blocking = comes.blocking;
    reached = record {
      scale = comes.reached.scale;
      point = comes.reached.point;
      is_point = dominated_point set (columns_by (blocks i) set i) (rows i) (more i) s comes.reached.scale comes.reached.point
          (dominated i) comes.reached.is_point;
      reached = comes.reached.reached;
    };
    response = comes.response;
  });
  within = fits.within;
}
