-- More rows allow fewer points. So bounds that fit with fewer rows fit with more.
use Rattle.std.proofs.Common.{◌≡◌, ℕ, ◌*◌, ◌<◌, ◌≤◌, ◌++◌, Bool, List, [], length, map, get_or, sym, ap, ◌∙◌, arith}
use Rattle.std.specs.Prelude.{slice_index}
use Rattle.std.proofs.lemmas.List.{get_or_append_left, map-append, length-append, length-map}
use Rattle.std.proofs.lemmas.List.Elements.{filter-append}
use Rattle.number_laws.specs.Sums.{sum_below}
use Rattle.number_laws.proofs.SumLaws.{sum_below-agree}
use Rattle.program_form.specs.Program.{ProgramDef, columns, height, entry, limit}
use Rattle.program_form.specs.Points.{IsScaledPoint}
use Rattle.sporadic_model.specs.SetDef.{SetDef}
use Rattle.program_sources.specs.Fitting.{AreFitting}
use Rattle.blocking_columns.specs.ColumnDef.{ColumnDef}
use Rattle.blocking_columns.specs.declared.columns.Class.{Class}
use Rattle.blocking_columns.specs.Columns.{columns_by}
use Rattle.fragments.specs.Constraints.{ConstraintDef, holds_some, rows_there, coefficients_of, limits_of}
use Rattle.program_laws.specs.Programs.{program_with, source_with}

-- A list of rows with more rows after it: its numbers come before theirs.
there_append : (cs : List ColumnDef) (rows more : List ConstraintDef) → rows_there cs (rows ++ more) ≡ rows_there cs rows ++ rows_there cs more
there_append cs rows more = filter-append (holds_some cs) rows more

coefficients_append : (cs : List ColumnDef) (rows more : List ConstraintDef)
    → coefficients_of cs (rows ++ more) ≡ coefficients_of cs rows ++ coefficients_of cs more
coefficients_append cs rows more =
    ap (map (λ (row : ConstraintDef). map row.coefficient cs)) (there_append cs rows more)
    ∙ map-append (λ (row : ConstraintDef). map row.coefficient cs) (rows_there cs rows) (rows_there cs more)

limits_append : (cs : List ColumnDef) (rows more : List ConstraintDef) (bounds : List ℕ)
    → limits_of cs (rows ++ more) bounds ≡ limits_of cs rows bounds ++ limits_of cs more bounds
limits_append cs rows more bounds =
    ap (map (λ (row : ConstraintDef). row.limit (slice_index bounds))) (there_append cs rows more)
    ∙ map-append (λ (row : ConstraintDef). row.limit (slice_index bounds)) (rows_there cs rows) (rows_there cs more)

-- A point of a program with more rows is a point of the program without them.
pub fewer_rows : (set : SetDef) (cs : List ColumnDef) (rows more : List ConstraintDef) (bounds : List ℕ) (s : ℕ) (ys : ℕ → ℕ)
    → IsScaledPoint (program_with set cs (rows ++ more) bounds) s ys → IsScaledPoint (program_with set cs rows bounds) s ys
fewer_rows set cs rows more bounds s ys point = record { positive = point.positive; kept = λ r l. kept r l } where
  whole : ProgramDef
  whole = program_with set cs (rows ++ more) bounds

  part : ProgramDef
  part = program_with set cs rows bounds

  kept : (r : ℕ) → r < height part → sum_below (columns part) (λ c. entry part r c * ys c) ≤ s * limit part r
  kept r l =
      let as_many : length (limits_of cs rows bounds) ≡ length (coefficients_of cs rows) =
      length-map (rows_there cs rows) (λ (row : ConstraintDef). row.limit (slice_index bounds))
      ∙ sym (length-map (rows_there cs rows) (λ (row : ConstraintDef). map row.coefficient cs)) in
      let within : r < height whole =
      rw (coefficients_append cs rows more)
      (omega (arith, l, length-append (coefficients_of cs rows) (coefficients_of cs more))) in
      let row : get_or whole.rows r [] ≡ get_or part.rows r [] =
      ap (λ (xs : List (List ℕ)). get_or xs r []) (coefficients_append cs rows more)
      ∙ get_or_append_left (coefficients_of cs rows) (coefficients_of cs more) [] r l in
      let most : limit whole r ≡ limit part r =
      ap (λ (xs : List ℕ). get_or xs r 0) (limits_append cs rows more bounds)
      ∙ get_or_append_left (limits_of cs rows bounds) (limits_of cs more bounds) 0 r (omega (arith, l, as_many)) in
      let sums : sum_below (columns part) (λ c. entry part r c * ys c) ≡ sum_below (columns whole) (λ c. entry whole r c * ys c) =
      sum_below-agree (columns part) (λ c. entry part r c * ys c) (λ c. entry whole r c * ys c)
      (λ c b. ap (λ (xs : List ℕ). get_or xs c 0 * ys c) (sym row)) in
      let limits : s * limit whole r ≡ s * limit part r = ap (λ z. s * z) most in
      omega (arith, sums, limits, point.kept r within)

-- So what fits with fewer rows fits with more.
pub fitting_with_more : (set : SetDef) (blocks : ℕ → ℕ → ℕ → Class → Bool) (rows more : ℕ → List ConstraintDef) (cost : ℕ → ℕ) (s : List ℕ)
    → AreFitting (source_with set blocks rows cost) s → AreFitting (source_with set blocks (λ i. rows i ++ more i) cost) s
fitting_with_more set blocks rows more cost s fits = record {
  one_each = fits.one_each;
  kept = λ i v l comes. fits.kept i v l (record {
    blocking = comes.blocking;
    reached = record {
      scale = comes.reached.scale;
      point = comes.reached.point;
      is_point = fewer_rows set (columns_by (blocks i) set i) (rows i) (more i) s comes.reached.scale comes.reached.point
          comes.reached.is_point;
      reached = comes.reached.reached;
    };
    response = comes.response;
  });
  within = fits.within;
}
