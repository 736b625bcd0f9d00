-- The choice of the place and of the row, said of the table of the run.
use Rattle.std.proofs.Common.{◌≡◌, ℕ, ◌<◌, ◌≤◌, List, length, slice_index, ℤ, pos, ◌≤ℤ◌, ◌<ℤ◌}
use Rattle.std.proofs.Common.{sym, ap, ◌∙◌, arith}
use Rattle.std.specs.Prelude.{Some, None}
use lib.Signed.{clash_ℤ}
use Rattle.fraction128.specs.Fraction.{Fraction, over}
use Rattle.number_laws.proofs.Ring.{mul-assoc}
use Rattle.program_form.specs.Program.{ProgramDef, height, columns}
use Rattle.exchange_runs.specs.Table.{variables}
use Rattle.exchange_runs.specs.Exchange.{IsEntering, IsLast, HasRatio, IsRatioOver, IsLeavingOver}
use Rattle.exchange_runs.specs.Unbounded.{IsFraction, FreelyReached}
use Rattle.exchange_runs.proofs.Shadows.{IsShadow, shadow_over}
use Rattle.exchange_runs.proofs.Shown.{at_least_zero_shown}
use Rattle.exchange_runs.proofs.FreeRuns.{are_fractions}
use Rattle.whole_rows.specs.Rows.{num_at, cell_at, limit_of}
use Rattle.whole_rows.specs.Numbers.{number_at}
use Rattle.whole_runs.specs.States.{stand_at, row_at as seen_at, stand_cell, limit_seen}
use Rattle.whole_runs.specs.Choice.{AreNoneAbove, IsFirstAbove}
use Rattle.whole_runs.specs.declared.stands.Stand.{Stand}
use Rattle.whole_runs.specs.declared.stands.Stand.TheVariants.{Outside}
use Rattle.whole_runs.proofs.Choosing.{first_enters}
use Rattle.whole_runs.proofs.Exchanging.{cell_read}
use Rattle.whole_runs.proofs.Seen.{cell_of_limit}
use Rattle.free_search.specs.Choice.{EntersAt, LeavesAmong, IsLeastPlace, IsLeastRow, HaveLimits}
use Rattle.free_search.specs.Tables.{row_at, rows_seen, AreStandsOf, table_with}
use Rattle.free_search.specs.declared.tableau.Tableau.{Tableau}
use Rattle.free_search.proofs.LeastPlaces.{not_above}
use Rattle.free_search.proofs.SeenRows.{row_seen, objective_seen, length_seen}

module _ (p : ProgramDef) (tableau : Tableau) (stands : List Stand) where
  -- the table has a row for each row of the program
  pub rows_are : AreStandsOf p tableau stands → length tableau.rows.items ≡ height p
  rows_are h = omega (arith, h.size.row_each, length_seen tableau.rows.items tableau.objective)

  pub objective_at : AreStandsOf p tableau stands
      → seen_at (rows_seen tableau.rows.items tableau.objective) (height p) ≡ Some tableau.objective
  objective_at h = rw (← rows_are h) (objective_seen tableau.rows.items tableau.objective)

  pub objective_places : AreStandsOf p tableau stands → length tableau.objective.nums ≡ columns p
  objective_places h = rw (objective_at h) at (h.size.places (height p) (omega arith))

  pub row_within : (i : ℕ) → AreStandsOf p tableau stands → i < height p
      → seen_at (rows_seen tableau.rows.items tableau.objective) i ≡ Some (row_at tableau.rows.items i)
  row_within i h l = row_seen tableau.rows.items tableau.objective i (omega (arith, rows_are h))

  -- the cell of row i for a variable outside the basis, and its limit
  outside_cell : (i e k : ℕ) → AreStandsOf p tableau stands → i < height p → e < variables p → stand_at stands e ≡ Outside k
      → (table_with p tableau stands).cell i e ≡ cell_at (row_at tableau.rows.items i) k
  outside_cell i e k h li le at =
      cell_read p (rows_seen tableau.rows.items tableau.objective) stands i e (Outside k) le at
      ∙ ap (λ row. stand_cell p row i (Outside k)) (row_within i h li)

  limit_cell : (i : ℕ) → AreStandsOf p tableau stands → i < height p
      → (table_with p tableau stands).cell i (variables p) ≡ limit_of (row_at tableau.rows.items i)
  limit_cell i h l =
      cell_of_limit p (rows_seen tableau.rows.items tableau.objective) stands i ∙ ap (λ row. limit_seen p row i) (row_within i h l)

  -- no objective number of a variable outside the basis, and before `end`, is above zero
  none_before : (end : ℕ) → AreStandsOf p tableau stands → end ≤ variables p
      → ((j : ℕ) → j < length tableau.objective.nums → slice_index tableau.outside.items j < end
      → number_at tableau.objective.nums j ≤ℤ pos 0)
      → AreNoneAbove tableau.objective stands end
  none_before end h within none v k l at =
      let place : k < columns p = h.are.place v k (omega arith) at in
      let own : slice_index tableau.outside.items k ≡ v = h.placed.each v k (omega arith) at in
      none k (omega (arith, objective_places h)) (omega (arith, own))

  -- The variable of the least place enters.
  pub enters_seen : (k : ℕ) → AreStandsOf p tableau stands → IsLeastPlace tableau.objective.nums tableau.outside.items k
      → (stand_at stands (slice_index tableau.outside.items k) ≡ Outside k)
      × IsEntering p (table_with p tableau stands) (slice_index tableau.outside.items k)
  enters_seen k h is =
      let e = slice_index tableau.outside.items k in
      let full = h.full k (omega (arith, is.within, objective_places h)) in
      let none : AreNoneAbove tableau.objective stands e = none_before e h (omega (arith, full.0))
      (λ j l before. not_above _ (λ above. absurd (omega (arith, is.least j l above)))) in
      let first : IsFirstAbove (Some (e, k)) tableau.objective stands =
      (omega (arith, full.0, h.size.stand_each), full.1, is.above, none) in
      let enters = first_enters p (rows_seen tableau.rows.items tableau.objective) tableau.basis.items tableau.basis.items stands
      tableau.objective h.size.stand_each h.are (objective_at h) (Some (e, k)) first in
      (full.1, enters.0)

  -- No variable enters.
  pub last_seen : AreStandsOf p tableau stands → EntersAt None tableau.objective.nums tableau.outside.items
      → IsLast p (table_with p tableau stands)
  last_seen h none =
      let first : IsFirstAbove None tableau.objective stands = none_before (length stands) h (omega (arith, h.size.stand_each))
      (λ j l before. none j l) in
      first_enters p (rows_seen tableau.rows.items tableau.objective) tableau.basis.items tableau.basis.items stands
      tableau.objective h.size.stand_each h.are (objective_at h) None first

  -- the limit of a row over its number, since both have one denominator
  ratio_seen : (e k i : ℕ) → AreStandsOf p tableau stands → e < variables p → stand_at stands e ≡ Outside k → i < height p
      → pos 0 <ℤ num_at (row_at tableau.rows.items i) k
      → IsRatioOver IsFraction (variables p) (table_with p tableau stands) e i
      (over (row_at tableau.rows.items i).limit (num_at (row_at tableau.rows.items i) k))
  ratio_seen e k i h le at li above =
      let row = row_at tableau.rows.items i in
      record {
        form = record { positive = above };
        quotient = rw (limit_cell i h li, outside_cell i e k h li le at)
            (record { same = sym (mul-assoc row.limit row.den (num_at row k)) });
      }

  -- the number of a row that has a ratio
  number_seen : (e k i : ℕ) → AreStandsOf p tableau stands → e < variables p → stand_at stands e ≡ Outside k → i < height p
      → ((table_with p tableau stands).cell i e).num ≡ num_at (row_at tableau.rows.items i) k
  number_seen e k i h le at li = ap (λ (f : Fraction). f.num) (outside_cell i e k h li le at)

  -- The variable of the least row leaves.
  pub leaves_seen : (e k r : ℕ) → AreStandsOf p tableau stands → e < variables p → stand_at stands e ≡ Outside k
      → IsLeastRow (length tableau.rows.items) tableau.rows.items tableau.basis.items k r
      → IsLeavingOver IsFraction p (table_with p tableau stands) e r
  leaves_seen e k r h le at is =
      let within : r < height p = omega (arith, is.within, rows_are h) in
      record {
        ratio = over (row_at tableau.rows.items r).limit (num_at (row_at tableau.rows.items r) k);
        least = record {
          within = within;
          has = record { above = rw (number_seen e k r h le at within) is.above };
          ratio = ratio_seen e k r h le at within is.above;
          least = λ i l has.
              let inside : i < length tableau.rows.items = omega (arith, rows_are h) in
              let above : pos 0 <ℤ num_at (row_at tableau.rows.items i) k = rw (number_seen e k i h le at l) at has.above in (
                over (row_at tableau.rows.items i).limit (num_at (row_at tableau.rows.items i) k),
                ratio_seen e k i h le at l above,
                record { le = is.least i inside above },
                λ back. is.tie i inside above back.le,
              );
        };
      }

  -- No row has a ratio.
  pub none_leaves_seen : (e k : ℕ) → AreStandsOf p tableau stands → e < variables p → stand_at stands e ≡ Outside k
      → LeavesAmong None (length tableau.rows.items) tableau.rows.items tableau.basis.items k
      → (i : ℕ) → i < height p → HasRatio (table_with p tableau stands) e i → ⊥
  none_leaves_seen e k h le at none i l has =
      clash_ℤ (rw (number_seen e k i h le at l) at has.above) (none i (omega (arith, rows_are h)))

-- No limit is below zero.
pub limits_not_below : (p : ProgramDef) (k : ℕ) (tableau : Tableau) (stands : List Stand) → AreStandsOf p tableau stands
    → FreelyReached p k (table_with p tableau stands) → HaveLimits tableau.rows.items
limits_not_below p k tableau stands h reached i l =
    let behind : (d : ℤ) × (z : ℕ → ℕ → ℤ) × IsShadow p (table_with p tableau stands) d z
    = shadow_over IsFraction p k (table_with p tableau stands) are_fractions reached in
    let inside : i < height p = omega (arith, rows_are p tableau stands h) in
    let at_least : pos 0 ≤ℤ ((table_with p tableau stands).cell i (variables p)).num
    = at_least_zero_shown behind.0 (behind.1 i (variables p)) _ behind.2.positive (behind.2.shows i (variables p) (omega arith))
    (behind.2.limits i inside) in
    rw (ap (λ (f : Fraction). f.num) (limit_cell p tableau stands i h inside)) at at_least
