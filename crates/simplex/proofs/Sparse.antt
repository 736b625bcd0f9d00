-- Rows of nonzero cells, place by place.
use Rattle.std.proofs.Common.{◌≡◌, ◌≢◌, inl, inr, ℕ, ◌<◌, List, Err, refl, arith}
use Rattle.std.proofs.lemmas.Bool.{cases_eq, eq-eqb, ne_eqb}
use Rattle.fraction128.specs.Fraction.{Fraction, IsForm, IsQuotient}
use Rattle.fraction128.specs.Gives.{HasNoForm, IsWideLess}
use Rattle.simplex.specs.Entries.{listed_at}
use Rattle.simplex.specs.Rows.{RowDef, places, cell_at, HasForms, IsSparseRow}
use Rattle.simplex.specs.CellSteps.{AreDivided, DividesAll, TakesAway}
use Rattle.simplex.specs.RowSteps.{IsDividedRow, DividesRow, LeavesRow}
use Rattle.simplex.specs.declared.entries.Entry.{Entry}
use Rattle.simplex.specs.declared.SolveStop.{SolveStop}
use Rattle.simplex.specs.declared.SolveStop.TheVariants.{Memory, Wide, Units}
use Rattle.simplex.proofs.Listed.{form_listed}

-- the cell at the place of the limit
pub cell_limit : (row : RowDef) (v : ℕ) → row.place ≡ v → cell_at row v ≡ row.limit
cell_limit row v here = rw (eq-eqb row.place v here) refl

-- and at any other place
pub cell_listed : (row : RowDef) (v : ℕ) → row.place ≢ v → cell_at row v ≡ listed_at row.entries v
cell_listed row v away = rw (ne_eqb row.place v away) refl

pub forms_of : (row : RowDef) → IsSparseRow row → HasForms row
forms_of row h v = elim (cases_eq row.place v) [
  | inl here ↦ rw (cell_limit row v here) h.limit_form
  | inr away ↦ rw (cell_listed row v away) (form_listed row.entries v h.sparse)
]

pub divided_row : (row : RowDef) (by limit : Fraction) (entries : List Entry) → IsSparseRow row
    → AreDivided row.entries by entries → IsForm limit → IsQuotient row.limit by limit
    → IsDividedRow row by (record { entries = entries; place = row.place; limit = limit })
divided_row row by limit entries h all form is =
    let divided : RowDef = record { entries = entries; place = row.place; limit = limit } in
    record {
      as_many = refl;
      form = forms_of divided (record { sparse = all.sparse; below = all.below row.place h.below; limit_form = form });
      quotient = λ v. elim (cases_eq row.place v) [
        | inl here ↦ rw (cell_limit row v here, cell_limit divided v here) is
        | inr away ↦ rw (cell_listed row v away, cell_listed divided v away) (all.quotient v)
      ];
    }

-- a stop of the list is one of the row
pub divided_stop : (stop : SolveStop) (row : RowDef) (by : Fraction) → IsSparseRow row → DividesAll (Err stop) row.entries by
    → DividesRow (Err stop) row by
divided_stop Memory row by is h = tt
divided_stop Wide row by is h =
    let l : h.0 < row.place = h.1 row.place is.below in
    (h.0, rw (cell_listed row h.0 (λ q. omega arith)) h.2)
divided_stop Units row by is h = h

pub wide_limit : (row : RowDef) (by : Fraction) → HasNoForm (IsQuotient row.limit by) → (u : ℕ) × HasNoForm (IsQuotient (cell_at row u) by)
wide_limit row by h = (row.place, rw (cell_limit row row.place refl) h)

pub left_limit_stop : (row pivot : RowDef) (f : Fraction) → places row ≡ places pivot
    → IsWideLess row.limit f pivot.limit → LeavesRow (Err Wide) row f pivot
left_limit_stop row pivot f even h = (row.place, rw (cell_limit row row.place refl, cell_limit pivot row.place (omega arith)) h)

pub left_stop : (stop : SolveStop) (row pivot : RowDef) (f : Fraction) → places row ≡ places pivot
    → TakesAway (Err stop) row.place row.entries f pivot.entries
    → LeavesRow (Err stop) row f pivot
left_stop Memory row pivot f even h = tt
left_stop Wide row pivot f even h =
    (h.0, rw (cell_listed row h.0 (λ q. omega (arith, h.1)), cell_listed pivot h.0 (λ q. omega (arith, h.1))) h.2)
left_stop Units row pivot f even h = h
