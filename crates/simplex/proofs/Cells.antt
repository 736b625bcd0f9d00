-- Fractions and rows of lists: what an index reads, and what is true of one element more.
use Rattle.std.proofs.Common.{◌≡◌, ℕ, ◌<◌, List, length, slice_index_or, Result, Ok, Err, inr, sym}
use Rattle.std.proofs.lemmas.List.{get_or_read, get_or_default}
use Rattle.fraction128.specs.Fraction.{Fraction, IsForm, IsProduct, IsDifference}
use Rattle.fraction128.specs.Gives.{Gives}
use Rattle.fraction128.specs.declared.Wide.{Wide}
use Rattle.simplex.specs.CellSteps.{TakesCell}
use Rattle.simplex.specs.Rows.{RowDef, no_row}
use Rattle.simplex.specs.Tables.{row_of}

-- what an index reads
pub row_read : (rows : List RowDef) (i : ℕ) (row : RowDef) → i < length rows → row ≡ slice_index_or rows i row → row_of rows i ≡ row
row_read rows i row l is = sym (get_or_read rows i row l is no_row)

pub row_same : (rows : List RowDef) (i : ℕ) (x : RowDef) → i < length rows → row_of rows i ≡ slice_index_or rows i x
row_same rows i x l = get_or_default rows i no_row x l

-- what is left if a product that has a form is subtracted
pub takes_less : (r : Result Fraction Wide) (a f y product : Fraction) → IsForm product → IsProduct f y product
    → Gives r (IsDifference a product) → TakesCell r a f y
takes_less (Ok b) a f y product form is h =
    record { product = product; product_form = form; is_product = is; form = h.0; is_difference = h.1 }
takes_less (Err w) a f y product form is h = inr (product, form, is, h)
