-- An exchange of the rows, as one of the table.
use Rattle.std.proofs.Common.{◌≢◌, inl, inr, ℕ, ◌<◌, ℤ, pos, ◌<ℤ◌, List, set, Err, ◌∙◌, arith, get_or-set_same}
use Rattle.std.proofs.Common.{get_or-set_other, length-set}
use Rattle.std.proofs.lemmas.Bool.{cases_eq}
use Rattle.std.proofs.lemmas.Int.{ints}
use Rattle.exchange_runs.specs.Table.{Table}
use Rattle.program_form.specs.Program.{ProgramDef, height}
use Rattle.exchange_runs.specs.Exchange.{IsEntering, HasRatio, IsLeaving, IsExchange}
use Rattle.simplex.specs.Rows.{RowDef}
use Rattle.simplex.specs.Tables.{table_of, HasSize}
use Rattle.simplex.specs.Exchanges.{AreExchanged, ExchangesIn, Steps}
use Rattle.simplex.specs.declared.SolveStop.{SolveStop}
use Rattle.simplex.specs.declared.SolveStop.TheVariants.{Memory, Wide, Units}

pub step_stop : (stop : SolveStop) (p : ProgramDef) (e r : ℕ) (rows : List RowDef) (basis : List ℕ) (rows' : List RowDef) (basis' : List ℕ)
    → HasSize p rows basis → IsLeaving p (table_of rows basis) e r → ExchangesIn (Err stop) rows rows' e r
    → Steps (Err stop) p e rows basis rows' basis'
step_stop Memory p e r rows basis rows' basis' size leaves h = tt
step_stop Wide p e r rows basis rows' basis' size leaves h = inr (r, leaves, h (height p) basis size.row_each)
step_stop Units p e r rows basis rows' basis' size leaves h = h

pub step_done : (p : ProgramDef) (e r : ℕ) (rows rows' : List RowDef) (basis : List ℕ) → HasSize p rows basis
    → IsEntering p (table_of rows basis) e
    → IsLeaving p (table_of rows basis) e r → AreExchanged rows rows' e r
    → (HasSize p rows' (set basis r e)) × ((k : ℕ) × IsExchange p (table_of rows basis) (table_of rows' (set basis r e)) e k)
step_done p e r rows rows' basis size enters leaves h =
    let within : r < height p = leaves.least.within in (
      record {
        row_each = h.as_many ∙ size.row_each;
        basic_each = length-set basis r e ∙ size.basic_each;
        fits = λ i l. elim (cases_eq i r) [
          | inl here ↦ rw here (h.divided.as_many ∙ size.fits r (omega arith))
          | inr other ↦ (h.taken i (omega (arith, size.row_each)) other).as_many ∙ size.fits i l
        ];
      },
      (
        r,
        record {
          enters = enters;
          leaves = leaves;
          divided_form = h.divided.form;
          divided = h.divided.quotient;
          taken = λ i v l other. (h.taken i (omega (arith, size.row_each)) other).each v;
          entered = get_or-set_same basis r e 0 (omega (arith, size.basic_each));
          stayed = λ i l other. get_or-set_other basis r i e 0 other;
        },
      ),
    )

-- the cell of the leaving row at the entering variable isn't zero
pub pivot_apart : (t : Table) (e r : ℕ) → HasRatio t e r → (t.cell r e).num ≢ pos 0
pivot_apart t e r has = apart (t.cell r e).num has.above
  where
    apart : (z : ℤ) → pos 0 <ℤ z → z ≢ pos 0
    apart z h q = omega (arith, ints)
