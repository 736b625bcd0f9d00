-- The answer at the last table, as one of the run.
use Rattle.std.proofs.Common.{◌≡◌, ℕ, ◌+◌, ◌<◌, ◌≤◌, length, Result, Ok, Err, IfOk, subst, arith}
use Rattle.program_form.specs.Program.{ProgramDef, columns, height}
use Rattle.program_form.specs.Certificate.{dual_seen}
use Rattle.exchange_runs.specs.Exchange.{IsLast}
use Rattle.exchange_runs.specs.Table.{Table}
use Rattle.free_search.specs.Ends.{IsReadFrom, FinishesAt, Searches}
use Rattle.free_search.specs.Tables.{IsAfter, table_with}
use Rattle.free_search.specs.declared.found.Found.{Found}
use Rattle.free_search.specs.declared.found.SearchStop.{SearchStop}
use Rattle.free_search.specs.declared.found.SearchStop.TheVariants.{Memory, Units, Lost}
use Rattle.free_search.specs.declared.tableau.Tableau.{Tableau}
use Rattle.free_search.proofs.Ends.{found_is_rounded}

pub finished : (r : Result Found SearchStop) (p : ProgramDef) (n units used : ℕ) (t : Tableau) (h : IsAfter p n t) → used ≡ n + 1
    → used ≤ units → IsLast p (table_with p t h.stands) → FinishesAt r p (table_with p t h.stands) used → Searches r p units
finished (Ok found) p n units used t h same within last read = (
  record {
    exchanges = n;
    table = table_with p t h.stands;
    end = record { reached = h.reached; last = last };
    read = subst (λ (taken : ℕ). IsReadFrom p (table_with p t h.stands) taken found) same read;
  },
  omega (arith, read.used, within),
)
finished (Err Memory) p n units used t h same within last read = tt
finished (Err Units) p n units used t h same within last read = absurd read
finished (Err Lost) p n units used t h same within last read =
    (n, table_with p t h.stands, omega (arith, same, within), record { reached = h.reached; last = last }, read)

pub finished_used : (r : Result Found SearchStop) (p : ProgramDef) (t : Table) (used : ℕ) → FinishesAt r p t used
    → IfOk r (λ f. f.used ≡ used)
finished_used (Ok found) p t used read = read.used
finished_used (Err stop) p t used read = tt

-- What is found has a number for each column and each row, over denominators that aren't zero.
module _ (p : ProgramDef) (units : ℕ) where
  pub found_columns : (r : Result Found SearchStop) → Searches r p units → IfOk r (λ f. length f.num.items ≡ columns p)
  found_columns (Ok found) h = h.0.read.point.value_each
  found_columns (Err stop) h = tt

  pub found_den : (r : Result Found SearchStop) → Searches r p units → IfOk r (λ f. 0 < f.den)
  found_den (Ok found) h = h.0.read.point.positive
  found_den (Err stop) h = tt

  pub found_rows : (r : Result Found SearchStop) → Searches r p units → IfOk r (λ f. length f.dual.num.items ≡ height p)
  found_rows (Ok found) h = (found_is_rounded p h.0.table (dual_seen found.dual) h.0.read.dual).number_each
  found_rows (Err stop) h = tt

  pub found_dual_den : (r : Result Found SearchStop) → Searches r p units → IfOk r (λ f. 0 < f.dual.den)
  found_dual_den (Ok found) h =
      let dual = found_is_rounded p h.0.table (dual_seen found.dual) h.0.read.dual in omega (arith, dual.positive)
  found_dual_den (Err stop) h = tt

  pub found_within : (r : Result Found SearchStop) → Searches r p units → IfOk r (λ f. f.used ≤ units)
  found_within (Ok found) h = h.1
  found_within (Err stop) h = tt
