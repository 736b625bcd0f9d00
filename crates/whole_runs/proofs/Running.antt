-- A run over whole numbers, as one of the program.
use Rattle.std.proofs.Common.{◌≡◌, inl, inr, ℕ, ◌+◌, ◌<◌, List, Result, Ok, Err, arith}
use Rattle.std.specs.declared.option.Option.{Option}
use Rattle.std.proofs.lemmas.Bool.{cases_lt}
use Rattle.program_form.specs.Program.{ProgramDef, IsProgram, height}
use Rattle.exchange_runs.specs.Table.{Table}
use Rattle.exchange_runs.specs.Exchange.{IsEntering, IsLast}
use Rattle.exchange_runs.specs.Outcomes.{NeedsMoreThan}
use Rattle.exchange_runs.specs.SmallRuns.{SmallReached, IsLowestTable}
use Rattle.exchange_runs.proofs.SmallRuns.{small_run, entering_lowest, last_lowest}
use Rattle.whole_rows.specs.Rows.{RowDef}
use Rattle.whole_runs.specs.States.{table_seen, HasSize, AreStands}
use Rattle.whole_runs.specs.Exchanges.{AreSmallRows}
use Rattle.whole_runs.specs.Starts.{AreFirstRows}
use Rattle.whole_runs.specs.Stepping.{table_of, IsTableau, Steps}
use Rattle.whole_runs.specs.Ends.{Runs, Finishes}
use Rattle.whole_runs.specs.declared.Ended.{Ended}
use Rattle.whole_runs.specs.declared.stands.Stand.{Stand}
use Rattle.whole_runs.specs.declared.tableau.Tableau.{Tableau}
use Rattle.whole_runs.specs.declared.stops.Halt.{Halt}
use Rattle.whole_runs.specs.declared.stops.Halt.TheVariants.{Memory, Large, Units}
use Rattle.whole_runs.proofs.Smalls.{small_zero, small_whole}

-- The numbers of a program are small.
pub first_small : (p : ProgramDef) (rows : List (Option RowDef)) → IsProgram p → AreFirstRows p rows → AreSmallRows p rows
first_small p rows accepted h = record {
  cells = λ i k l. elim (cases_lt i (height p)) [
    | inl row ↦ rw (h.untouched i row) (small_whole _ (omega (arith, accepted.small.entries i k)))
    | inr behind ↦
        let last : i ≡ height p = omega (arith, l, h.row_each) in
        rw (last, h.last, h.costs.cells k) (small_whole _ (omega (arith, accepted.small.costs k)))
  ];
  limits = λ i l. elim (cases_lt i (height p)) [
    | inl row ↦ rw (h.untouched i row) (small_whole _ (omega (arith, accepted.small.limits i)))
    | inr behind ↦
        let last : i ≡ height p = omega (arith, l, h.row_each) in
        rw (last, h.last, h.costs.limit) small_zero
  ];
}

-- an exchange begins where all units are spent
pub needs_more : (p : ProgramDef) (units k e : ℕ) (w : Table) → IsProgram p → k + 1 ≡ units → SmallReached p k w → IsEntering p w e
    → NeedsMoreThan p units
needs_more p units k e w accepted spent reached enters =
    let run = small_run p k w accepted reached in
    inr (k, run.0, e, spent, run.2, entering_lowest p w run.0 e run.1 enters)

-- the end of the run
pub finished : (r : Result Ended Halt) (p : ProgramDef) (units k : ℕ) (rows : List (Option RowDef)) (basis : List ℕ) (stands : List Stand)
    → IsProgram p → k < units → HasSize p rows basis stands → AreStands p basis stands
    → SmallReached p k (table_seen p rows basis stands) → IsLast p (table_seen p rows basis stands)
    → ((t : Table) → IsLowestTable p (table_seen p rows basis stands) t → Finishes r p t k) → Runs r p units
finished (Ok e) p units k rows basis stands accepted l size fit reached last h =
    let w : Table = table_seen p rows basis stands in
    let run = small_run p k w accepted reached in
    let read = h run.0 run.1 in
    rw read.0 (record {
      table = run.0;
      run = record { reached = run.2; last = last_lowest p w run.0 run.1 last };
      within = l;
      read_off = read.1;
    })
finished (Err Memory) p units k rows basis stands accepted l size fit reached last h = tt
finished (Err Large) p units k rows basis stands accepted l size fit reached last h =
    let run = small_run p k (table_seen p rows basis stands) accepted reached in
    record {
      exchanges = k;
      rows = rows;
      basis = basis;
      stands = stands;
      size = size;
      fit = fit;
      reached = reached;
      large = inr (l, (last, (run.0, run.1, h run.0 run.1)));
    }
finished (Err Units) p units k rows basis stands accepted l size fit reached last h =
    let run = small_run p k (table_seen p rows basis stands) accepted reached in
    absurd (h run.0 run.1)

-- an exchange that isn't made
pub stopped : (halt : Halt) (p : ProgramDef) (units k e : ℕ) (before after : Tableau) → k + 1 < units → IsTableau p before
    → SmallReached p k (table_of p before) → Steps (Err halt) p e before after → Runs (Err halt) p units
stopped Memory p units k e before after l is reached h = tt
stopped Large p units k e before after l is reached h = record {
  exchanges = k;
  rows = before.rows.items;
  basis = before.basis.items;
  stands = before.stands.items;
  size = is.size;
  fit = is.stands;
  reached = reached;
  large = inl (l, h);
}
stopped Units p units k e before after l is reached h = absurd h
