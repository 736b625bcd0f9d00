-- The parts of an exchange together: rows, stands and marks after it.
use Rattle.std.proofs.Common.{◌≡◌, inl, inr, ℕ, ◌<◌, List, length, set, pos, ◌<ℤ◌, sym, ◌∙◌, arith}
use Rattle.std.specs.declared.option.Option.{Option}
use Rattle.program_form.specs.Program.{ProgramDef, columns}
use Rattle.exchange_runs.specs.Exchange.{IsEntering, IsLeavingOver, IsExchangeOver}
use Rattle.exchange_runs.specs.SmallRuns.{IsSmall}
use Rattle.whole_rows.specs.Marks.{HasRow, IsMarked, AreKept}
use Rattle.whole_rows.specs.declared.marks.RowMarks.{RowMarks}
use Rattle.whole_rows.specs.Rows.{RowDef, PivotDef, entry_at, IsPivotOf}
use Rattle.whole_runs.specs.States.{row_at, cell_seen, stand_at, table_seen, HasSize, AreStands}
use Rattle.whole_runs.specs.Columns.{num_seen, AreMarked}
use Rattle.whole_runs.specs.Exchanges.{AreSmallRows, AreExchanged}
use Rattle.whole_runs.specs.Takings.{AreJoined, ExchangesRows}
use Rattle.whole_runs.specs.declared.stands.Stand.{Stand}
use Rattle.whole_runs.specs.declared.stands.Stand.TheVariants.{Outside}
use Rattle.whole_runs.proofs.Standing.{stands_after, stands_exchanged}
use Rattle.whole_runs.proofs.Exchanging.{begun, cell_read, exchange_seen, size_exchanged}
use Rattle.whole_runs.proofs.Marking.{num_of_cell, marked_after}
use Rattle.whole_runs.proofs.Smalls.{small_zero, small_one}
use Rattle.whole_runs.proofs.Taking.{listed_cases, unlisted_zero}

-- the number of the leaving row at the entering place
pub pivot_above : (p : ProgramDef) (rows : List (Option RowDef)) (basis : List ℕ) (stands : List Stand) (e k r : ℕ)
    → IsEntering p (table_seen p rows basis stands) e → stand_at stands e ≡ Outside k
    → IsLeavingOver IsSmall p (table_seen p rows basis stands) e r → pos 0 <ℤ num_seen p (row_at rows r) r k
pivot_above p rows basis stands e k r enters place leaves =
    rw (← num_of_cell p (row_at rows r) r k, ← cell_read p rows stands r e (Outside k) enters.within place) leaves.least.has.above

-- The pivot has as many places as there are columns.
pub pivot_places : (p : ProgramDef) (before after : List (Option RowDef)) (k r : ℕ) (pivot : PivotDef)
    → ExchangesRows p before after k r pivot → (m : ℕ) → m < length pivot.entries → (entry_at pivot.entries m).place < columns p
pivot_places p before after k r pivot h m lm =
    omega (arith, h.1.below m lm, h.0.here.as_many)

pub joined_of : (before after : RowMarks) (pivot : PivotDef) (divided : RowDef) (k : ℕ) → IsPivotOf pivot divided → AreKept before after
    → ((m i : ℕ) → m < length pivot.entries → HasRow before i → IsMarked before k i → IsMarked after (entry_at pivot.entries m).place i)
    → AreJoined before after divided k
joined_of before after pivot divided k is kept joined = record {
  kept = kept;
  joined = λ j i some has marked. elim (listed_cases pivot.entries j) [
    | inl listed ↦ rw (← listed.2) (joined listed.0 i listed.1 has marked)
    | inr none ↦ absurd (some (sym (is.each j) ∙ unlisted_zero pivot.entries j none))
  ];
}

pub step_done : (p : ProgramDef) (rows rows' : List (Option RowDef)) (basis : List ℕ) (stands : List Stand) (e k r : ℕ)
    → HasSize p rows basis stands → AreStands p basis stands → AreSmallRows p rows
    → IsEntering p (table_seen p rows basis stands) e → stand_at stands e ≡ Outside k
    → IsLeavingOver IsSmall p (table_seen p rows basis stands) e r → AreExchanged p rows rows' k r
    → (HasSize p rows' (set basis r e) (stands_after basis stands e k r)) × (AreStands p (set basis r e) (stands_after basis stands e k r))
    × ((s : ℕ) × IsExchangeOver IsSmall p (table_seen p rows basis stands)
    (table_seen p rows' (set basis r e) (stands_after basis stands e k r)) e s)
step_done p rows rows' basis stands e k r size are small enters place leaves h =
    let at = begun IsSmall p rows basis stands e k r size are enters place leaves in (
      size_exchanged IsSmall p rows rows' basis stands e k r size h,
      stands_exchanged p basis stands e k r at,
      (r, exchange_seen IsSmall small_zero small_one p rows rows' basis stands e k r size.row_each small at enters leaves h),
    )

pub step_marked : (p : ProgramDef) (rows rows' : List (Option RowDef)) (basis : List ℕ) (stands : List Stand) (marks marks' : RowMarks)
    (pivot : PivotDef) (e k r : ℕ)
    → HasSize p rows basis stands → AreStands p basis stands → AreSmallRows p rows
    → IsEntering p (table_seen p rows basis stands) e → stand_at stands e ≡ Outside k
    → IsLeavingOver IsSmall p (table_seen p rows basis stands) e r → ExchangesRows p rows rows' k r pivot
    → AreMarked p rows marks → AreKept marks marks'
    → ((m i : ℕ) → m < length pivot.entries → HasRow marks i → IsMarked marks k i → IsMarked marks' (entry_at pivot.entries m).place i)
    → AreMarked p rows' marks'
step_marked p rows rows' basis stands marks marks' pivot e k r size are small enters place leaves h marked kept joined =
    let above : pos 0 <ℤ (cell_seen p (row_at rows r) r k).num
    = rw (num_of_cell p (row_at rows r) r k) (pivot_above p rows basis stands e k r enters place leaves) in
    marked_after p rows rows' marks marks' k r marked small h.0 (joined_of marks marks' pivot h.0.row k h.1 kept joined)
    (are.place e k enters.within place) (omega (arith, leaves.least.within, size.row_each)) above
