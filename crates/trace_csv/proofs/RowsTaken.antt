-- One more line of a file of rows.
use Rattle.std.proofs.Common.{◌≡◌, ◌<◌, ◌≤◌, ◌+◌, ◌++◌, ◌==◌, ◌⊎◌, ℕ, Bool, true, List, [], ◌∷◌, length, Some, Result, Ok, Err}
use Rattle.std.proofs.Common.{refl, sym, ap, ◌∙◌, subst, arith, inl, inr, ⊎_elim}
use Rattle.std.specs.List.{list_all}
use Rattle.std.specs.Int.{is_in_range}
use Rattle.std.proofs.lemmas.Bool.{cases_Bool, eqb-true, and_from}
use Rattle.std.proofs.lemmas.List.{map-append}
use Rattle.std.proofs.lemmas.List.Folds.{list_all-append}
use Rattle.std.proofs.lemmas.List.Sums.{sum_by_push}
use Rattle.sporadic_model.specs.declared.limits.TheConstants.{MOST_TICKS}
use Rattle.schedule_model.specs.JobDef.{JobsDef}
use Rattle.schedule_model.specs.RowDef.{RunDef, ticks_of}
use Rattle.schedule_model.specs.Fitting.{RowsDef, IsRowList, is_sized, names_jobs}
use Rattle.trace_csv.specs.Records.{Fields}
use Rattle.trace_csv.specs.declared.refusal.RowsRefusal.{RowsRefusal}
use Rattle.trace_csv.specs.declared.refusal.RowsRefusal.TheVariants as refusal
use Rattle.trace_csv.specs.RowLines.{run_written, runs_written, line_refusal, processor_count, resource_count, job_count}
use Rattle.trace_csv.specs.LinesTaken.{IsFirst, LineDone}
use Rattle.trace_csv.specs.RowsFile.{IsFirstRefused, LinesRead, rows_with}
use Rattle.trace_csv.specs.RowAnswers.{IsRunOf, LineTaken, LineCounted, row_reason, HasRows, HasTicks}

-- A line of more fields than the ticks, the processors and the resources is refused for its fields.
pub long_refused : (jobs : JobsDef) (before : List RunDef) (line : Fields) (k : ℕ)
    → 1 + (processor_count jobs + resource_count jobs) < length line
    → line_refusal jobs before line k ≡ Some (refusal.Fields k)
long_refused jobs before [] k more = absurd (omega arith)
long_refused jobs before (ticks ∷ cells) k more = elim (cases_Bool (length cells == processor_count jobs + resource_count jobs)) [
  | inl same ↦ absurd (omega (arith, eqb-true (length cells) (processor_count jobs + resource_count jobs) same))
  | inr other ↦ rw other refl
]

-- The runs of the lines with one more.
runs_with : (jobs : JobsDef) (before : List Fields) (line : Fields)
    → runs_written jobs before ++ run_written jobs line ∷ [] ≡ runs_written jobs (before ++ line ∷ [])
runs_with jobs before line = sym (map-append (run_written jobs) before (line ∷ []))

-- What is said of a line after the rows in the list is said of it after the lines that wrote them.
module _ (jobs : JobsDef) (before : List Fields) (line : Fields) (k : ℕ) (old new : RowsDef) (has : HasRows jobs before old) where
  refused : (r : RowsRefusal) → line_refusal jobs old.runs line k ≡ Some r → row_reason jobs before line k ≡ Some r
  refused r due = ap (λ (d : RowsDef). line_refusal jobs d.runs line k) (sym has) ∙ due

  pub row_done : (r : Result (Unit {0}) RowsRefusal) → LineTaken r jobs old new line k
      → LineDone (row_reason jobs) (λ e. e ≡ refusal.Memory) (HasRows jobs) before line k new r
  row_done (Ok u) taken = (
    ap (λ (d : RowsDef). line_refusal jobs d.runs line k) (sym has) ∙ taken.0,
    taken.1 ∙ ap (λ (d : RowsDef). rows_with jobs (d.runs ++ run_written jobs line ∷ [])) has
        ∙ ap (λ (runs : List RunDef). rows_with jobs runs) (runs_with jobs before line),
  )
  row_done (Err (refusal.Fields n)) taken = inr (refused (refusal.Fields n) taken)
  row_done (Err (refusal.Number n)) taken = inr (refused (refusal.Number n) taken)
  row_done (Err (refusal.UnknownJob n)) taken = inr (refused (refusal.UnknownJob n) taken)
  row_done (Err (refusal.TooLong n)) taken = inr (refused (refusal.TooLong n) taken)
  row_done (Err refusal.Memory) taken = inl refl

-- A list of rows with one more run for the jobs.
all_more : (p : RunDef → Bool) (runs : List RunDef) (run : RunDef) → list_all p runs ≡ true → p run ≡ true
    → list_all p (runs ++ run ∷ []) ≡ true
all_more p runs run all one = list_all-append p runs (run ∷ []) ∙ and_from (list_all p runs) (list_all p (run ∷ [])) all (rw one refl)

list_more : (jobs : JobsDef) (runs : List RunDef) (run : RunDef) → IsRowList (rows_with jobs runs) → IsRunOf jobs run
    → ticks_of runs + run.ticks ≤ MOST_TICKS → IsRowList (rows_with jobs (runs ++ run ∷ []))
list_more jobs runs run list one most = record {
  sized = all_more (λ (x : RunDef). is_sized (processor_count jobs) (resource_count jobs) x.row) runs run list.sized one.sized;
  named = all_more (λ (x : RunDef). names_jobs (job_count jobs) x.row) runs run list.named one.named;
  lasting = all_more (λ (x : RunDef). is_in_range 1 MOST_TICKS x.ticks) runs run list.lasting one.ticks;
  most = omega (arith, most, sum_by_push (λ (x : RunDef). x.ticks) runs run);
}

-- The same of a line whose ticks are counted.
pub ticks_done : (jobs : JobsDef) (before : List Fields) (line : Fields) (k old new : ℕ) (r : Result (Unit {0}) RowsRefusal)
    → HasTicks jobs before old → LineCounted r jobs (runs_written jobs before) new line k
    → LineDone (row_reason jobs) (λ e. e ≡ refusal.Memory) (HasTicks jobs) before line k new r
ticks_done jobs before line k old new (Ok u) has counted =
    let more : ticks_of (runs_written jobs before) + (run_written jobs line).ticks ≤ MOST_TICKS =
    omega (arith, counted.2, counted.3) in (
      counted.0,
      record {
        listed = subst (λ (runs : List RunDef). IsRowList (rows_with jobs runs)) (runs_with jobs before line)
            (list_more jobs (runs_written jobs before) (run_written jobs line) has.listed counted.1 more);
        counted = counted.2 ∙ sym (sum_by_push (λ (x : RunDef). x.ticks) (runs_written jobs before) (run_written jobs line))
            ∙ ap ticks_of (runs_with jobs before line);
      },
    )
ticks_done jobs before line k old new (Err (refusal.Fields n)) has counted = inr counted
ticks_done jobs before line k old new (Err (refusal.Number n)) has counted = inr counted
ticks_done jobs before line k old new (Err (refusal.UnknownJob n)) has counted = inr counted
ticks_done jobs before line k old new (Err (refusal.TooLong n)) has counted = inr counted
ticks_done jobs before line k old new (Err refusal.Memory) has counted = inl refl

-- What is said of all lines.
module _ (jobs : JobsDef) (lines : List Fields) where
  first : (i : ℕ) (r : RowsRefusal) → IsFirst (row_reason jobs) lines i r → IsFirstRefused jobs lines i r
  first i r f = record { within = f.within; earlier = f.earlier; here = f.here }

  said : (r : RowsRefusal) → (i : ℕ) × IsFirstRefused jobs lines i r → LinesRead (Err r) jobs lines
  said (refusal.Fields k) f = f
  said (refusal.Number k) f = f
  said (refusal.UnknownJob k) f = f
  said (refusal.TooLong k) f = f
  said refusal.Memory f = tt

  pub rows_refused : (r : RowsRefusal) → (r ≡ refusal.Memory) ⊎ ((i : ℕ) × IsFirst (row_reason jobs) lines i r)
      → LinesRead (Err r) jobs lines
  rows_refused r w =
      ⊎_elim (λ e. subst (λ (x : RowsRefusal). LinesRead (Err x) jobs lines) (sym e) tt) (λ f. said r (f.0, first f.0 r f.1)) w
