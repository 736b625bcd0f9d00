-- What is written of rows is read as the same runs.
use Rattle.std.proofs.Common.{◌≡◌, ◌<◌, ◌≤◌, ◌+◌, ◌^◌, ◌++◌, ◌==◌, ℕ, zero, suc, true, List, [], ◌∷◌, length, map, take}
use Rattle.std.proofs.Common.{drop, get_or, Option, None, Some, refl, sym, ap, subst, ◌∙◌, arith, inl, inr}
use Rattle.std.specs.Prelude.{decimal, nat_lt, nat_le, is_some, unwrap_or, if◌then◌else◌}
use Rattle.std.specs.Int.{is_in_range}
use Rattle.std.specs.List.{list_all}
use Rattle.std.proofs.lemmas.Bool.{and_parts, cases_Bool, ltb-true, leb-true, eqb-true}
use Rattle.std.proofs.lemmas.List.{length-append, length-map, take-map}
use Rattle.std.proofs.lemmas.List.Sums.{sum_by_more_le}
use Rattle.std.proofs.lemmas.List.Folds.{list_all-append}
use Rattle.csv.specs.Machine.{next_record}
use Rattle.csv.specs.Reading.{strip_bom}
use Rattle.csv.specs.Writing.{read_back}
use Rattle.csv.specs.declared.parser.State.TheVariants as st
use Rattle.csv.proofs.RoundTrip.{read-write}
use Rattle.sporadic_model.specs.SetDef.{SetDef}
use Rattle.sporadic_model.specs.declared.limits.TheConstants.{MOST_TICKS}
use Rattle.sporadic_model.proofs.Mapped.{element-map}
use Rattle.schedule_model.specs.JobDef.{JobsDef}
use Rattle.schedule_model.specs.RowDef.{RunDef, idle_row, ticks_of}
use Rattle.schedule_model.specs.Fitting.{fits_row, is_sized, names_below, names_jobs}
use Rattle.trace_csv.specs.Records.{Fields, records_in, line_at}
use Rattle.trace_csv.specs.RowLines.{is_cell, is_listed, job_in, job_count, processor_count, resource_count}
use Rattle.trace_csv.specs.RowLines.{row_written, run_written, runs_written, ticks_in, form_refusal, length_refusal}
use Rattle.trace_csv.specs.RowLines.{line_refusal, refusal_at}
use Rattle.trace_csv.specs.declared.refusal.RowsRefusal.{RowsRefusal}
use Rattle.trace_csv.specs.RowsFile.{rows_header, AreRowsRecords}
use Rattle.trace_csv.specs.Written.{cell_of, line_of, text_of, rows_text}
use Rattle.trace_csv.specs.RecordAnswers.{record_next, records_left}
use Rattle.trace_csv.proofs.Reading.{left_more, left_none}
use Rattle.trace_csv.proofs.Decimals.{between_of_decimal, jobs_of_cells, cells_form, cells_listed}
use Rattle.trace_csv.proofs.Runs.{none_due}

-- Records that are written one after another are read as the same records.
no_record : record_next st.StartRecord [] ≡ None
unfolding next_record
no_record = refl

text_back : (rows : List Fields) → records_left st.StartRecord (text_of rows) ≡ map read_back rows
text_back [] = left_none st.StartRecord [] no_record
text_back (row ∷ rows) =
    left_more st.StartRecord (text_of (row ∷ rows)) (read_back row, st.StartRecord, text_of rows) refl (read-write row (text_of rows))
    ∙ ap (λ (rest : List Fields). read_back row ∷ rest) (text_back rows)

-- A line of a run, and the header, are read back as they are.
lines_back : (runs : List RunDef) → map read_back (map line_of runs) ≡ map line_of runs
lines_back [] = refl
lines_back (run ∷ runs) = ap (λ (rest : List Fields). line_of run ∷ rest) (lines_back runs)

unmarked : (set : SetDef) (runs : List RunDef) → strip_bom (rows_text set runs) ≡ rows_text set runs
unfolding strip_bom
unmarked set runs = refl

pub records_written : (set : SetDef) (runs : List RunDef) → records_in (rows_text set runs) ≡ rows_header set ∷ map line_of runs
records_written set runs =
    rw (unmarked set runs) (text_back (rows_header set ∷ map line_of runs))
    ∙ ap (λ (rest : List Fields). rows_header set ∷ rest) (lines_back runs)

-- The first part of two lists together, and the other.
take_front : (xs ys : List (List ℕ)) → take (length xs) (xs ++ ys) ≡ xs
take_front [] ys = refl
take_front (x ∷ xs) ys = ap (λ (zs : List (List ℕ)). x ∷ zs) (take_front xs ys)

drop_front : (xs ys : List (List ℕ)) → drop (length xs) (xs ++ ys) ≡ ys
drop_front [] ys = refl
drop_front (x ∷ xs) ys = drop_front xs ys

-- A run that fits the jobs and lasts from 1 to 10^9 ticks.
pub record IsFit (jobs : JobsDef) (run : RunDef) : Type 0 where
  pub running : length run.row.running ≡ processor_count jobs
  pub holders : length run.row.holders ≡ resource_count jobs
  pub runs : names_below (job_count jobs) run.row.running ≡ true
  pub holds : names_below (job_count jobs) run.row.holders ≡ true
  pub lasts : is_in_range 1 MOST_TICKS run.ticks ≡ true

is_fit : (jobs : JobsDef) (run : RunDef)
    → fits_row (processor_count jobs) (resource_count jobs) (job_count jobs) run.row ≡ true
    → is_in_range 1 MOST_TICKS run.ticks ≡ true → IsFit jobs run
is_fit jobs run fits lasts =
    let parts = and_parts (is_sized (processor_count jobs) (resource_count jobs) run.row) (names_jobs (job_count jobs) run.row) fits in
    let sizes = and_parts (length run.row.running == processor_count jobs) (length run.row.holders == resource_count jobs) parts.0 in
    let names = and_parts (names_below (job_count jobs) run.row.running) (names_below (job_count jobs) run.row.holders) parts.1 in
    record {
      running = eqb-true (length run.row.running) (processor_count jobs) sizes.0;
      holders = eqb-true (length run.row.holders) (resource_count jobs) sizes.1;
      runs = names.0;
      holds = names.1;
      lasts = lasts;
    }

module _ (jobs : JobsDef) (small : job_count jobs < 2 ^ 64) where
  abbrev cells : RunDef → List (List ℕ)
  cells run = map cell_of run.row.running ++ map cell_of run.row.holders

  ticks_again : (run : RunDef) → IsFit jobs run → ticks_in (decimal run.ticks) ≡ Some run.ticks
  ticks_again run fit =
      let range = and_parts (nat_le 1 run.ticks) (nat_le run.ticks MOST_TICKS) fit.lasts in
      between_of_decimal 1 MOST_TICKS run.ticks (omega (arith, leb-true run.ticks MOST_TICKS range.1)) fit.lasts

  size_again : (run : RunDef) → IsFit jobs run → length (cells run) ≡ processor_count jobs + resource_count jobs
  size_again run fit =
      omega (
        arith,
        length-append (map cell_of run.row.running) (map cell_of run.row.holders),
        length-map run.row.running cell_of,
        length-map run.row.holders cell_of,
        fit.running,
        fit.holders,
      )

  row_again : (run : RunDef) → IsFit jobs run → row_written jobs (cells run) ≡ run.row
  row_again run fit =
      let xs = map cell_of run.row.running in
      let ys = map cell_of run.row.holders in
      let e : length xs ≡ processor_count jobs = length-map run.row.running cell_of ∙ fit.running in
      let running : map (job_in (job_count jobs)) (take (processor_count jobs) (cells run)) ≡ run.row.running =
      ap (λ p. map (job_in (job_count jobs)) (take p (cells run))) (sym e)
      ∙ ap (map (job_in (job_count jobs))) (take_front xs ys)
      ∙ jobs_of_cells (job_count jobs) run.row.running small fit.runs in
      let holders : map (job_in (job_count jobs)) (drop (processor_count jobs) (cells run)) ≡ run.row.holders =
      ap (λ p. map (job_in (job_count jobs)) (drop p (cells run))) (sym e)
      ∙ ap (map (job_in (job_count jobs))) (drop_front xs ys)
      ∙ jobs_of_cells (job_count jobs) run.row.holders small fit.holds in
      λ i. record { running = running i; holders = holders i }

  run_again : (run : RunDef) → IsFit jobs run → run_written jobs (line_of run) ≡ run
  run_again run fit =
      let ticks : unwrap_or (ticks_in (decimal run.ticks)) 0 ≡ run.ticks = ap (λ (o : Option ℕ). unwrap_or o 0) (ticks_again run fit) in
      let row = row_again run fit in
      λ i. record { ticks = ticks i; row = row i }

  form_again : (run : RunDef) → IsFit jobs run → (k : ℕ) → form_refusal jobs (line_of run) k ≡ None
  form_again run fit k =
      let xs = map cell_of run.row.running in
      let ys = map cell_of run.row.holders in
      none_due jobs (decimal run.ticks) (cells run) k run.ticks (size_again run fit) (ticks_again run fit)
      (rw (list_all-append is_cell xs ys, cells_form (job_count jobs) run.row.running small fit.runs)
      (cells_form (job_count jobs) run.row.holders small fit.holds))
      (rw
      (list_all-append (is_listed (job_count jobs)) xs ys, cells_listed (job_count jobs) run.row.running small fit.runs)
      (cells_listed (job_count jobs) run.row.holders small fit.holds))

-- Each run fits.
abbrev pub AllFit : JobsDef → List RunDef → Type 0
AllFit jobs [] = Unit {0}
AllFit jobs (run ∷ runs) = IsFit jobs run × AllFit jobs runs

pub all_fit : (jobs : JobsDef) (runs : List RunDef)
    → list_all (λ run. fits_row (processor_count jobs) (resource_count jobs) (job_count jobs) run.row) runs ≡ true
    → list_all (λ run. is_in_range 1 MOST_TICKS run.ticks) runs ≡ true → AllFit jobs runs
all_fit jobs [] fits lasts = tt
all_fit jobs (run ∷ runs) fits lasts =
    let f = and_parts (fits_row (processor_count jobs) (resource_count jobs) (job_count jobs) run.row)
    (list_all (λ run. fits_row (processor_count jobs) (resource_count jobs) (job_count jobs) run.row) runs) fits in
    let l = and_parts (is_in_range 1 MOST_TICKS run.ticks) (list_all (λ run. is_in_range 1 MOST_TICKS run.ticks) runs) lasts in
    (is_fit jobs run f.0 l.0, all_fit jobs runs f.1 l.1)

fit_at : (jobs : JobsDef) (runs : List RunDef) (i : ℕ) (d : RunDef) → AllFit jobs runs → i < length runs → IsFit jobs (get_or runs i d)
fit_at jobs [] i d all h = absurd (omega arith)
fit_at jobs (run ∷ runs) zero d all h = all.0
fit_at jobs (run ∷ runs) (suc i) d all h = fit_at jobs runs i d all.1 (omega arith)

runs_again : (jobs : JobsDef) (runs : List RunDef) → job_count jobs < 2 ^ 64 → AllFit jobs runs
    → runs_written jobs (map line_of runs) ≡ runs
runs_again jobs [] small all = refl
runs_again jobs (run ∷ runs) small all =
    let first = run_again jobs small run all.0 in
    let rest = runs_again jobs runs small all.1 in
    λ i. first i ∷ rest i

no_length : (before : List RunDef) (run : RunDef) (k : ℕ) → ticks_of before + run.ticks ≤ MOST_TICKS → length_refusal before run k ≡ None
no_length before run k h = elim (cases_Bool (nat_lt MOST_TICKS (ticks_of before + run.ticks))) [
  | inl over ↦ absurd (omega (arith, ltb-true MOST_TICKS (ticks_of before + run.ticks) over))
  | inr under ↦ rw under refl
]

neither : (o p : Option RowsRefusal) → o ≡ None → p ≡ None → (if is_some o then o else p) ≡ None
neither None p e h = h
neither (Some r) p e h = cc

line_none : (jobs : JobsDef) (runs : List RunDef) → job_count jobs < 2 ^ 64 → AllFit jobs runs
    → ticks_of runs ≤ MOST_TICKS → (i : ℕ) → i < length runs
    → refusal_at jobs (map line_of runs) i ≡ None
line_none jobs runs small all most i h =
    let none : RunDef = record { ticks = 0; row = idle_row } in
    let run : RunDef = get_or runs i none in
    let fit = fit_at jobs runs i none all h in
    let lines = map line_of runs in
    let before : runs_written jobs (take i lines) ≡ take i runs =
    sym (take-map (run_written jobs) i lines) ∙ ap (λ (rs : List RunDef). take i rs) (runs_again jobs runs small all) in
    let room : ticks_of (take i runs) + run.ticks ≤ MOST_TICKS = omega (arith, sum_by_more_le (λ (r : RunDef). r.ticks) runs i none h) in
    ap (λ (b : List RunDef). line_refusal jobs b (line_at lines i) (i + 1)) before
    ∙ ap (λ (l : Fields). line_refusal jobs (take i runs) l (i + 1)) (element-map line_of runs i none [] h)
    ∙ neither (form_refusal jobs (line_of run) (i + 1))
    (length_refusal (take i runs) (run_written jobs (line_of run)) (i + 1)) (form_again jobs small run fit (i + 1))
    (ap (λ (r : RunDef). length_refusal (take i runs) r (i + 1)) (run_again jobs small run fit) ∙ no_length (take i runs) run (i + 1) room)

pub reads_back : (jobs : JobsDef) (runs : List RunDef) → job_count jobs < 2 ^ 64 → AllFit jobs runs → ticks_of runs ≤ MOST_TICKS
    → AreRowsRecords jobs (records_in (rows_text jobs.set runs))
    × (runs_written jobs (drop 1 (records_in (rows_text jobs.set runs))) ≡ runs)
reads_back jobs runs small all most =
    let P : List Fields → Type 0 = λ records. AreRowsRecords jobs records × (runs_written jobs (drop 1 records) ≡ runs) in
    subst P (sym (records_written jobs.set runs)) (
      record {
        header = refl;
        lines = λ i h. line_none jobs runs small all most i (omega (arith, length-map runs line_of));
      },
      runs_again jobs runs small all,
    )
