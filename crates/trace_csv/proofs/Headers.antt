-- The lines under a header.
use Rattle.std.proofs.Common.{◌≡◌, ◌<◌, ◌+◌, List, ◌∷◌, length, map, Some, Result, Ok, Err, true, false, refl, ap, arith, inl, inr}
use Rattle.std.proofs.lemmas.List.{length-append, length-map}
use Rattle.std.proofs.lemmas.List.FromFn.{length-range_with_len}
use Rattle.std.specs.List.{range_with_len}
use Rattle.sporadic_model.specs.SetDef.{SetDef, ResourceDef}
use Rattle.schedule_model.specs.JobDef.{JobsDef}
use Rattle.schedule_model.specs.Fitting.{RowsDef}
use Rattle.trace_csv.specs.Records.{Fields}
use Rattle.trace_csv.specs.declared.refusal.JobsRefusal.{JobsRefusal}
use Rattle.trace_csv.specs.declared.refusal.JobsRefusal.TheVariants as jobs
use Rattle.trace_csv.specs.declared.refusal.RowsRefusal.{RowsRefusal}
use Rattle.trace_csv.specs.declared.refusal.RowsRefusal.TheVariants as rows
use Rattle.trace_csv.specs.JobLines.{completed}
use Rattle.trace_csv.specs.JobsFile as jobs_file
use Rattle.trace_csv.specs.RowLines.{processor_count, resource_count}
use Rattle.trace_csv.specs.RowsFile as rows_file
use Rattle.trace_csv.specs.RowAnswers.{HeaderTaken}

-- What is said of the lines is said of the records with the header.
pub under_jobs : (answer : Result JobsDef JobsRefusal) (set : SetDef) (lines : List Fields)
    → jobs_file.LinesRead answer set (map (completed false) lines) → jobs_file.RecordsRead answer set (jobs_file.jobs_header ∷ lines)
under_jobs (Ok list) set lines read = (record { header = inl refl; lines = read.0 }, read.1)
under_jobs (Err (jobs.Fields k)) set lines read = inr (inl refl, read)
under_jobs (Err (jobs.Number k)) set lines read = inr (inl refl, read)
under_jobs (Err (jobs.UnknownName k)) set lines read = inr (inl refl, read)
under_jobs (Err (jobs.Script k)) set lines read = inr (inl refl, read)
under_jobs (Err (jobs.OverBudget k)) set lines read = inr (inl refl, read)
under_jobs (Err (jobs.TooClose k)) set lines read = inr (inl refl, read)
under_jobs (Err (jobs.TooMany k)) set lines read = inr (inl refl, read)
under_jobs (Err (jobs.Late k)) set lines read = inr (inl refl, read)
under_jobs (Err jobs.Memory) set lines read = tt

pub under_arrivals : (answer : Result JobsDef JobsRefusal) (set : SetDef) (lines : List Fields)
    → jobs_file.LinesRead answer set (map (completed true) lines) → jobs_file.RecordsRead answer set (jobs_file.arrivals_header ∷ lines)
under_arrivals (Ok list) set lines read = (record { header = inr refl; lines = read.0 }, read.1)
under_arrivals (Err (jobs.Fields k)) set lines read = inr (inr refl, read)
under_arrivals (Err (jobs.Number k)) set lines read = inr (inr refl, read)
under_arrivals (Err (jobs.UnknownName k)) set lines read = inr (inr refl, read)
under_arrivals (Err (jobs.Script k)) set lines read = inr (inr refl, read)
under_arrivals (Err (jobs.OverBudget k)) set lines read = inr (inr refl, read)
under_arrivals (Err (jobs.TooClose k)) set lines read = inr (inr refl, read)
under_arrivals (Err (jobs.TooMany k)) set lines read = inr (inr refl, read)
under_arrivals (Err (jobs.Late k)) set lines read = inr (inr refl, read)
under_arrivals (Err jobs.Memory) set lines read = tt

pub under_rows : (answer : Result RowsDef RowsRefusal) (list : JobsDef) (lines : List Fields)
    → rows_file.LinesRead answer list lines → rows_file.RecordsRead answer list (rows_file.rows_header list.set ∷ lines)
under_rows (Ok made) list lines read = (record { header = refl; lines = read.0 }, read.1)
under_rows (Err (rows.Fields k)) list lines read = inr (refl, read)
under_rows (Err (rows.Number k)) list lines read = inr (refl, read)
under_rows (Err (rows.UnknownJob k)) list lines read = inr (refl, read)
under_rows (Err (rows.TooLong k)) list lines read = inr (refl, read)
under_rows (Err rows.Memory) list lines read = tt

-- What refuses the header refuses the records.
pub header_refused : (r : RowsRefusal) (list : JobsDef) (before after : List Fields) → HeaderTaken {T = Unit {0}} (Err r) list before after
    → rows_file.RecordsRead (Err r) list before
header_refused (rows.Fields k) list before after taken = inl taken
header_refused (rows.Number k) list before after taken = inl taken
header_refused (rows.UnknownJob k) list before after taken = inl taken
header_refused (rows.TooLong k) list before after taken = inl taken
header_refused rows.Memory list before after taken = tt

-- A header of rows has as many fields as its lines, so no longer record is one.
pub header_length : (set : SetDef) → length (rows_file.rows_header set) ≡ 1 + (set.processors + length set.resources)
header_length set =
    omega (
      arith,
      length-append (rows_file.processor_fields set.processors) (rows_file.resource_fields set),
      length-map (range_with_len 1 set.processors) rows_file.processor_field,
      length-range_with_len 1 set.processors,
      length-map set.resources (λ (r : ResourceDef). r.name),
    )

pub same_header : (line header : Fields) → Some line ≡ Some header → line ≡ header
same_header line header e = cc e

pub no_long_header : (list : JobsDef) (line : Fields) (more : List Fields) → 1 + (processor_count list + resource_count list) < length line
    → rows_file.HasRowsHeader list.set (line ∷ more) → ⊥
no_long_header list line more long here =
    omega (arith, header_length list.set, ap (λ (l : Fields). length l) (same_header line (rows_file.rows_header list.set) here))
