-- Texts of rows that were judged, and the runs that are read of them.
use Rattle.std.proofs.Common.{◌≡◌, ◌<◌, ◌≤◌, ◌+◌, ℕ, zero, suc, List, [], ◌∷◌, length, take, drop, slice_get}
use Rattle.std.proofs.Common.{option_map, Option, None, Some, refl, sym, ap, ◌∙◌, subst, arith, inl, inr}
use Rattle.std.proofs.lemmas.Bool.{cases_lt}
use Rattle.std.proofs.lemmas.List.{drop-drop}
use Rattle.std.proofs.lemmas.Option.{slice_get-map, slice_get_within, get_or_from_slice_get}
use Rattle.schedule_model.specs.JobDef.{JobsDef}
use Rattle.schedule_model.specs.Seen.{run_seen}
use Rattle.schedule_model.specs.declared.row.RowRun.{RowRun}
use Rattle.trace_csv.specs.Records.{Fields, line_at}
use Rattle.trace_csv.specs.declared.refusal.RowsRefusal.{RowsRefusal}
use Rattle.trace_csv.specs.declared.refusal.RowsRefusal.TheVariants as refusal
use Rattle.trace_csv.specs.RowLines.{run_written, runs_written, refusal_at, processor_count, resource_count}
use Rattle.trace_csv.specs.RowsFile.{AreRowsRecords, rows_header}
use Rattle.trace_csv.specs.RowTexts.{IsNextShort, IsNextRun}
use Rattle.trace_csv.proofs.Headers.{header_length, same_header}
use Rattle.trace_csv.proofs.RowsTaken.{long_refused}

-- The first element behind i of them.
first_of : {A : Type 0} (i : ℕ) (xs : List A) → slice_get (drop i xs) 0 ≡ slice_get xs i
first_of zero xs = refl
first_of (suc i) [] = refl
first_of (suc i) (x ∷ xs) = first_of i xs

-- No record of a file of rows has more fields than the header.
module _ (jobs : JobsDef) (records : List Fields) (file : AreRowsRecords jobs records) where
  pub header_short : IsNextShort records (1 + (processor_count jobs + resource_count jobs))
  header_short line e =
      omega (arith, header_length jobs.set, ap (λ (l : Fields). length l) (same_header line (rows_header jobs.set) (sym e ∙ file.header)))

  no_reason : (r : RowsRefusal) → None ≡ Some r → ⊥
  no_reason r e = cc

  short_at : (i : ℕ) (line : Fields) → slice_get (drop 1 records) i ≡ Some line
      → length line ≤ 1 + (processor_count jobs + resource_count jobs)
  short_at i line e = elim (cases_lt (1 + (processor_count jobs + resource_count jobs)) (length line)) [
    | inl more ↦
        let at : line_at (drop 1 records) i ≡ line = get_or_from_slice_get (drop 1 records) i line [] e in
        let good : refusal_at jobs (drop 1 records) i ≡ None = file.lines i (slice_get_within (drop 1 records) i line e) in
        absurd (no_reason (refusal.Fields (i + 1)) (sym good ∙ long_refused jobs (runs_written jobs (take i (drop 1 records)))
        (line_at (drop 1 records) i) (i + 1) (subst (λ (l : Fields). 1 + (processor_count jobs + resource_count jobs) < length l) (sym at) more)))
    | inr fits ↦ fits
  ]

  pub line_short : (i : ℕ) → IsNextShort (drop i (drop 1 records)) (1 + (processor_count jobs + resource_count jobs))
  line_short i line e = short_at i line (sym (first_of i (drop 1 records)) ∙ e)

-- The run that is read next is the one of its number.
pub next_here : (jobs : JobsDef) (lines : List Fields) (i : ℕ) (found : Option RowRun) (before after : List Fields)
    → before ≡ drop i lines → IsNextRun found jobs before after
    → (option_map run_seen found ≡ slice_get (runs_written jobs lines) i) × (after ≡ drop (i + 1) lines)
next_here jobs lines i found before after e next = (
  next.0 ∙ ap (λ (o : Option Fields). option_map (run_written jobs) o) (ap (λ (ls : List Fields). slice_get ls 0) e ∙ first_of i lines)
      ∙ sym (slice_get-map (run_written jobs) lines i),
  next.1 ∙ ap (λ (ls : List Fields). drop 1 ls) e ∙ drop-drop 1 i lines,
)
