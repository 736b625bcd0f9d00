use Rattle.std.proofs.Common.{◌≡◌, ℕ, List, Bor, IfOk, map, length, min, ap, subst, ◌∙◌, arith}
use Rattle.std.proofs.lemmas.List.{length-map}
use Rattle.sporadic_model.specs.SetDef.{SetDef}
use Rattle.schedule_model.specs.JobDef.{JobsDef}
use Rattle.schedule_model.specs.RowDef.{RowDef}
use Rattle.schedule_model.specs.Seen.{row_seen}
use Rattle.trace_csv.specs.RowLines.{job_count, processor_count, row_of_cells, row_written}
use Rattle.trace_csv.proofs.Runs.{row_of_all}
use Rattle.trace_csv.proofs.rows.written_row.Goals as goal

pub returns : goal.returns
returns c =
    let jobs : JobsDef = c.args.jobs.now in
    let cells : List (List ℕ) = map (λ (f : Bor (List ℕ)). f.now) c.args.cells.now in
    let processors : c.processors.result ≡ processor_count jobs =
    c.processors.ensures.value ∙ ap (λ (s : SetDef). s.processors) c.set.ensures in
    let least : c.min-processors.result ≡ min (processor_count jobs) (length cells) =
    omega (arith, c.min-processors.ensures, processors, length-map c.args.cells.now (λ (f : Bor (List ℕ)). f.now)) in
    let count : c.len.result ≡ job_count jobs = c.len.ensures.value in
    let same : row_of_cells c.min-processors.result c.len.result cells ≡ row_written jobs cells =
    ap (λ (p : ℕ). row_of_cells p c.len.result cells) least
    ∙ ap (λ (n : ℕ). row_of_cells (min (processor_count jobs) (length cells)) n cells) count
    ∙ row_of_all (processor_count jobs) (job_count jobs) cells in
    subst (λ (w : RowDef). IfOk c.row_of.result (λ row. row_seen row ≡ w)) same c.row_of.ensures
