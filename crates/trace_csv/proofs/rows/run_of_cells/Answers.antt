use Rattle.std.proofs.Common.{◌≡◌, ◌+◌, ◌∷◌, ℕ, List, Some, Bor, true, map, length, sym, ap, subst, ◌∙◌, arith}
use Rattle.std.specs.List.{list_all}
use Rattle.std.specs.Option.{unwrap_or}
use Rattle.std.proofs.lemmas.List.{length-map}
use Rattle.sporadic_model.specs.SetDef.{SetDef}
use Rattle.schedule_model.specs.JobDef.{JobsDef}
use Rattle.schedule_model.specs.Seen.{row_seen, run_seen}
use Rattle.trace_csv.specs.RowLines.{is_cell, is_listed, job_count, processor_count, resource_count}
use Rattle.trace_csv.specs.RowLines.{row_written, run_written, ticks_in}
use Rattle.trace_csv.specs.RowAnswers.{IsRunOf}
use Rattle.trace_csv.proofs.Runs.{is_run, none_due}
use Rattle.trace_csv.proofs.rows.run_of_cells.Goals as goal

pub returns : goal.returns
returns c =
    let jobs : JobsDef = c.args.jobs.now in
    let cells : List (List ℕ) = map (λ (f : Bor (List ℕ)). f.now) c.args.cells.now in
    let ticks : List ℕ = c.args.ticks.now in
    let n : ℕ = c.in-Some.ticks in
    let processors : c.processors-processors.result ≡ processor_count jobs =
    c.processors-processors.ensures.value ∙ ap (λ (s : SetDef). s.processors) c.set.ensures in
    let resources : c.resources.result ≡ resource_count jobs =
    c.resources.ensures.value ∙ ap (λ (s : SetDef). length s.resources) c.set-2.ensures in
    let count : c.len.result ≡ job_count jobs = c.len.ensures.value in
    let size : length cells ≡ processor_count jobs + resource_count jobs =
    length-map c.args.cells.now (λ (f : Bor (List ℕ)). f.now) ∙ omega (arith, c.if-cells-processors.false) in
    let some : ticks_in ticks ≡ Some n = sym c.in-Some.ensures in
    let form : list_all is_cell cells ≡ true = sym c.if-not-are_cells.ensures in
    let listed : list_all (is_listed (job_count jobs)) cells ≡ true =
    ap (λ m. list_all (is_listed m) cells) (sym count) ∙ sym c.if-not-are_listed.ensures in
    let row : row_seen c.in_ok-row.row ≡ row_written jobs cells = c.in_ok-row.ensures in
    let run : run_seen (record { ticks = n; row = c.in_ok-row.row }) ≡ run_written jobs (ticks ∷ cells) =
    λ i. record { ticks = unwrap_or (sym some i) 0; row = row i } in (
      none_due jobs ticks cells c.args.line n size some form listed,
      run,
      subst (IsRunOf jobs) (sym run) (is_run jobs ticks cells n size some),
    )
