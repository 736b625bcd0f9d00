use Rattle.std.proofs.Common.{◌≡◌, ℕ, List, Bor, map, take, drop, sym, ap, ◌∙◌}
use Rattle.std.proofs.lemmas.List.{take_rest, drop-map, take-map}
use Rattle.schedule_model.specs.Seen.{place_seen}
use Rattle.trace_csv.specs.RowLines.{job_in}
use Rattle.trace_csv.proofs.rows.row_of.Goals as goal

pub returns : goal.returns
returns c =
    let now : Bor (List ℕ) → List ℕ = λ f. f.now in
    let cells = c.args.cells.now in
    let p = c.args.processors in
    let running : map place_seen c.in_ok-running.running.items ≡ map (job_in c.args.jobs) (take p (map now cells)) =
    c.in_ok-running.ensures ∙ ap (map (job_in c.args.jobs)) (sym (take-map now p cells)) in
    let holders : map place_seen c.in_ok-holders.holders.items ≡ map (job_in c.args.jobs) (drop p (map now cells)) =
    c.in_ok-holders.ensures ∙ ap (map (job_in c.args.jobs)) (ap (map now) (take_rest cells p) ∙ sym (drop-map now p cells)) in
    λ i. record { running = running i; holders = holders i }
