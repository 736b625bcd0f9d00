use Rattle.std.proofs.Common.{◌≡◌, ◌++◌, Bor, List, ℕ, map, drop}
use Rattle.schedule_model.specs.Seen.{place_seen}
use Rattle.trace_csv.specs.RowLines.{job_in}
use Rattle.trace_csv.proofs.rows.places_of.Given as goal

abbrev pub invariant-loop-cell : goal.invariant-loop-cell
invariant-loop-cell l =
    map place_seen l.places.items ++ map (job_in l.jobs) (map (λ (c : Bor (List ℕ)). c.now) (drop l.cell-index l.cells))
    ≡ map (job_in l.jobs) (map (λ (c : Bor (List ℕ)). c.now) l.cells)
