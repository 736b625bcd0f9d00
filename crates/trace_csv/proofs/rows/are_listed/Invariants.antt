use Rattle.std.proofs.Common.{◌≡◌, Bor, List, ℕ, map, drop}
use Rattle.std.specs.List.{list_all}
use Rattle.trace_csv.specs.RowLines.{is_listed}
use Rattle.trace_csv.proofs.rows.are_listed.Given as goal

abbrev pub invariant-loop-cell : goal.invariant-loop-cell
invariant-loop-cell l =
    list_all (is_listed l.jobs) (map (λ (c : Bor (List ℕ)). c.now) (drop l.cell-index l.cells))
    ≡ list_all (is_listed l.jobs) (map (λ (c : Bor (List ℕ)). c.now) l.cells)
