use Rattle.std.proofs.Common.{◌≡◌, ◌++◌, Bor, List, ℕ, map, drop}
use Rattle.trace_csv.specs.Records.{fields_seen}
use Rattle.trace_csv.proofs.slices.slices_of.Given as goal

abbrev pub invariant-loop-field : goal.invariant-loop-field
invariant-loop-field l =
    map (λ (f : Bor (List ℕ)). f.now) l.slices.items ++ fields_seen (drop l.field-index l.fields) ≡ fields_seen l.fields
