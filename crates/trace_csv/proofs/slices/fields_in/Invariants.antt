use Rattle.std.proofs.Common.{◌≡◌, List, ℕ, Bor, map, take}
use Rattle.csv.specs.Records.{fields_of}
use Rattle.trace_csv.proofs.slices.fields_in.Given as goal

abbrev pub invariant-loop-i : goal.invariant-loop-i
invariant-loop-i l = map (λ (f : Bor (List ℕ)). f.now) l.fields.items ≡ take l.i (fields_of l.row)
