use Rattle.std.proofs.Common.{◌≡◌, ◌++◌, Bor, List, ℕ, map, drop}
use Rattle.csv.specs.Writing.{default_writer, fields_text}
use Rattle.trace_csv.proofs.writing.push_fields.Given as goal

abbrev pub invariant-loop-field : goal.invariant-loop-field
invariant-loop-field l =
    l.text.items ++ fields_text default_writer (map (λ (f : Bor (List ℕ)). f.now) (drop l.field-index l.fields))
    ≡ l.initial.text.items ++ fields_text default_writer (map (λ (f : Bor (List ℕ)). f.now) l.fields)
