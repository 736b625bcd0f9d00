use Rattle.std.proofs.Common.{◌≡◌, ◌++◌, ◌∷◌, [], drop}
use Rattle.csv.specs.Writing.{default_writer, escaped, quoted}
use Rattle.trace_csv.proofs.writing.push_quoted.Given as goal

abbrev pub invariant-loop-byte : goal.invariant-loop-byte
invariant-loop-byte l =
    l.text.items ++ (escaped default_writer (drop l.byte-index l.field) ++ (34 ∷ []))
    ≡ l.fn.text.items ++ quoted default_writer l.field
