use Rattle.std.proofs.Common.{◌≡◌, ◌∷◌, []}
use Rattle.std.specs.Prelude.{codes}
use Rattle.csv.specs.Records.{fields_of, partial_of}
use Rattle.trace_csv.specs.RowsFile.{processor_fields}
use Rattle.trace_csv.proofs.header.processors_header.Given as goal

abbrev pub invariant-loop-k : goal.invariant-loop-k
invariant-loop-k l = record {
  fields : fields_of l.header ≡ codes "ticks" ∷ processor_fields l.k;
  partial : partial_of l.header ≡ [];
}
