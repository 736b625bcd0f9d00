use Rattle.std.proofs.Common.{◌≡◌, ◌∷◌, ◌++◌, [], take}
use Rattle.std.specs.Prelude.{codes}
use Rattle.csv.specs.Records.{fields_of, partial_of}
use Rattle.trace_csv.specs.RowsFile.{processor_fields, resource_fields}
use Rattle.trace_csv.proofs.header.rows_header.Given as goal

abbrev pub invariant-loop-q : goal.invariant-loop-q
invariant-loop-q l = record {
  fields : fields_of l.header ≡ codes "ticks" ∷ (processor_fields l.set.processors ++ take l.q (resource_fields l.set));
  partial : partial_of l.header ≡ [];
}
