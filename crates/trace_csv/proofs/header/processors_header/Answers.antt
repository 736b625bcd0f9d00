use Rattle.std.proofs.Common.{◌+◌, ◌++◌, ◌∷◌, [], ℕ, List, sym, ap, ◌∙◌, arith}
use Rattle.std.specs.Prelude.{codes}
use Rattle.std.proofs.lemmas.List.FromFn.{map-range_with_len_more}
use Rattle.trace_csv.specs.RowsFile.{processor_field}
use Rattle.trace_csv.proofs.header.processors_header.Goals as goal

pub loop-k-preserved : goal.loop-k-preserved
loop-k-preserved c =
    let k : ℕ = c.loop-k.k in
    let field : List ℕ = processor_field (k + 1) in
    let here = c.in_ok-push_processor.ensures in
    record {
      fields = here.fields ∙ ap (λ (fs : List (List ℕ)). fs ++ (field ∷ [])) c.loop-k.invariant.fields
          ∙ ap (λ (fs : List (List ℕ)). codes "ticks" ∷ fs) (sym (map-range_with_len_more processor_field 1 k (k + 1) (omega arith)));
      partial = here.partial;
    }
