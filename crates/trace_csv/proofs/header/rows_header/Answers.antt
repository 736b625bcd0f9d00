use Rattle.std.proofs.Common.{◌≡◌, ◌<◌, ◌++◌, ◌∷◌, [], ℕ, List, length, take, get_or, sym, ap, ◌∙◌, arith, append_assoc}
use Rattle.std.specs.Prelude.{codes}
use Rattle.std.proofs.lemmas.List.{take_more, length-map}
use Rattle.sporadic_model.specs.SetDef.{ResourceDef, no_resource}
use Rattle.sporadic_model.proofs.Mapped.{element-map}
use Rattle.trace_csv.specs.RowsFile.{processor_fields, resource_fields}
use Rattle.trace_csv.proofs.header.rows_header.Goals as goal

pub loop-q-preserved : goal.loop-q-preserved
loop-q-preserved c =
    let q : ℕ = c.loop-q.q in
    let set = c.args.set.now in
    let here = c.in_ok-push_field.ensures in
    let rs : List ResourceDef = set.resources in
    let within : q < length rs = omega (arith, c.resources-q-end.ensures.value) in
    let inside : q < length (resource_fields set) = omega (arith, length-map rs (λ (r : ResourceDef). r.name)) in
    let field : c.as_bytes.result.now ≡ get_or (resource_fields set) q [] =
    c.as_bytes.ensures.value ∙ c.resource_name.ensures ∙ sym (element-map (λ (r : ResourceDef). r.name) rs q no_resource [] within) in
    record {
      fields = rw c.loop-q.invariant.partial at here.fields
          ∙ ap (λ (fs : List (List ℕ)). fs ++ (c.as_bytes.result.now ∷ [])) c.loop-q.invariant.fields
          ∙ ap (λ (fs : List (List ℕ)). codes "ticks" ∷ fs)
          (append_assoc (processor_fields set.processors) (take q (resource_fields set)) (c.as_bytes.result.now ∷ [])
          ∙ ap (λ (fs : List (List ℕ)). processor_fields set.processors ++ fs)
          (ap (λ (f : List ℕ). take q (resource_fields set) ++ (f ∷ [])) field ∙ sym (take_more (resource_fields set) q [] inside)));
      partial = here.partial;
    }
