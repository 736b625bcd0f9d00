use Rattle.std.proofs.Common.{◌++◌, Bor, List, ℕ, map, sym, ap, ◌∙◌, arith}
use Rattle.std.proofs.lemmas.List.{drop_all, append-nil}
use Rattle.csv.specs.Writing.{default_writer, fields_text}
use Rattle.trace_csv.proofs.Quoting.{field_more, no_field}
use Rattle.trace_csv.proofs.writing.push_fields.Goals as goal

pub loop-field-preserved : goal.loop-field-preserved
loop-field-preserved c =
    let fields = c.args.fields.now in
    let i = c.loop-field.field-index in
    rw (c.in_ok-push_field.ensures, c.in_ok-push.ensures.items)
    (field_more c.loop-field.text.items (c.args.text.now.items ++ fields_text default_writer (map (λ (f : Bor (List ℕ)). f.now) fields))
    fields i _ c.loop-field-test.true c.loop-field.invariant)

pub returns : goal.returns
returns c =
    let text = λ (fs : List (Bor (List ℕ))). fields_text default_writer (map (λ (f : Bor (List ℕ)). f.now) fs) in
    sym (append-nil c.loop-field.text.items)
    ∙ ap (λ (xs : List ℕ). c.loop-field.text.items ++ xs) (sym no_field)
    ∙ ap (λ (fs : List (Bor (List ℕ))). c.loop-field.text.items ++ text fs)
    (sym (drop_all c.loop-field.field-index c.args.fields.now (omega (arith, c.loop-field-test.false))))
    ∙ c.loop-field.invariant
