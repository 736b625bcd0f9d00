use Rattle.std.proofs.Common.{◌++◌, ◌∷◌, [], List, ℕ, sym, ap, ◌∙◌, append_assoc, arith}
use Rattle.std.proofs.lemmas.List.{drop_all}
use Rattle.csv.specs.Writing.{default_writer, escaped, quoted}
use Rattle.trace_csv.proofs.Quoting.{quote_more, plain_more, no_byte}
use Rattle.trace_csv.proofs.writing.push_quoted.Goals as goal
use Rattle.trace_csv.proofs.writing.push_quoted.Goals.{then-byte-eq34+in_ok-push-2, else-byte-eq34}

pub loop-byte-init : goal.loop-byte-init
loop-byte-init c =
    let rest = escaped default_writer c.args.field.now ++ 34 ∷ [] in
    rw c.in_ok-push.ensures.items (append_assoc c.args.text.now.items (34 ∷ []) rest)

pub loop-byte-preserved : goal.loop-byte-preserved
loop-byte-preserved c =
    let field = c.args.field.now in
    let i = c.loop-byte.byte-index in
    let within = c.loop-byte-test.true in
    let whole = c.args.text.now.items ++ quoted default_writer field in
    elim c.if-byte-eq34.branch [
      | then-byte-eq34+in_ok-push-2 w ↦
          rw (c.in_ok-push-3.ensures.items, w.text-is, w.in_ok-push-2.ensures.items)
          (quote_more c.loop-byte.text.items (34 ∷ []) whole field i within c.loop-byte.invariant w.if-byte-eq34.true)
      | else-byte-eq34 w ↦
          rw (c.in_ok-push-3.ensures.items, w.text-is)
          (plain_more c.loop-byte.text.items (34 ∷ []) whole field i within c.loop-byte.invariant w.if-byte-eq34.false)
    ]

pub returns : goal.returns
returns c =
    let none = ap (λ (xs : List ℕ). c.loop-byte.text.items ++ (escaped default_writer xs ++ 34 ∷ []))
    (drop_all c.loop-byte.byte-index c.args.field.now (omega (arith, c.loop-byte-test.false))) in
    c.in_ok-push-4.ensures.items
    ∙ ap (λ (xs : List ℕ). c.loop-byte.text.items ++ (xs ++ 34 ∷ [])) (sym no_byte)
    ∙ sym none
    ∙ c.loop-byte.invariant
