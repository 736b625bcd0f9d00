use Rattle.std.proofs.Common.{◌≡◌, ◌≤◌, ◌++◌, ◌⊎◌, ◌==◌, false, length, get_or, List, ℕ, sym, ap, subst, ◌∙◌, append_assoc, arith, inl, inr}
use Rattle.std.specs.Prelude.{OnOk}
use Rattle.csv.specs.Writing.{default_writer, field_text, fields_text}
use Rattle.trace_csv.proofs.Quoting.{shows_none, shows_blank, shows_some, rest_of_fields, nows}
use Rattle.trace_csv.proofs.writing.push_body.Goals as goal
use Rattle.trace_csv.proofs.writing.push_body.Goals.{else-is_empty-via-then-is_empty+else-is_empty-2, else-is_empty-via-else-is_empty}

pub returns-in_default : goal.returns-in_default
returns-in_default c = rw (shows_none c.args.fields.now c.in_default.len_below) c.push_quoted.ensures

pub returns-then-is_empty-2 : goal.returns-then-is_empty-2
returns-then-is_empty-2 c =
    let some : 1 ≤ length c.args.fields.now = omega (arith, c.in-len1-up.len_at_least) in
    rw (shows_blank c.args.fields.now _ some (sym c.if-is_empty.ensures) (sym c.if-is_empty-2.ensures))
    c.push_quoted-then-is_empty-2.ensures

pub returns : goal.returns
returns c =
    let fields = c.args.fields.now in
    let some : ((length (get_or fields 0 _).now == 0) ≡ false) ⊎ ((length (rest_of_fields fields) == 0) ≡ false) =
    elim c.else-is_empty.branch [
      | else-is_empty-via-then-is_empty+else-is_empty-2 w ↦ inr (sym w.if-is_empty-2.ensures)
      | else-is_empty-via-else-is_empty w ↦ inl (sym w.if-is_empty.ensures)
    ] in
    let rest : List ℕ = fields_text default_writer (nows (rest_of_fields fields)) in
    let body = shows_some fields _ (omega (arith, c.in-len1-up.len_at_least)) some in
    subst (λ (xs : List ℕ). OnOk c.push_fields.result (c.push_fields.new.text.items ≡ xs))
    (ap (λ (xs : List ℕ). xs ++ rest) c.in_ok-push_field.ensures
    ∙ append_assoc c.args.text.now.items (field_text default_writer (get_or fields 0 _).now) rest
    ∙ ap (λ (xs : List ℕ). c.args.text.now.items ++ xs) (sym body))
    c.push_fields.ensures
