use Rattle.std.proofs.Common.{◌≡◌, None, arith, sym, ◌∙◌}
use Rattle.std.proofs.lemmas.List.{length-map}
use Rattle.program_form.specs.Program.{ProgramDef}
use Rattle.program_form.specs.Refusals.{first_refusal}
use Rattle.program_form.specs.RowBlock.{rows_seen}
use Rattle.program_form.proofs.Accepted.{is_program}
use Rattle.program_form.proofs.program.Program.new.Goals as goal

pub invariant_of-result : goal.invariant_of-result
invariant_of-result c =
    let p : ProgramDef = record { costs = c.args.costs.items; rows = rows_seen c.args.rows.items; limits = c.args.limits.items } in
    let accepted : first_refusal p ≡ None =
    rw (← c.deref.ensures.value, ← c.deref-2.ensures.value, ← c.deref-3.ensures.value)
    (sym c.refusal_of.ensures ∙ c.in-None.is) in
    is_program p (omega arith) (omega (arith, length-map c.args.rows.items (λ row. row.items))) accepted

pub returns-in-None-clause-program : goal.returns-in-None-clause-program
returns-in-None-clause-program c =
    let p : ProgramDef = record { costs = c.args.costs.items; rows = rows_seen c.args.rows.items; limits = c.args.limits.items } in
    let accepted : first_refusal p ≡ None =
    rw (← c.deref.ensures.value, ← c.deref-2.ensures.value, ← c.deref-3.ensures.value)
    (sym c.refusal_of.ensures ∙ c.in-None.is) in
    is_program p (omega arith) (omega (arith, length-map c.args.rows.items (λ row. row.items))) accepted
