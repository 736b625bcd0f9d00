use Rattle.std.proofs.Common.{◌≡◌, ◌<◌, ◌^◌, Some, None, length, map, arith}
use Rattle.std.proofs.lemmas.List.{length-map}
use Rattle.program_form.specs.Program.{ProgramDef}
use Rattle.program_form.specs.Refusals.{first_refusal}
use Rattle.program_form.specs.RowBlock.{block_seen, lists_of}
use Rattle.program_form.proofs.Accepted.{not_refused}
use Rattle.protocol_programs.proofs.parts.program_from.Goals as goal

pub new-requires-clause-few_columns : goal.new-requires-clause-few_columns
new-requires-clause-few_columns c =
    let few : length c.args.costs.items < 2 ^ 32 = c.requires.columns_to in
    omega (arith, few)

pub new-requires-clause-few_rows : goal.new-requires-clause-few_rows
new-requires-clause-few_rows c =
    let few : length (map (λ row. row.items) c.args.block.rows.items) < 2 ^ 32 = c.requires.rows_to in
    omega (arith, few, length-map c.args.block.rows.items (λ row. row.items))

pub unreachable-requires : goal.unreachable-requires
unreachable-requires c =
    let lists : ProgramDef = lists_of c.args.costs.items (block_seen c.args.block) in
    let refused : first_refusal lists ≡ Some c.in-Err.field-0 = c.in-Err.ensures.judged in
    let none : first_refusal lists ≡ None = not_refused lists c.requires in
    cc
