use Rattle.std.proofs.Common.{◌≡◌, ◌<◌, ◌∙◌, arith}
use Rattle.program_form.specs.Program.{height}
use Rattle.simplex.proofs.Ending.{entries_of_row_done}
use Rattle.simplex.proofs.start.first_entries.Goals as goal

pub returns-then-i-rows : goal.returns-then-i-rows
returns-then-i-rows c =
    let last : c.args.i ≡ height c.args.program.now = c.if-i-rows.true ∙ c.rows.ensures.value in
    rw last c.cost_entries.ensures

pub returns : goal.returns
returns c =
    let inside : c.args.i < height c.args.program.now = omega (arith, c.requires, c.if-i-rows.false, c.rows.ensures.value) in
    rw (c.in_ok-push.ensures.items, c.columns.ensures.value)
    (entries_of_row_done c.args.program.now c.args.i c.in_ok-entries.entries.items c.whole.result inside
    c.whole.ensures c.in_ok-entries.ensures)
