use Rattle.std.proofs.Common.{◌∙◌, ap, not}
use Rattle.whole_runs.proofs.Taking.{touched_first, touched_before}
use Rattle.whole_runs.proofs.exchange.touch.Goals as goal

pub returns-in_ok-first_row : goal.returns-in_ok-first_row
returns-in_ok-first_row c =
    touched_first c.args.program.now c.args.i c.args.row.now c.in_ok-first_row.field-0
    (c.is_none.ensures ∙ ap not c.if-is_none.true) c.in_ok-first_row.ensures

pub returns-else-is_none : goal.returns-else-is_none
returns-else-is_none c =
    touched_before c.args.program.now c.args.i c.args.row.now (c.is_none.ensures ∙ ap not c.if-is_none.false) c.requires
