use Rattle.whole_runs.proofs.Choosing.{first_enters}
use Rattle.whole_runs.proofs.choice.entering.Goals as goal

pub returns : goal.returns
returns c basis =
    let size = c.requires.table.1 in
    first_enters c.args.program.now c.args.rows.now basis c.requires.table.0 c.args.stands.now c.objective.result.now size.stand_each
    c.requires.table.2 c.objective.ensures.row c.first_above.result c.first_above.ensures
