use Rattle.indirect_constraints.proofs.Beside.{added_at}
use Rattle.indirect_constraints.proofs.tables.add_at.Goals as goal

pub returns-clause-each : goal.returns-clause-each
returns-clause-each c = λ k. added_at c.args.table.now c.args.place c.args.number k c.requires.place
