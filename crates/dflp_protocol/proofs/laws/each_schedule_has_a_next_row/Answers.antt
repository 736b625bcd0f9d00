use Rattle.dflp_protocol.proofs.NextRow.{next_row, next_lawful_row}
use Rattle.dflp_protocol.proofs.laws.each_schedule_has_a_next_row.Goals as goal

pub returns-clause-taken : goal.returns-clause-taken
returns-clause-taken c = next_row

pub returns-clause-lawful : goal.returns-clause-lawful
returns-clause-lawful c = next_lawful_row
