use Rattle.shared_choosing.proofs.NextRow.{next_row_mpcp, next_row_fmlp_plus}
use Rattle.shared_choosing.proofs.laws.each_schedule_has_a_next_row.Goals as goal

pub returns-clause-mpcp : goal.returns-clause-mpcp
returns-clause-mpcp c = next_row_mpcp

pub returns-clause-fmlp_plus : goal.returns-clause-fmlp_plus
returns-clause-fmlp_plus c = next_row_fmlp_plus
