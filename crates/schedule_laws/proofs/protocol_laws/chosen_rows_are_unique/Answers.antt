use Rattle.schedule_laws.proofs.SharedChoice.{mpcp_choice_one, fmlp_plus_choice_one}
use Rattle.schedule_laws.proofs.DpcpChoice.{dpcp_choice_one}
use Rattle.schedule_laws.proofs.protocol_laws.chosen_rows_are_unique.Goals as goal

pub returns-clause-mpcp : goal.returns-clause-mpcp
returns-clause-mpcp c = mpcp_choice_one

pub returns-clause-fmlp_plus : goal.returns-clause-fmlp_plus
returns-clause-fmlp_plus c = fmlp_plus_choice_one

pub returns-clause-dpcp : goal.returns-clause-dpcp
returns-clause-dpcp c = dpcp_choice_one
