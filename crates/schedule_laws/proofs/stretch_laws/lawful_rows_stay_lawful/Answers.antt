use Rattle.schedule_laws.proofs.SharedStretches.{mpcp_stays_lawful, fmlp_plus_stays_lawful}
use Rattle.schedule_laws.proofs.DpcpStretches.{dpcp_stays_lawful}
use Rattle.schedule_laws.proofs.stretch_laws.lawful_rows_stay_lawful.Goals as goal

pub returns-clause-mpcp : goal.returns-clause-mpcp
returns-clause-mpcp c = mpcp_stays_lawful

pub returns-clause-fmlp_plus : goal.returns-clause-fmlp_plus
returns-clause-fmlp_plus c = fmlp_plus_stays_lawful

pub returns-clause-dpcp : goal.returns-clause-dpcp
returns-clause-dpcp c = dpcp_stays_lawful
