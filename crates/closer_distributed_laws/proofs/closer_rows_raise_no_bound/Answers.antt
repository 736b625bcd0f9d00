use Rattle.closer_distributed_laws.proofs.Sound.{dpcp_closer_fitting, dpcp_closer_no_greater, dflp_closer_fitting, dflp_closer_no_greater}
use Rattle.closer_distributed_laws.proofs.closer_rows_raise_no_bound.Goals as goal

pub returns-clause-dpcp : goal.returns-clause-dpcp
returns-clause-dpcp c = dpcp_closer_fitting

pub returns-clause-dflp : goal.returns-clause-dflp
returns-clause-dflp c = dflp_closer_fitting

pub returns-clause-least_dpcp : goal.returns-clause-least_dpcp
returns-clause-least_dpcp c = dpcp_closer_no_greater

pub returns-clause-least_dflp : goal.returns-clause-least_dflp
returns-clause-least_dflp c = dflp_closer_no_greater
