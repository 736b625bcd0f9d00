use Rattle.closer_distributed_laws.proofs.Programs.{dpcp_closer_rises, dflp_closer_rises, dflp_closer_follows}
use Rattle.closer_distributed_laws.proofs.closer_limits_rise_with_bounds.Goals as goal

pub returns-clause-dpcp : goal.returns-clause-dpcp
returns-clause-dpcp c = dpcp_closer_rises

pub returns-clause-dflp : goal.returns-clause-dflp
returns-clause-dflp c = dflp_closer_rises

pub returns-clause-follows : goal.returns-clause-follows
returns-clause-follows c = dflp_closer_follows
