use Rattle.sporadic_model.specs.Homes.{EachHasHome}
use Rattle.schedule_model.specs.Ranks.{mpcp, fmlp_plus}
use Rattle.schedule_model.specs.Protocols.{shared_rule, dpcp_rule, EachSetSuits}
use Rattle.charge_laws.proofs.Stretches.{shared_stays_charged, dpcp_stays_charged}
use Rattle.charge_laws.proofs.charge_laws.charges_stay_through_stretches.Goals as goal

pub returns-clause-mpcp : goal.returns-clause-mpcp
returns-clause-mpcp c = shared_stays_charged EachSetSuits (shared_rule mpcp)

pub returns-clause-fmlp_plus : goal.returns-clause-fmlp_plus
returns-clause-fmlp_plus c = shared_stays_charged EachSetSuits (shared_rule fmlp_plus)

pub returns-clause-dpcp : goal.returns-clause-dpcp
returns-clause-dpcp c = dpcp_stays_charged EachHasHome dpcp_rule
