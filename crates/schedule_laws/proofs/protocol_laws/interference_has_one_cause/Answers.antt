use Rattle.schedule_model.specs.BlockedTicks.{is_shared_interference, is_dpcp_interference}
use Rattle.schedule_laws.proofs.Interferers.{interferer_is, interferer_one, shared_interferer, shared_interferer_higher}
use Rattle.schedule_laws.proofs.Interferers.{dpcp_interferer, dpcp_interferer_higher}
use Rattle.schedule_laws.proofs.protocol_laws.interference_has_one_cause.Goals as goal

pub returns-clause-shared : goal.returns-clause-shared
returns-clause-shared c = record {
  cause = λ w t j. (shared_interferer w t j, λ a. (interferer_is is_shared_interference w t j a.0 a.1).tick);
  higher = shared_interferer_higher;
}

pub returns-clause-dpcp : goal.returns-clause-dpcp
returns-clause-dpcp c = record {
  cause = λ w t j. (dpcp_interferer w t j, λ a. (interferer_is is_dpcp_interference w t j a.0 a.1).tick);
  higher = λ w t j y h. (dpcp_interferer_higher w t j y h).0;
}

pub returns-clause-one : goal.returns-clause-one
returns-clause-one c = interferer_one

pub returns-clause-dpcp_local : goal.returns-clause-dpcp_local
returns-clause-dpcp_local c = λ w t j y h. (dpcp_interferer_higher w t j y h).1
