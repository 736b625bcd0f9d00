use Rattle.sporadic_model.proofs.Laws.{formed_of_accepted}
use Rattle.closer_distributed_laws.proofs.Points.{dpcp_closer_point, dflp_closer_point}
use Rattle.closer_distributed_laws.proofs.fractions_meet_closer_rows.Goals as goal

pub returns-clause-dpcp : goal.returns-clause-dpcp
returns-clause-dpcp c =
    λ w bounds n j accepted lawful keeps listed ended. dpcp_closer_point w bounds n j
    (record { formed = formed_of_accepted w.set accepted; lawful = lawful; listed = listed; ended = ended }) keeps

pub returns-clause-dflp : goal.returns-clause-dflp
returns-clause-dflp c =
    λ w bounds n j accepted lawful keeps listed ended. dflp_closer_point w bounds n j
    (record { formed = formed_of_accepted w.set accepted; lawful = lawful; listed = listed; ended = ended }) keeps
