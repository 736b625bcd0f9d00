use Rattle.sporadic_model.proofs.Laws.{formed_of_accepted}
use Rattle.soundness_laws.proofs.Instances.{mpcp_analyses, fmlp_analyses, dpcp_analyses}
use Rattle.soundness_laws.proofs.programs_analyse_their_protocols.Goals as goal

pub returns-clause-mpcp : goal.returns-clause-mpcp
returns-clause-mpcp c = λ set accepted. mpcp_analyses set (formed_of_accepted set accepted)

pub returns-clause-fmlp_plus : goal.returns-clause-fmlp_plus
returns-clause-fmlp_plus c = λ set accepted. fmlp_analyses set (formed_of_accepted set accepted)

pub returns-clause-dpcp : goal.returns-clause-dpcp
returns-clause-dpcp c = λ set accepted. dpcp_analyses set (formed_of_accepted set accepted)
