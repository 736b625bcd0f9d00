use Rattle.schedule_laws.proofs.SharedAgreement.{mpcp_rules_read, fmlp_plus_rules_read, mpcp_choice_reads, fmlp_plus_choice_reads}
use Rattle.schedule_laws.proofs.DpcpAgreement.{dpcp_rules_read, dpcp_choice_reads}
use Rattle.schedule_laws.proofs.TickAgreement.{executing_agree, shared_interference_agree, dpcp_interference_agree}
use Rattle.schedule_laws.proofs.TickAgreement.{blocked_reads, interferer_reads, taken_reads}
use Rattle.schedule_laws.proofs.agreement_laws.rules_depend_on_earlier_rows.Goals as goal

pub returns-clause-mpcp : goal.returns-clause-mpcp
returns-clause-mpcp c = record {
  rules = mpcp_rules_read;
  choice = mpcp_choice_reads;
  interference = shared_interference_agree;
}

pub returns-clause-fmlp_plus : goal.returns-clause-fmlp_plus
returns-clause-fmlp_plus c = record {
  rules = fmlp_plus_rules_read;
  choice = fmlp_plus_choice_reads;
  interference = shared_interference_agree;
}

pub returns-clause-dpcp : goal.returns-clause-dpcp
returns-clause-dpcp c = record {
  rules = dpcp_rules_read;
  choice = dpcp_choice_reads;
  interference = dpcp_interference_agree;
}

pub returns-clause-executing : goal.returns-clause-executing
returns-clause-executing c = executing_agree

pub returns-clause-blocked : goal.returns-clause-blocked
returns-clause-blocked c = blocked_reads

pub returns-clause-interferer : goal.returns-clause-interferer
returns-clause-interferer c = λ interferes y reads v w n t j a l. interferer_reads interferes reads v w n t j y a l

pub returns-clause-taken : goal.returns-clause-taken
returns-clause-taken c = taken_reads
