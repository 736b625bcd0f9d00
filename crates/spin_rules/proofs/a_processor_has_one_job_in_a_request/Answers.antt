use Rattle.spin_rules.proofs.SpinFacts.{one_in_request}
use Rattle.spin_rules.proofs.a_processor_has_one_job_in_a_request.Goals as goal

pub returns : goal.returns
returns c = one_in_request
