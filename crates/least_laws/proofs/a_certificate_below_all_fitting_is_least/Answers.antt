use Rattle.least_laws.proofs.LeastLaws.{certificate_least}
use Rattle.least_laws.proofs.a_certificate_below_all_fitting_is_least.Goals as goal

pub returns : goal.returns
returns c = certificate_least
