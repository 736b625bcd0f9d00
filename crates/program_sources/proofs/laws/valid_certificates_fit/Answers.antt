use Rattle.program_sources.proofs.RecurrenceLaws.{valid_fits}
use Rattle.program_sources.proofs.laws.valid_certificates_fit.Goals as goal

pub returns : goal.returns
returns c = valid_fits
