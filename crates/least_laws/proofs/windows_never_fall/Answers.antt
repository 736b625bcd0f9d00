use Rattle.program_sources.proofs.RecurrenceLaws.{interference_rises}
use Rattle.program_laws.proofs.RisingLimits.{jobs_rise}
use Rattle.least_laws.proofs.windows_never_fall.Goals as goal

pub returns-clause-jobs : goal.returns-clause-jobs
returns-clause-jobs c = λ set r s i x here there most. jobs_rise set r s i here most x there

pub returns-clause-interference : goal.returns-clause-interference
returns-clause-interference c = interference_rises
