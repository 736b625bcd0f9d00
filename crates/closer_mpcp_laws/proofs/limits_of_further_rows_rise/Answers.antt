use Rattle.program_laws.specs.Written.{Rises}
use Rattle.program_laws.proofs.RisingLimits.{jobs_rise}
use Rattle.closer_mpcp_laws.proofs.FurtherRows.{further_each, further_rise}
use Rattle.closer_mpcp_laws.proofs.limits_of_further_rows_rise.Goals as goal

pub returns : goal.returns
returns c = λ set held i r s here h most.
    further_each (Rises r s) set held i (further_rise set held i r s here (jobs_rise set r s i here h) most)
