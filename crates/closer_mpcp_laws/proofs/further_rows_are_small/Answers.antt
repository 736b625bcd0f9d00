use Rattle.program_laws.specs.Written.{IsSmallRow}
use Rattle.closer_mpcp_laws.proofs.FurtherRows.{further_each, further_small, further_there}
use Rattle.closer_mpcp_laws.proofs.further_rows_are_small.Goals as goal

pub returns-clause-numbers : goal.returns-clause-numbers
returns-clause-numbers c = λ set held i r accepted within here most.
    further_each (IsSmallRow r) set held i (further_small set held i r accepted within here most)

pub returns-clause-rows : goal.returns-clause-rows
returns-clause-rows c = further_there
