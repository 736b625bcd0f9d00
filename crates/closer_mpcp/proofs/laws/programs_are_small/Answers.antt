use Rattle.mpcp_window_laws.proofs.Programs.{mpcp_closer_height}
use Rattle.closer_mpcp.proofs.FewColumns.{mpcp_closer_width}
use Rattle.closer_mpcp.proofs.laws.programs_are_small.Goals as goal

pub returns-clause-columns : goal.returns-clause-columns
returns-clause-columns c = mpcp_closer_width

pub returns-clause-rows : goal.returns-clause-rows
returns-clause-rows c = mpcp_closer_height
