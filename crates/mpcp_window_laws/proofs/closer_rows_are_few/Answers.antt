use Rattle.mpcp_window_laws.proofs.Programs.{mpcp_closer_height}
use Rattle.mpcp_window_laws.proofs.closer_rows_are_few.Goals as goal

pub returns : goal.returns
returns c = mpcp_closer_height
