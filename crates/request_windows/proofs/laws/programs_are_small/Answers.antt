use Rattle.request_windows.proofs.FewRows.{windowed_height, windowed_width}
use Rattle.request_windows.proofs.laws.programs_are_small.Goals as goal

pub returns-clause-columns : goal.returns-clause-columns
returns-clause-columns c = windowed_width

pub returns-clause-rows : goal.returns-clause-rows
returns-clause-rows c = windowed_height
