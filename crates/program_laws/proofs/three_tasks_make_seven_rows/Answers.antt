use Rattle.std.proofs.Common.{refl}
use Rattle.program_laws.proofs.three_tasks_make_seven_rows.Goals as goal

pub returns : goal.returns
returns c = refl
