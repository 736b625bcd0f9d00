use Rattle.std.proofs.Common.{refl}
use Rattle.spin_charging.proofs.three_tasks_make_eleven_rows.Goals as goal

pub returns : goal.returns
returns c = refl
