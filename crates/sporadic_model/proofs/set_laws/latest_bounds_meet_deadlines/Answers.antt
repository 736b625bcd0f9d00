use Rattle.sporadic_model.proofs.Laws.{latest_meets}
use Rattle.sporadic_model.proofs.set_laws.latest_bounds_meet_deadlines.Goals as goal

pub returns : goal.returns
returns c = latest_meets
