use Rattle.exchange_runs.proofs.FreeEnds.{enough_units}
use Rattle.exchange_runs.proofs.end_laws.enough_units_give_an_end.Goals as goal

pub returns : goal.returns
returns c = enough_units
