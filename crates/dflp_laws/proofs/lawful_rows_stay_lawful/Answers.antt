use Rattle.dflp_laws.proofs.Stretches.{dflp_stays_lawful}
use Rattle.dflp_laws.proofs.lawful_rows_stay_lawful.Goals as goal

pub returns : goal.returns
returns c = dflp_stays_lawful
