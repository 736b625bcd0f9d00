use Rattle.sporadic_model.proofs.Laws.{formed_of_accepted}
use Rattle.schedule_model.specs.ByProtocol.{interference_of}
use Rattle.charge_laws.specs.ByProtocol.{charges_of}
use Rattle.row_laws.proofs.Joined.{blocked_bounded}
use Rattle.row_laws.proofs.ByProtocol.{blocked_in_column, named_point_within}
use Rattle.row_laws.proofs.dual_laws.duals_bound_blocked_ticks.Goals as goal

pub returns : goal.returns
returns c = λ p w bounds n j den num accepted lawful keeps listed ended covers.
    blocked_bounded (charges_of p) p (interference_of p) w bounds n j den num
    (named_point_within p w bounds n j
    (record { formed = formed_of_accepted w.set accepted; lawful = lawful; listed = listed; ended = ended }) keeps)
    (λ t l blocked. blocked_in_column p w n t j lawful keeps l blocked) covers
