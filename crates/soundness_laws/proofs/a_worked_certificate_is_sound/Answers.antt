use Rattle.std.proofs.Common.{[], ◌∷◌}
use Rattle.soundness_laws.specs.Worked.{two_tasks, two_bounds}
use Rattle.soundness_laws.proofs.ProtocolSoundness.{fmlp_sound}
use Rattle.soundness_laws.proofs.WorkedSet.{two_accepted, two_valid, two_values, bound_is_reached, value_is_reached}
use Rattle.soundness_laws.proofs.a_worked_certificate_is_sound.Goals as goal

pub returns-clause-accepted : goal.returns-clause-accepted
returns-clause-accepted c = two_accepted

pub returns-clause-valid : goal.returns-clause-valid
returns-clause-valid c = two_valid

pub returns-clause-values : goal.returns-clause-values
returns-clause-values c = two_values

pub returns-clause-sound : goal.returns-clause-sound
returns-clause-sound c = fmlp_sound two_tasks two_bounds (2 ∷ 1 ∷ []) two_accepted two_valid two_values

pub returns-clause-less_bound : goal.returns-clause-less_bound
returns-clause-less_bound c = bound_is_reached

pub returns-clause-less_value : goal.returns-clause-less_value
returns-clause-less_value c = value_is_reached
