use Rattle.std.proofs.Common.{[], ◌∷◌}
use Rattle.soundness_laws.specs.Worked.{late_tasks, bounds_alone}
use Rattle.soundness_laws.proofs.ProtocolSoundness.{fmlp_sound}
use Rattle.soundness_laws.proofs.LateSet.{late_accepted, late_valid, late_values, late_bound_is_reached, too_late}
use Rattle.soundness_laws.proofs.a_worked_certificate_with_jitter_is_sound.Goals as goal

pub returns-clause-accepted : goal.returns-clause-accepted
returns-clause-accepted c = late_accepted

pub returns-clause-valid : goal.returns-clause-valid
returns-clause-valid c = late_valid

pub returns-clause-sound : goal.returns-clause-sound
returns-clause-sound c = fmlp_sound late_tasks (bounds_alone (2 ∷ 9 ∷ [])) (0 ∷ 0 ∷ []) late_accepted late_valid late_values

pub returns-clause-less_bound : goal.returns-clause-less_bound
returns-clause-less_bound c = late_bound_is_reached

pub returns-clause-too_late : goal.returns-clause-too_late
returns-clause-too_late c = too_late
