use Rattle.std.specs.Prelude.{slice_index}
use Rattle.charge.proofs.PassedNext.{none_passed_by}
use Rattle.charge.proofs.laws.sound_bounds_are_never_passed.Goals as goal

pub returns-clause-finished : goal.returns-clause-finished
returns-clause-finished g c = λ p set bounds values w n j sound lawful l passed. (sound w n lawful).finished j l passed

pub returns-clause-none : goal.returns-clause-none
returns-clause-none g c = λ p set bounds values w n sound lawful. none_passed_by w (slice_index bounds) n (sound w n lawful).finished
