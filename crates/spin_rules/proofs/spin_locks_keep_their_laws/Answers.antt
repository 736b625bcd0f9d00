use Rattle.schedule_laws.proofs.SharedLaws.{shared_one_of_three}
use Rattle.spin_rules.proofs.SpinLaws.{spin_sound_row}
use Rattle.spin_rules.proofs.spin_locks_keep_their_laws.Goals as goal

pub returns-clause-one_of_three : goal.returns-clause-one_of_three
returns-clause-one_of_three c = shared_one_of_three

pub returns-clause-sound_row : goal.returns-clause-sound_row
returns-clause-sound_row c = spin_sound_row

pub returns-clause-chosen_keeps : goal.returns-clause-chosen_keeps
returns-clause-chosen_keeps c = λ w t chosen. chosen.keeps
