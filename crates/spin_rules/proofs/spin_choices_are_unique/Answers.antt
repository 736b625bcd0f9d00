use Rattle.spin_rules.proofs.SpinChoice.{spin_choice_one}
use Rattle.spin_rules.proofs.spin_choices_are_unique.Goals as goal

pub returns : goal.returns
returns c = spin_choice_one
