use Rattle.program_form.proofs.Accepted.{length_exact, uncovered_exact, large_exact, is_program, not_refused}
use Rattle.program_form.proofs.laws.refusals_are_exact.Goals as goal

pub returns-clause-length : goal.returns-clause-length
returns-clause-length c = length_exact

pub returns-clause-uncovered : goal.returns-clause-uncovered
returns-clause-uncovered c = uncovered_exact

pub returns-clause-large : goal.returns-clause-large
returns-clause-large c = large_exact

pub returns-clause-none : goal.returns-clause-none
returns-clause-none c = λ p few_columns few_rows. (is_program p few_columns few_rows, not_refused p)
