use Rattle.exchange_runs.proofs.Course.{has_outcome}
use Rattle.exchange_runs.proofs.Finals.{one_answer, ends_not_wide, ends_not_more, wide_not_more}
use Rattle.exchange_runs.proofs.laws.a_run_gives_one_answer.Goals as goal

pub returns-clause-some : goal.returns-clause-some
returns-clause-some c = has_outcome

pub returns-clause-answer : goal.returns-clause-answer
returns-clause-answer c = one_answer

pub returns-clause-end_not_wide : goal.returns-clause-end_not_wide
returns-clause-end_not_wide c = ends_not_wide

pub returns-clause-end_not_more : goal.returns-clause-end_not_more
returns-clause-end_not_more c = ends_not_more

pub returns-clause-wide_not_more : goal.returns-clause-wide_not_more
returns-clause-wide_not_more c = wide_not_more
