use Rattle.exchange_runs.proofs.Course.{zero_past_run}
use Rattle.exchange_runs.proofs.Once.{one_run, forms, no_later}
use Rattle.exchange_runs.proofs.Finals.{one_end}
use Rattle.exchange_runs.proofs.laws.a_run_has_one_course.Goals as goal

pub returns-clause-table : goal.returns-clause-table
returns-clause-table c = one_run

pub returns-clause-cells : goal.returns-clause-cells
returns-clause-cells c = forms

pub returns-clause-past : goal.returns-clause-past
returns-clause-past c = zero_past_run

pub returns-clause-end : goal.returns-clause-end
returns-clause-end c = one_end

pub returns-clause-no_later : goal.returns-clause-no_later
returns-clause-no_later c = no_later
