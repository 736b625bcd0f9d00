use Rattle.exchange_runs.proofs.Finals.{ends_at_optimum, ends_at_point, ends_with_dual, ends_equal, ends_greatest}
use Rattle.exchange_runs.proofs.laws.the_end_is_the_optimum.Goals as goal

pub returns-clause-value : goal.returns-clause-value
returns-clause-value c = ends_at_optimum

pub returns-clause-point : goal.returns-clause-point
returns-clause-point c = ends_at_point

pub returns-clause-dual : goal.returns-clause-dual
returns-clause-dual c = ends_with_dual

pub returns-clause-equal : goal.returns-clause-equal
returns-clause-equal c = ends_equal

pub returns-clause-greatest : goal.returns-clause-greatest
returns-clause-greatest c = ends_greatest
