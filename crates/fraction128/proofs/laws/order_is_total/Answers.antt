use Rattle.fraction128.proofs.OrderLemmas.{at_most_trans, at_most_either, at_most_both}
use Rattle.fraction128.proofs.laws.order_is_total.Goals as goal

pub returns-clause-transitive : goal.returns-clause-transitive
returns-clause-transitive c a b e fa fb fe h k = at_most_trans a b e fa fb fe h k

pub returns-clause-total : goal.returns-clause-total
returns-clause-total c a b = at_most_either a b

pub returns-clause-antisymmetric : goal.returns-clause-antisymmetric
returns-clause-antisymmetric c a b fa fb h k = at_most_both a b fa fb h k
