use Rattle.fraction128.proofs.Unique.{one_same, one_sum, one_difference, one_product, one_quotient}
use Rattle.fraction128.proofs.laws.one_answer.Goals as goal

pub returns-clause-same : goal.returns-clause-same
returns-clause-same c a form f g h k p q = one_same a f g form h k p q

pub returns-clause-sum : goal.returns-clause-sum
returns-clause-sum c a b left right f g h k p q = one_sum a b f g left right h k p q

pub returns-clause-difference : goal.returns-clause-difference
returns-clause-difference c a b left right f g h k p q = one_difference a b f g left right h k p q

pub returns-clause-product : goal.returns-clause-product
returns-clause-product c a b left right f g h k p q = one_product a b f g left right h k p q

pub returns-clause-quotient : goal.returns-clause-quotient
returns-clause-quotient c a b left apart f g h k p q = one_quotient a b f g left apart h k p q
