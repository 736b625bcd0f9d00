use Rattle.fraction128.proofs.ScalingLemmas.{least_exists, one_least, none_serves}
use Rattle.fraction128.proofs.laws.least_decides.Goals as goal

pub returns-clause-exists : goal.returns-clause-exists
returns-clause-exists c fs forms = least_exists fs forms

pub returns-clause-one : goal.returns-clause-one
returns-clause-one c fs l m h k = one_least fs l m h k

pub returns-clause-none_serves : goal.returns-clause-none_serves
returns-clause-none_serves c fs l m forms h wide serves = none_serves fs l forms h wide m serves
