use Rattle.program_sources.proofs.RecurrenceLaws.{one_response, response_comes_up, response_is_greatest}
use Rattle.program_sources.proofs.laws.the_recurrence_has_one_value.Goals as goal

pub returns-clause-one : goal.returns-clause-one
returns-clause-one c = one_response

pub returns-clause-comes_up : goal.returns-clause-comes_up
returns-clause-comes_up c = response_comes_up

pub returns-clause-greatest : goal.returns-clause-greatest
returns-clause-greatest c = response_is_greatest
