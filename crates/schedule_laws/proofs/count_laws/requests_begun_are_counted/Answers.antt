use Rattle.schedule_laws.proofs.Begun.{requests_begun_up, requests_begun_at_most, open_if_begun, begun_while_open}
use Rattle.schedule_laws.proofs.count_laws.requests_begun_are_counted.Goals as goal

pub returns-clause-up : goal.returns-clause-up
returns-clause-up c = requests_begun_up

pub returns-clause-most : goal.returns-clause-most
returns-clause-most c = requests_begun_at_most

pub returns-clause-open : goal.returns-clause-open
returns-clause-open c = open_if_begun

pub returns-clause-same : goal.returns-clause-same
returns-clause-same c = begun_while_open
