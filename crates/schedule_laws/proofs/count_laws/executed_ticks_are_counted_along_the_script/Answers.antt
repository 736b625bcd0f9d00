use Rattle.schedule_laws.proofs.Counts.{executed_in_at_most, executed_in_finished, local_at_most, asking_at_most}
use Rattle.schedule_laws.proofs.Counts.{request_at_most, executed_within}
use Rattle.schedule_laws.proofs.count_laws.executed_ticks_are_counted_along_the_script.Goals as goal

pub returns-clause-most : goal.returns-clause-most
returns-clause-most c = executed_in_at_most

pub returns-clause-finished : goal.returns-clause-finished
returns-clause-finished c = executed_in_finished

pub returns-clause-local : goal.returns-clause-local
returns-clause-local c = local_at_most

pub returns-clause-resource : goal.returns-clause-resource
returns-clause-resource c = asking_at_most

pub returns-clause-request : goal.returns-clause-request
returns-clause-request c = request_at_most

pub returns-clause-all : goal.returns-clause-all
returns-clause-all c = executed_within
