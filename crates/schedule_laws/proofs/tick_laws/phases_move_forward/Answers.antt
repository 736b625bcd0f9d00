use Rattle.std.proofs.Common.{add-one}
use Rattle.schedule_laws.proofs.Ticks.{phase_waits, finished_stays, open_between, requests_rise, one_resource}
use Rattle.schedule_laws.proofs.tick_laws.phases_move_forward.Goals as goal

pub returns-clause-waits : goal.returns-clause-waits
returns-clause-waits c = λ w t j h. rw add-one (phase_waits w t j h)

pub returns-clause-finished : goal.returns-clause-finished
returns-clause-finished c = finished_stays

pub returns-clause-between : goal.returns-clause-between
returns-clause-between c = open_between

pub returns-clause-forward : goal.returns-clause-forward
returns-clause-forward c = requests_rise

pub returns-clause-resource : goal.returns-clause-resource
returns-clause-resource c = one_resource
