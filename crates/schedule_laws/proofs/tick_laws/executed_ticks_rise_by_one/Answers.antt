use Rattle.std.proofs.Common.{add-one}
use Rattle.schedule_laws.proofs.Ticks.{executed_none, executed_next}
use Rattle.schedule_laws.proofs.tick_laws.executed_ticks_rise_by_one.Goals as goal

pub returns-clause-none : goal.returns-clause-none
returns-clause-none c = executed_none

pub returns-clause-next : goal.returns-clause-next
returns-clause-next c = λ w t j. rw add-one (executed_next w t j)
