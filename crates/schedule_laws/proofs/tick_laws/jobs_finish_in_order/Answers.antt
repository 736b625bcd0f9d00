use Rattle.schedule_laws.proofs.Predecessors.{finished_in_order, active_after}
use Rattle.schedule_laws.proofs.tick_laws.jobs_finish_in_order.Goals as goal

pub returns-clause-order : goal.returns-clause-order
returns-clause-order c = finished_in_order

pub returns-clause-after : goal.returns-clause-after
returns-clause-after c = active_after
