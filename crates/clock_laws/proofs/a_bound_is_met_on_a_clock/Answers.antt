use Rattle.clock_laws.proofs.WorkedClock.{lawful_on_clock, ends_at_bound, blocked_for_value}
use Rattle.clock_laws.proofs.a_bound_is_met_on_a_clock.Goals as goal

pub returns-clause-lawful : goal.returns-clause-lawful
returns-clause-lawful c = lawful_on_clock

pub returns-clause-last : goal.returns-clause-last
returns-clause-last c = ends_at_bound

pub returns-clause-blocked : goal.returns-clause-blocked
returns-clause-blocked c = blocked_for_value
