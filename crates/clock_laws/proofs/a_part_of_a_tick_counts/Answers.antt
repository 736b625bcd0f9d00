use Rattle.std.proofs.Common.{refl}
use Rattle.clock_laws.proofs.WorkedClock.{fourteen_cycles}
use Rattle.clock_laws.proofs.a_part_of_a_tick_counts.Goals as goal

pub returns-clause-ticks : goal.returns-clause-ticks
returns-clause-ticks c = refl

pub returns-clause-cycles : goal.returns-clause-cycles
returns-clause-cycles c = fourteen_cycles
