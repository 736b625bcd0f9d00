use Rattle.std.proofs.Common.{arith}
use Rattle.response_fixpoint.proofs.WorkedRounds.{reached_alone, ends_alone, short_alone}
use Rattle.response_fixpoint.proofs.laws.three_tasks_take_four_rounds.Goals as goal

pub returns-clause-rounds : goal.returns-clause-rounds
returns-clause-rounds c = reached_alone 12 (omega arith)

pub returns-clause-ends : goal.returns-clause-ends
returns-clause-ends c = ends_alone

pub returns-clause-short : goal.returns-clause-short
returns-clause-short c = short_alone
