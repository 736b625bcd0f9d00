use Rattle.least_laws.proofs.LeastLaws.{meeting_is_greatest}
use Rattle.least_laws.proofs.a_point_and_a_dual_that_meet_decide_the_greatest.Goals as goal

pub returns : goal.returns
returns c = meeting_is_greatest
