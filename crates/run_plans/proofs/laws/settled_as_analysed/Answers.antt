use Rattle.run_plans.proofs.SameAnswers.{finds_same}
use Rattle.run_plans.proofs.laws.settled_as_analysed.Goals as goal

pub returns : goal.returns
returns c first second = finds_same first second c.certificates_of_analyses_need_no_more_bits.ensures
