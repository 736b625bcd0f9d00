use Rattle.dpcp_rules.proofs.DpcpJudge.choose.Goals as goal

pub returns-clause-chosen : goal.returns-clause-chosen
returns-clause-chosen c = λ rows shows e before. c.choose.ensures.chosen rows shows e
