use Rattle.dflp_protocol.proofs.DflpJudge.choose.Goals as goal

pub returns-clause-chosen : goal.returns-clause-chosen
returns-clause-chosen c = λ rows shows e before. c.choose.ensures.chosen rows shows e
