use Rattle.fmlp_rules.proofs.FmlpPlusJudge.choose.Goals as goal

pub returns-clause-chosen : goal.returns-clause-chosen
returns-clause-chosen c = λ rows shows e before. c.choose_shared.ensures.chosen rows shows e
