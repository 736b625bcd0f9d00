use Rattle.response_fixpoint.proofs.analysis.analyse.Goals as goal

pub returns-clause-never_wide : goal.returns-clause-never_wide
returns-clause-never_wide g c = λ nothing.
    c.analyse_with.ensures.never_wide (c.no_requests_no_columns.ensures c.args.protocol c.args.set.now nothing)

pub returns-clause-enough : goal.returns-clause-enough
returns-clause-enough g c =
    λ nothing. c.analyse_with.ensures.enough (c.no_requests_no_columns.ensures c.args.protocol c.args.set.now nothing)
