use Rattle.simplex.proofs.Solving.{only_answer, solved_optimum, solved_primal, solved_dual, solved_equal, solved_greatest}
use Rattle.simplex.proofs.solve_sparse.Goals as goal

pub returns-clause-only : goal.returns-clause-only
returns-clause-only c =
    only_answer c.run_either.result c.args.program.now c.args.units c.run_either.ensures.program c.run_either.ensures.outcome

pub returns-clause-optimum : goal.returns-clause-optimum
returns-clause-optimum c = solved_optimum c.run_either.result c.args.program.now c.args.units c.run_either.ensures.outcome

pub returns-clause-primal : goal.returns-clause-primal
returns-clause-primal c = solved_primal c.run_either.result c.args.program.now c.args.units c.run_either.ensures.outcome

pub returns-clause-dual : goal.returns-clause-dual
returns-clause-dual c = solved_dual c.run_either.result c.args.program.now c.args.units c.run_either.ensures.outcome

pub returns-clause-equal : goal.returns-clause-equal
returns-clause-equal c = solved_equal c.run_either.result c.args.program.now c.args.units c.run_either.ensures.outcome

pub returns-clause-greatest : goal.returns-clause-greatest
returns-clause-greatest c = solved_greatest c.run_either.result c.args.program.now c.args.units c.run_either.ensures.outcome
