use Rattle.response_fixpoint.proofs.SolutionLaws.{units_from_ahead}
use Rattle.response_fixpoint.proofs.task_run.solve_here.Goals as goal

pub returns-in-Some-Err-Units : goal.returns-in-Some-Err-Units
returns-in-Some-Err-Units c =
    let here = c.in-Some-Err-Units in
    units_from_ahead c.args.program.now c.args.left c.args.ahead here.field-0 here.field-0-0
    c.requires.ahead here.is here.field-0-is here.field-0-0-is
