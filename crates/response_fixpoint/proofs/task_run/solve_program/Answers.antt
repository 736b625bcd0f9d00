use Rattle.std.proofs.Common.{refl}
use Rattle.response_fixpoint.proofs.SolutionLaws.{solved_solution}
use Rattle.response_fixpoint.proofs.task_run.solve_program.Goals as goal

pub returns-in-Ok : goal.returns-in-Ok
returns-in-Ok c = solved_solution _ _ c.in-Ok.solved _ c.rows-rows.ensures.program c.in-Ok.ensures.run c.in-Ok.ensures.optimum
    refl c.whole_part.ensures.value c.whole_part.ensures.most refl refl
