use Rattle.std.proofs.Common.{ap, arith, length}
use Rattle.schedule_model.proofs.KeptJobLaws.{between-length}
use Rattle.schedule_model.proofs.listed.ListedScript.at.Goals as goal

pub overflow_add-self-inside : goal.overflow_add-self-inside
overflow_add-self-inside c =
    let inside = c.self.inside in
    let count = between-length inside.from inside.end inside.segments.now c.self.invariant.order c.self.invariant.within in
    omega (arith, count, ap length c.self.view_is, c.requires)
