use Rattle.std.proofs.Common.{FitsSigned, rules}
use Rattle.std.specs.Int.{w128}
use Rattle.std.proofs.lemmas.Cmp.{int_ranked}
use Rattle.std.proofs.lemmas.Int.{to_z-of_z}
use Rattle.whole_runs.proofs.Choosing.{next_comes, best_comes, equal_comes}
use Rattle.whole_runs.proofs.choice.comes_before.Goals as goal

pub returns-in-Less : goal.returns-in-Less
returns-in-Less c =
    let left : FitsSigned w128 c.cross.result = search rules in
    let right : FitsSigned w128 c.cross-2.result = search rules in
    let below = rw (to_z-of_z w128 c.cross.result left, to_z-of_z w128 c.cross-2.result right) at c.in-Less.ensures in
    next_comes c.args.next c.args.best c.args.basis.now
    (rw (← c.cross.ensures, ← c.cross-2.ensures) (int_ranked c.cross.result c.cross-2.result _ below))

pub returns-in-Equal : goal.returns-in-Equal
returns-in-Equal c =
    let left : FitsSigned w128 c.cross.result = search rules in
    let right : FitsSigned w128 c.cross-2.result = search rules in
    let same = rw (to_z-of_z w128 c.cross.result left, to_z-of_z w128 c.cross-2.result right) at c.in-Equal.ensures in
    equal_comes c.args.next c.args.best c.args.basis.now
    (rw (← c.cross.ensures, ← c.cross-2.ensures) (int_ranked c.cross.result c.cross-2.result _ same))

pub returns-in-Greater : goal.returns-in-Greater
returns-in-Greater c =
    let left : FitsSigned w128 c.cross.result = search rules in
    let right : FitsSigned w128 c.cross-2.result = search rules in
    let above = rw (to_z-of_z w128 c.cross.result left, to_z-of_z w128 c.cross-2.result right) at c.in-Greater.ensures in
    best_comes c.args.next c.args.best c.args.basis.now
    (rw (← c.cross.ensures, ← c.cross-2.ensures) (int_ranked c.cross.result c.cross-2.result _ above))
