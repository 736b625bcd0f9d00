use Rattle.std.proofs.Common.{subst, arith}
use Rattle.std.proofs.lemmas.List.{length-map}
use Rattle.sporadic_model.specs.Seen.{parts_seen, task_seen}
use Rattle.sporadic_model.specs.Accepted.{IsAccepted, SetSizes}
use Rattle.sporadic_model.proofs.Laws.{numbers_of_accepted, sizes_of_accepted}
use Rattle.sporadic_model.proofs.task_set.TaskSet.tasks.Goals as goal

pub overflow_cast-result : goal.overflow_cast-result
overflow_cast-result c =
    let sizes : SetSizes (parts_seen c.self.inside.parts) = sizes_of_accepted _ c.self.invariant.accepted in
    let parts = length-map c.self.inside.parts.tasks.items task_seen in
    omega arith

pub returns-clause-least : goal.returns-clause-least
returns-clause-least c =
    let sizes : SetSizes (parts_seen c.self.inside.parts) = sizes_of_accepted _ c.self.invariant.accepted in
    let parts = length-map c.self.inside.parts.tasks.items task_seen in
    omega arith

pub returns-clause-most : goal.returns-clause-most
returns-clause-most c =
    let sizes : SetSizes (parts_seen c.self.inside.parts) = sizes_of_accepted _ c.self.invariant.accepted in
    let parts = length-map c.self.inside.parts.tasks.items task_seen in
    omega arith

pub returns-clause-sizes : goal.returns-clause-sizes
returns-clause-sizes c =
    let accepted : IsAccepted c.args.self.now = subst IsAccepted c.self.view_is c.self.invariant.accepted in
    sizes_of_accepted c.args.self.now accepted

pub returns-clause-numbers : goal.returns-clause-numbers
returns-clause-numbers c =
    let accepted : IsAccepted c.args.self.now = subst IsAccepted c.self.view_is c.self.invariant.accepted in
    λ x. numbers_of_accepted c.args.self.now x accepted
