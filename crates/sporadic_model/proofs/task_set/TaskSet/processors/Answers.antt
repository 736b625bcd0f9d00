use Rattle.std.proofs.Common.{arith}
use Rattle.std.proofs.lemmas.List.{length-map}
use Rattle.sporadic_model.specs.Seen.{parts_seen, resource_seen}
use Rattle.sporadic_model.specs.Accepted.{SetSizes}
use Rattle.sporadic_model.proofs.Laws.{sizes_of_accepted}
use Rattle.sporadic_model.proofs.task_set.TaskSet.processors.Goals as goal

pub overflow_cast-result : goal.overflow_cast-result
overflow_cast-result c =
    let sizes : SetSizes (parts_seen c.self.inside.parts) = sizes_of_accepted _ c.self.invariant.accepted in
    let parts = length-map c.self.inside.parts.resources.items resource_seen in
    omega arith

pub returns-clause-most : goal.returns-clause-most
returns-clause-most c =
    let sizes : SetSizes (parts_seen c.self.inside.parts) = sizes_of_accepted _ c.self.invariant.accepted in
    let parts = length-map c.self.inside.parts.resources.items resource_seen in
    omega arith

pub returns-clause-least : goal.returns-clause-least
returns-clause-least c =
    let sizes : SetSizes (parts_seen c.self.inside.parts) = sizes_of_accepted _ c.self.invariant.accepted in
    let parts = length-map c.self.inside.parts.resources.items resource_seen in
    omega arith
