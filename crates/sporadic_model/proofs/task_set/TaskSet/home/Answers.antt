use Rattle.std.proofs.Common.{◌≡◌, ap, ◌∙◌, arith, sym, Some}
use Rattle.sporadic_model.specs.SetDef.{resource_at}
use Rattle.sporadic_model.specs.Accepted.{SetSizes}
use Rattle.sporadic_model.proofs.task_set.TaskSet.home.Goals as goal

pub overflow_cast-result : goal.overflow_cast-result
overflow_cast-result c =
    let given : (resource_at c.args.self.now c.args.q.0).home ≡ Some c.in-Some.processor =
    sym (ap (λ r. r.home) c.resource.ensures.seen) ∙ c.in-Some.is in
    let sizes : SetSizes c.args.self.now = c.resource.ensures.sizes in
    let from = c.resource.ensures.homes.homes_from c.args.q.0 c.in-Some.processor c.requires given in
    let to = c.resource.ensures.homes.homes_to c.args.q.0 c.in-Some.processor c.requires given in
    omega arith

pub returns-in-Some-clause-least : goal.returns-in-Some-clause-least
returns-in-Some-clause-least c =
    let given : (resource_at c.args.self.now c.args.q.0).home ≡ Some c.in-Some.processor =
    sym (ap (λ r. r.home) c.resource.ensures.seen) ∙ c.in-Some.is in
    let sizes : SetSizes c.args.self.now = c.resource.ensures.sizes in
    let from = c.resource.ensures.homes.homes_from c.args.q.0 c.in-Some.processor c.requires given in
    let to = c.resource.ensures.homes.homes_to c.args.q.0 c.in-Some.processor c.requires given in
    omega arith

pub returns-in-Some-clause-most : goal.returns-in-Some-clause-most
returns-in-Some-clause-most c =
    let given : (resource_at c.args.self.now c.args.q.0).home ≡ Some c.in-Some.processor =
    sym (ap (λ r. r.home) c.resource.ensures.seen) ∙ c.in-Some.is in
    let sizes : SetSizes c.args.self.now = c.resource.ensures.sizes in
    let from = c.resource.ensures.homes.homes_from c.args.q.0 c.in-Some.processor c.requires given in
    let to = c.resource.ensures.homes.homes_to c.args.q.0 c.in-Some.processor c.requires given in
    omega arith
