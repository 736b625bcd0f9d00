use Rattle.std.proofs.Common.{subst}
use Rattle.sporadic_model.specs.Accepted.{IsAccepted}
use Rattle.sporadic_model.proofs.Laws.{numbers_of_accepted, sizes_of_accepted, homes_of_accepted, names_of_accepted}
use Rattle.sporadic_model.proofs.Laws.{entries_of_accepted, requests_of_accepted}
use Rattle.sporadic_model.proofs.task_set.TaskSet.keeps_the_model.Goals as goal

pub returns-clause-sizes : goal.returns-clause-sizes
returns-clause-sizes c =
    let accepted : IsAccepted c.args.self.now = subst IsAccepted c.self.view_is c.self.invariant.accepted in
    sizes_of_accepted c.args.self.now accepted

pub returns-clause-names : goal.returns-clause-names
returns-clause-names c =
    let accepted : IsAccepted c.args.self.now = subst IsAccepted c.self.view_is c.self.invariant.accepted in
    names_of_accepted c.args.self.now accepted

pub returns-clause-homes : goal.returns-clause-homes
returns-clause-homes c =
    let accepted : IsAccepted c.args.self.now = subst IsAccepted c.self.view_is c.self.invariant.accepted in
    homes_of_accepted c.args.self.now accepted

pub returns-clause-numbers : goal.returns-clause-numbers
returns-clause-numbers c =
    let accepted : IsAccepted c.args.self.now = subst IsAccepted c.self.view_is c.self.invariant.accepted in
    λ x. numbers_of_accepted c.args.self.now x accepted

pub returns-clause-entries : goal.returns-clause-entries
returns-clause-entries c =
    let accepted : IsAccepted c.args.self.now = subst IsAccepted c.self.view_is c.self.invariant.accepted in
    λ x. entries_of_accepted c.args.self.now x accepted

pub returns-clause-requests : goal.returns-clause-requests
returns-clause-requests c =
    let accepted : IsAccepted c.args.self.now = subst IsAccepted c.self.view_is c.self.invariant.accepted in
    λ x j. requests_of_accepted c.args.self.now x j accepted
