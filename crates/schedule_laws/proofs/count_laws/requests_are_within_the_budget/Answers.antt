use Rattle.schedule_laws.proofs.Segments.{open_resource, open_user, open_segment}
use Rattle.schedule_laws.proofs.OwnRequests.{own_requests, all_requests}
use Rattle.schedule_laws.proofs.count_laws.requests_are_within_the_budget.Goals as goal

pub returns-clause-resource : goal.returns-clause-resource
returns-clause-resource c = λ set w t j m q lawful h. record {
  within = open_resource set w t j m q lawful h;
  user = open_user set w t j m q lawful h;
}

pub returns-clause-segment : goal.returns-clause-segment
returns-clause-segment c = λ w t j m q h. let at = open_segment w t j m q h in (at.within, at.asks)

pub returns-clause-own : goal.returns-clause-own
returns-clause-own c = own_requests

pub returns-clause-all : goal.returns-clause-all
returns-clause-all c = all_requests
