use Rattle.schedule_laws.proofs.Holders.{shared_holder_stays, dpcp_holder_stays}
use Rattle.schedule_laws.proofs.request_laws.holders_stay.Goals as goal

pub returns-clause-shared : goal.returns-clause-shared
returns-clause-shared c = shared_holder_stays

pub returns-clause-distributed : goal.returns-clause-distributed
returns-clause-distributed c = dpcp_holder_stays
