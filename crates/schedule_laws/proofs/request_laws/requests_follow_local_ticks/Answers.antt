use Rattle.schedule_laws.proofs.Ticks.{local_run_before}
use Rattle.schedule_laws.proofs.Holders.{open_active}
use Rattle.schedule_laws.proofs.request_laws.requests_follow_local_ticks.Goals as goal

pub returns-clause-between : goal.returns-clause-between
returns-clause-between c = local_run_before

pub returns-clause-active : goal.returns-clause-active
returns-clause-active c = open_active
