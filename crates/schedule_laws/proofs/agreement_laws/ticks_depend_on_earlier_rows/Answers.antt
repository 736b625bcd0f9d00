use Rattle.schedule_laws.proofs.Agreement.{executed_agree, phase_agree, pending_agree, active_agree, active_job_agree}
use Rattle.schedule_laws.proofs.Agreement.{requester_agree, issue_agree, held_before_agree, ready_agree}
use Rattle.schedule_laws.proofs.agreement_laws.ticks_depend_on_earlier_rows.Goals as goal

pub returns-clause-tick : goal.returns-clause-tick
returns-clause-tick c = λ v w n t a l. record {
  ticks = λ j. executed_agree v w n t j a l;
  phase = λ j. phase_agree v w n t j a l;
  pending = λ j. pending_agree v w n t j a l;
  active = λ j. active_agree v w n t j a l;
  active_job = λ x. active_job_agree v w n t x a l;
  requester = λ q j. requester_agree v w n t q j a l;
  issue = λ j. issue_agree v w n t j a l;
  held = λ q. held_before_agree v w n t q a l;
}

pub returns-clause-ready : goal.returns-clause-ready
returns-clause-ready c = ready_agree
