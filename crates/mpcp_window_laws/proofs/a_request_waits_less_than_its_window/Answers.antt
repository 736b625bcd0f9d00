use Rattle.sporadic_model.proofs.Laws.{formed_of_accepted}
use Rattle.mpcp_window_laws.proofs.Granting.{waits_since_issue}
use Rattle.mpcp_window_laws.proofs.a_request_waits_less_than_its_window.Goals as goal

pub returns : goal.returns
returns c = λ w bound n t j m q b accepted lawful keeps l here waits ended window.
    waits_since_issue w bound n t j m q b (formed_of_accepted w.set accepted) lawful keeps l here waits ended window
