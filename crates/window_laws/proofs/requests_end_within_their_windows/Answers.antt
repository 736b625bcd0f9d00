use Rattle.sporadic_model.proofs.Laws.{formed_of_accepted}
use Rattle.window_laws.proofs.Ending.{open_since_issue}
use Rattle.window_laws.proofs.requests_end_within_their_windows.Goals as goal

pub returns : goal.returns
returns c = λ w bound n t j m q b accepted lawful keeps l here ended window.
    open_since_issue w bound n t j m q b (formed_of_accepted w.set accepted) lawful keeps l here ended window
