use Rattle.window_laws.proofs.WorkedWindows.{window_is_two, window_is_three}
use Rattle.window_laws.proofs.a_worked_request_has_its_window.Goals as goal

pub returns-clause-exact : goal.returns-clause-exact
returns-clause-exact c = window_is_two

pub returns-clause-late : goal.returns-clause-late
returns-clause-late c = window_is_three
