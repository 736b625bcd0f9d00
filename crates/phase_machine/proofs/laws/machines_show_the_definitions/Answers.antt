use Rattle.phase_machine.proofs.Facts.{phase_shown, active_shown, current_is, requester_shown, issued_shown}
use Rattle.phase_machine.proofs.Facts.{holder_shown, ready_shown, waiting_shown}
use Rattle.phase_machine.proofs.laws.machines_show_the_definitions.Goals as goal

pub returns : goal.returns
returns c = λ m rows shows. record {
  phase = λ j l. phase_shown m rows j shows l;
  active = λ j. active_shown m rows j shows;
  current = λ x l. current_is m rows x shows l;
  requester = λ q j. requester_shown m rows q j shows;
  issued = λ j l. issued_shown m rows j shows l;
  holder = λ q. holder_shown m rows q shows;
  ready = λ j. ready_shown m rows j shows;
  waiting = λ j. waiting_shown m rows j shows;
}
