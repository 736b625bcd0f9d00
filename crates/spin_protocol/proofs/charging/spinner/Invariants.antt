use Rattle.std.proofs.Common.{◌≡◌, ℕ, ◌<◌, false}
use Rattle.schedule_model.specs.Seen.{row_seen}
use Rattle.spin_protocol.specs.SpinChargeNow.{is_spinning_task_now}
use Rattle.spin_protocol.proofs.charging.spinner.Given as goal

abbrev pub invariant-loop-x : goal.invariant-loop-x
invariant-loop-x l = (i : ℕ) → i < l.x → is_spinning_task_now l.tick.machine.now (row_seen l.tick.row.now) l.processor i ≡ false
