use Rattle.std.proofs.Common.{rules, length, sym, ap, ◌∙◌, arith}
use Rattle.std.specs.Option.{option_and_then}
use Rattle.schedule_model.specs.Seen.{row_seen}
use Rattle.phase_machine.specs.Now.{current_now}
use Rattle.number_laws.proofs.TestLaws.{found_below-first, found_below-none_from}
use Rattle.spin_protocol.specs.SpinChargeNow.{is_spinning_task_now, spinner_now}
use Rattle.spin_protocol.proofs.charging.spinner.Goals as goal

pub returns-then-is_spinning_task : goal.returns-then-is_spinning_task
unfolding spinner_now
returns-then-is_spinning_task c = record {
  value = c.current.ensures.value
      ∙ sym (ap (option_and_then (current_now c.args.tick.now.machine.now)) (found_below-first (length c.args.tick.now.machine.now.list.set.tasks)
      (is_spinning_task_now c.args.tick.now.machine.now (row_seen c.args.tick.now.row.now) c.args.processor) c.loop-x.x
      (omega (arith, c.loop-x-test.true, c.tasks_of-x-end.ensures.value))
      (sym c.is_spinning_task.ensures ∙ c.if-is_spinning_task.true) c.loop-x.invariant));
  within = c.current.ensures.within;
}

pub returns : goal.returns
unfolding spinner_now
returns c = record {
  value = sym (ap (option_and_then (current_now c.args.tick.now.machine.now)) (found_below-none_from (length c.args.tick.now.machine.now.list.set.tasks)
      (is_spinning_task_now c.args.tick.now.machine.now (row_seen c.args.tick.now.row.now) c.args.processor)
      (λ i l. c.loop-x.invariant i (omega (arith, l, c.loop-x-test.false, c.tasks_of-x-end.ensures.value)))));
  within = search rules;
}
