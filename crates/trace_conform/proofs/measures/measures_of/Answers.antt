use Rattle.trace_conform.proofs.Measuring.{measures_are}
use Rattle.trace_conform.proofs.measures.measures_of.Goals as goal

pub returns : goal.returns
returns c =
    measures_are c.args.machine.now c.args.counts.now (record { tasks = c.in_ok-tasks.tasks }) c.in_ok-tasks.ensures.size
    c.in_ok-tasks.ensures.each
