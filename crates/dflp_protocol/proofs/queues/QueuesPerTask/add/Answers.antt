use Rattle.std.proofs.Common.{◌+◌, refl, arith}
use Rattle.fragments.proofs.RowStretches.{row_over_task}
use Rattle.dflp_laws.specs.Programs.{home_queue_row}
use Rattle.dflp_protocol.proofs.queues.QueuesPerTask.add.Goals as goal

pub add_per_number-requires-clause-fits : goal.add_per_number-requires-clause-fits
add_per_number-requires-clause-fits g c = λ n below. record {
  task = c.requires.columns.counted.other;
  processor = omega (arith, below, c.processors-processors.ensures);
  over = row_over_task (home_queue_row c.args.set.now c.args.i.0 c.args.x.0 (n + 1)) c.requires.columns
      (omega (arith, c.resources-resources.ensures.most, c.resources-resources.ensures.value)) (λ column other. rw other refl);
}
