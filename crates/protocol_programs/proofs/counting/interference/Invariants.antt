use Rattle.std.proofs.Common.{◌≡◌, ◌*◌, ◌≤◌}
use Rattle.number_laws.specs.Sums.{sum_below, only_if}
use Rattle.sporadic_model.specs.SetDef.{is_higher_local}
use Rattle.sporadic_model.specs.Bounds.{most_of_one_task}
use Rattle.program_sources.specs.Recurrence.{interference_by}
use Rattle.program_laws.specs.Programs.{interfering_cost}
use Rattle.protocol_programs.proofs.counting.interference.Given as goal

-- the ticks of the tasks above h, of which each brings at most three times the greatest period
abbrev pub invariant-loop-h : goal.invariant-loop-h
invariant-loop-h l = record {
  value : l.total ≡ sum_below l.h (λ k. only_if (is_higher_local l.set l.i.0 k)
      (interference_by (interfering_cost l.protocol l.set) l.set l.bounds l.i.0 k));
  most : l.total ≤ l.h * most_of_one_task;
}
