use Rattle.whole_runs.proofs.Ending.{are_duals}
use Rattle.whole_runs.proofs.end.dual_of.Goals as goal

pub returns-in-Ok : goal.returns-in-Ok
returns-in-Ok c t low =
    let scaled = rw c.deref.ensures.value at c.in-Ok.ensures in
    record {
      duals = c.in_ok-duals.duals.items;
      are_duals = are_duals c.args.program.now c.args.objective.now c.args.stands.now t c.in_ok-duals.duals.items c.in_ok-duals.ensures low;
      least = scaled.0;
      scaled = scaled.1;
      small_den = scaled.2;
      small_num = scaled.3;
    }

pub returns : goal.returns
returns c t low =
    let wide = rw (c.deref.ensures.value, c.in-Err-Wide.field-0-is) at c.in-Err-Wide.ensures in
    record {
      duals = c.in_ok-duals.duals.items;
      are_duals = are_duals c.args.program.now c.args.objective.now c.args.stands.now t c.in_ok-duals.duals.items c.in_ok-duals.ensures low;
      common = wide.0;
      least = wide.1;
      wide = wide.2;
    }
