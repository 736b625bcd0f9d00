use Rattle.std.proofs.Common.{◌≡◌, ◌<◌, ◌+◌, length, drop, inr, arith}
use Rattle.std.proofs.lemmas.Result.{err_from_is_err_and}
use Rattle.std.proofs.lemmas.List.{take_at}
use Rattle.exchange_runs.proofs.Loops.{reached_next}
use Rattle.simplex.specs.Tables.{table_of}
use Rattle.simplex.proofs.Solving.{solve_stop, finished}
use Rattle.simplex.proofs.run.Goals as goal

pub returns-then-exchanges-units-clause-outcome : goal.returns-then-exchanges-units-clause-outcome
returns-then-exchanges-units-clause-outcome c =
    let rows = c.loop-exchanges.rows.items in
    let basis = c.loop-exchanges.basis.items in
    inr (
      c.loop-exchanges.exchanges,
      table_of rows basis,
      c.in-Some.e,
      c.if-exchanges-units.true,
      c.loop-exchanges.invariant.reached,
      rw c.deref.ensures.value at (c.in-Some.ensures basis),
    )

pub step-requires : goal.step-requires
step-requires c =
    rw (c.deref_mut.ensures.value, c.deref_mut-in-loop-exchanges.ensures.value) (record {
      size = c.loop-exchanges.invariant.size;
      enters = rw c.deref.ensures.value at (c.in-Some.ensures c.loop-exchanges.basis.items);
      reached = (c.loop-exchanges.exchanges, c.loop-exchanges.invariant.reached);
    })

pub returns-in_err-step-clause-outcome : goal.returns-in_err-step-clause-outcome
returns-in_err-step-clause-outcome c =
    let stop = err_from_is_err_and c.from_residual-in_err-step.result c.from_residual-in_err-step.ensures.1 in
    let stopped = rw (c.deref_mut.ensures.value, c.deref_mut-in-loop-exchanges.ensures.value) at c.in_err-step.ensures in
    let begun : c.loop-exchanges.exchanges + 1 < c.args.units = omega (arith, c.loop-exchanges-test.true, c.if-exchanges-units.false) in
    rw (stop.1, stop.2)
    (solve_stop c.in_err-step.field-0.0 c.args.program.now c.args.units c.loop-exchanges.exchanges c.in-Some.e
    c.loop-exchanges.rows.items c.loop-exchanges.basis.items
    c.step.new.rows c.step.new.basis begun c.loop-exchanges.invariant.reached
    (rw c.deref.ensures.value at (c.in-Some.ensures c.loop-exchanges.basis.items)) stopped)

pub loop-exchanges-preserved : goal.loop-exchanges-preserved
loop-exchanges-preserved c =
    let inv = c.loop-exchanges.invariant in
    let old_rows = c.loop-exchanges.rows.items in
    let old_basis = c.loop-exchanges.basis.items in
    let done = rw (c.deref_mut.ensures.value, c.deref_mut-in-loop-exchanges.ensures.value) at c.in_ok-step.ensures in
    let rows : length c.step.new.rows ≡ c.loop-exchanges.rows.len =
    omega (arith, done.0.row_each, inv.size.row_each, c.loop-exchanges.rows.ok.0) in
    let basis : length c.step.new.basis ≡ c.loop-exchanges.basis.len =
    omega (arith, done.0.basic_each, inv.size.basic_each, c.loop-exchanges.basis.ok.0) in
    rw (
      take_at c.step.new.rows (drop (length c.step.new.rows) old_rows) c.loop-exchanges.rows.len rows,
      take_at c.step.new.basis (drop (length c.step.new.basis) old_basis) c.loop-exchanges.basis.len basis,
    )
    (record {
      size = done.0;
      left = λ some. omega (arith, c.loop-exchanges-test.true, c.if-exchanges-units.false);
      reached = reached_next c.args.program.now c.loop-exchanges.exchanges (table_of old_rows old_basis)
          (table_of c.step.new.rows c.step.new.basis) c.in-Some.e
          done.1.0 inv.reached done.1.1;
    })

pub returns-in-None-clause-outcome : goal.returns-in-None-clause-outcome
returns-in-None-clause-outcome c =
    let rows = c.loop-exchanges.rows.items in
    let basis = c.loop-exchanges.basis.items in
    finished c.finish.result c.args.program.now c.args.units c.loop-exchanges.exchanges (table_of rows basis)
    (omega (arith, c.loop-exchanges-test.true))
    c.loop-exchanges.invariant.reached (rw c.deref.ensures.value at (c.in-None.ensures c.loop-exchanges.basis.items))
    (rw (c.deref-in-None.ensures.value, c.deref-in-None-2.ensures.value) at c.finish.ensures)
