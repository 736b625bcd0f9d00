use Rattle.std.proofs.Common.{arith}
use Rattle.std.proofs.lemmas.Result.{err_from_is_err_and}
use Rattle.exchange_runs.proofs.SmallRuns.{small_reached_next}
use Rattle.whole_runs.specs.States.{table_seen}
use Rattle.whole_runs.specs.Stepping.{table_of}
use Rattle.whole_runs.proofs.FirstTable.{first_stands_are, first_size, first_placed, starts, first_marked}
use Rattle.whole_runs.proofs.Running.{first_small, needs_more, finished, stopped}
use Rattle.whole_runs.proofs.run_whole.Goals as goal

pub loop-exchanges-init : goal.loop-exchanges-init
loop-exchanges-init c =
    let p = c.args.program.now in
    let rows = c.in_ok-tableau.tableau.rows.items in
    let basis = c.in_ok-tableau.tableau.basis.items in
    let stands = c.in_ok-tableau.tableau.stands.items in
    let first = c.in_ok-tableau.ensures in
    record {
      tableau = record {
        size = first_size p rows basis stands first.rows first.basis first.stands;
        stands = first_stands_are p basis stands first.basis first.stands;
        small = first_small p rows c.rows.ensures.program first.rows;
        marked = first_marked p rows c.in_ok-tableau.tableau.marks first.rows first.marks;
        placed = first_placed p stands c.in_ok-tableau.tableau.outside.items first.stands first.outside;
      };
      earlier = λ row is v k l at. absurd (omega (arith, l));
      left = λ some. some;
      reached = starts p rows basis stands first.rows first.basis first.stands;
    }

pub finish-requires : goal.finish-requires
finish-requires c =
    let basis = c.loop-exchanges.tableau.basis.items in
    rw (c.deref-in-None.ensures.value, c.deref-in-None-2.ensures.value) (
      c.loop-exchanges.tableau.basis.items,
      c.loop-exchanges.invariant.tableau.size,
      c.loop-exchanges.invariant.tableau.stands,
      rw (c.deref.ensures.value, c.deref-in-loop-exchanges.ensures.value) at (c.in-None.ensures basis),
    )

pub returns-in-None : goal.returns-in-None
returns-in-None c =
    let p = c.args.program.now in
    let rows = c.loop-exchanges.tableau.rows.items in
    let basis = c.loop-exchanges.tableau.basis.items in
    let stands = c.loop-exchanges.tableau.stands.items in
    finished c.finish.result p c.args.units c.loop-exchanges.exchanges rows basis stands c.rows.ensures.program
    (omega (arith, c.loop-exchanges-test.true)) c.loop-exchanges.invariant.tableau.size
    c.loop-exchanges.invariant.tableau.stands c.loop-exchanges.invariant.reached
    (rw (c.deref.ensures.value, c.deref-in-loop-exchanges.ensures.value) at (c.in-None.ensures basis))
    (λ t is. (rw (c.deref-in-None.ensures.value, c.deref-in-None-2.ensures.value) at c.finish.ensures) basis t
    c.loop-exchanges.invariant.tableau.stands is)

pub returns-then-exchanges-units : goal.returns-then-exchanges-units
returns-then-exchanges-units c =
    let p = c.args.program.now in
    let rows = c.loop-exchanges.tableau.rows.items in
    let basis = c.loop-exchanges.tableau.basis.items in
    let stands = c.loop-exchanges.tableau.stands.items in
    let enters = rw (c.deref.ensures.value, c.deref-in-loop-exchanges.ensures.value) at (c.in-Some.ensures basis) in
    needs_more p c.args.units c.loop-exchanges.exchanges c.in-Some.found.0 (table_seen p rows basis stands) c.rows.ensures.program
    c.if-exchanges-units.true c.loop-exchanges.invariant.reached enters.0

pub step-requires : goal.step-requires
step-requires c =
    let basis = c.loop-exchanges.tableau.basis.items in
    let enters = rw (c.deref.ensures.value, c.deref-in-loop-exchanges.ensures.value) at (c.in-Some.ensures basis) in
    record {
      program = c.rows.ensures.program;
      tableau = c.loop-exchanges.invariant.tableau;
      enters = enters.0;
      place = enters.1;
      reached = (c.loop-exchanges.exchanges, c.loop-exchanges.invariant.reached);
    }

pub returns-in_err-from : goal.returns-in_err-from
returns-in_err-from c =
    let inv = c.loop-exchanges.invariant in
    let stop = err_from_is_err_and c.from_residual-in_err-from.result c.from_residual-in_err-from.ensures.1 in
    rw (stop.1, stop.2)
    (stopped c.in_err-from.field-0.0 c.args.program.now c.args.units c.loop-exchanges.exchanges c.in-Some.found.0
    c.loop-exchanges.tableau c.step.new.tableau (omega (arith, c.loop-exchanges-test.true, c.if-exchanges-units.false))
    inv.tableau inv.reached
    c.in_err-from.ensures)

pub loop-exchanges-preserved : goal.loop-exchanges-preserved
loop-exchanges-preserved c =
    let p = c.args.program.now in
    let done = c.in_ok-from.ensures in
    record {
      tableau = done.tableau;
      earlier = done.earlier;
      left = λ some. omega (arith, c.loop-exchanges-test.true, c.if-exchanges-units.false);
      reached = small_reached_next p c.loop-exchanges.exchanges (table_of p c.loop-exchanges.tableau) (table_of p c.step.new.tableau)
          c.in-Some.found.0 done.exchanged.0 c.loop-exchanges.invariant.reached done.exchanged.1;
    }
