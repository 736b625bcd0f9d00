use Rattle.std.proofs.Common.{◌<◌, ◌+◌, ◌≤◌, length, refl, arith}
use Rattle.program_form.specs.Program.{height}
use Rattle.whole_rows.specs.Rows.{entry_at}
use Rattle.whole_runs.proofs.Choosing.{split_through, none_before_next, row_up, row_passed, row_counted}
use Rattle.exchange_runs.specs.Table.{variables}
use Rattle.whole_runs.specs.States.{table_seen}
use Rattle.whole_runs.proofs.choice.least_ratio.Goals as goal
use Rattle.whole_runs.proofs.choice.least_ratio.Goals.{in-Some, in_default}

pub returns-then-cell-basis : goal.returns-then-cell-basis
returns-then-cell-basis c =
    let p = c.args.program.now in
    let inv = c.loop-j.invariant in
    record {
      least = λ e k stands is l at.
          none_before_next p c.args.rows.now c.args.basis.now stands c.args.column.now e k c.loop-j.j inv.0 (height p) c.loop-j.best is l at
          inv.1 (inv.4 e k stands is l at) (omega (arith, inv.2, c.requires.basic_each)) (omega (arith, c.requires.row_each))
          (λ lj. omega (arith, c.if-cell-basis.true, c.requires.basic_each));
      within = row_up c.loop-j.best inv.0 (height p) (omega (arith, inv.2, c.requires.basic_each)) inv.3;
    }

pub returns : goal.returns
returns c =
    let p = c.args.program.now in
    let inv = c.loop-j.invariant in
    record {
      least = λ e k stands is l at.
          none_before_next p c.args.rows.now c.args.basis.now stands c.args.column.now e k c.loop-j.j inv.0 (height p) c.loop-j.best is l at
          inv.1 (inv.4 e k stands is l at) (omega (arith, inv.2, c.requires.basic_each)) (omega (arith, c.requires.row_each))
          (λ lj. absurd (omega (arith, c.loop-j-test.false)));
      within = row_up c.loop-j.best inv.0 (height p) (omega (arith, inv.2, c.requires.basic_each)) inv.3;
    }

pub loop-j-preserved : goal.loop-j-preserved
loop-j-preserved c =
    let p = c.args.program.now in
    let j = c.loop-j.j in
    let inv = c.loop-j.invariant in
    let inside : c.loop-j.j < length c.args.column.now = omega (arith, c.loop-j-test.true) in
    let further : inv.0 ≤ (entry_at c.args.column.now c.loop-j.j).place + 1 = omega (arith, inv.1.behind j (omega arith) inside) in (
      (entry_at c.args.column.now c.loop-j.j).place + 1,
      split_through c.args.column.now j (entry_at c.args.column.now j).place c.requires.column.1.sparse inside refl,
      omega (arith, c.if-cell-basis.false),
      elim c.match-ratio_of.branch [
        | in-Some w ↦ rw w.best-is (omega (arith, w.in-Some.ensures.row, w.better_or_first.ensures.within))
        | in_default w ↦ rw w.best-is (row_up c.loop-j.best inv.0 ((entry_at c.args.column.now j).place + 1) further inv.3)
      ],
      λ e k stands is l at. elim c.match-ratio_of.branch [
        | in-Some w ↦
            rw w.best-is
            (row_counted p c.args.rows.now c.args.basis.now stands c.args.column.now e k j inv.0 c.loop-j.best is l at inv.1 inside
            (inv.4 e k stands is l at) w.in-Some.ratio w.better_or_first.result w.in-Some.ensures
            (w.better_or_first.ensures.least (table_seen p c.args.rows.now c.args.basis.now stands) (variables p) e (λ i. refl)))
        | in_default w ↦
            rw w.best-is
            (row_passed p c.args.rows.now c.args.basis.now stands c.args.column.now e k j inv.0 c.loop-j.best is l at inv.1 inside
            (inv.4 e k stands is l at) w.in_default.ensures)
      ],
    )
