use Rattle.std.proofs.Common.{◌≡◌, ◌<◌, length, None, pos, ◌∙◌, arith}
use Rattle.std.proofs.lemmas.List.{get_or_default}
use Rattle.std.proofs.lemmas.Result.{err_from_is_err_and}
use Rattle.whole_rows.specs.Rows.{entry_at}
use Rattle.whole_runs.specs.States.{row_at}
use Rattle.whole_runs.specs.Large.{IsTooLargeFor, IsSomeTooLarge}
use Rattle.whole_runs.specs.Takings.{IsTaken}
use Rattle.whole_runs.proofs.Causes.{stop_of}
use Rattle.whole_runs.proofs.Halting.{large_listed}
use Rattle.whole_runs.proofs.Taking.{next_places, taken_more, taken_past}
use Rattle.whole_runs.proofs.exchange.take_all.Goals as goal
use Rattle.whole_runs.proofs.exchange.take_all.Goals.{then-cell-r+in_ok-take_from, else-cell-r}

pub take_from-requires : goal.take_from-requires
take_from-requires c =
    let i = (entry_at c.args.lines.now.column.items c.loop-j.j).place in
    let listed : c.loop-j.j < length c.args.lines.now.column.items = omega (arith, c.loop-j-test.true) in
    let cell : c.index-cell.result.now ≡ entry_at c.args.lines.now.column.items c.loop-j.j =
    c.index-cell.ensures ∙ get_or_default c.args.lines.now.column.items c.loop-j.j c.index-cell.result.now
    (record { place = 0; num = pos 0 }) listed in
    let row = c.requires.within c.loop-j.j listed in
    let inside : i < length c.loop-j.rows = omega (arith, row, c.loop-j.invariant.as_many) in
    rw (cell, get_or_default c.loop-j.rows i c.index-rows-cell.result None inside) (record {
      places = next_places c.loop-j.j c.args.program.now c.args.rows.now c.loop-j.rows c.args.lines.now.column.items c.args.k c.args.r
          c.args.lines.now.pivot c.requires.sparse c.requires.within listed c.requires.places c.loop-j.invariant;
      place = c.requires.place;
      below = c.requires.below;
    })

pub returns-in_err-take_from : goal.returns-in_err-take_from
returns-in_err-take_from c =
    let p = c.args.program.now in
    let i = (entry_at c.args.lines.now.column.items c.loop-j.j).place in
    let listed : c.loop-j.j < length c.args.lines.now.column.items = omega (arith, c.loop-j-test.true) in
    let cell : c.index-cell.result.now ≡ entry_at c.args.lines.now.column.items c.loop-j.j =
    c.index-cell.ensures ∙ get_or_default c.args.lines.now.column.items c.loop-j.j c.index-cell.result.now
    (record { place = 0; num = pos 0 }) listed in
    let row = c.requires.within c.loop-j.j listed in
    let inside : i < length c.loop-j.rows = omega (arith, row, c.loop-j.invariant.as_many) in
    let stop = err_from_is_err_and c.from_residual.result c.from_residual.ensures.1 in
    rw (stop.1, stop.2)
    (stop_of c.in_err-take_from.field-0.0
    (λ (u : Unit {0}). IsTaken p i (row_at c.loop-j.rows i) c.args.k c.args.lines.now.pivot c.take_from.new.row) _
    (IsTooLargeFor p i (row_at c.loop-j.rows i) c.args.k c.args.lines.now.pivot)
    (IsSomeTooLarge p c.args.rows.now c.args.k c.args.r c.args.lines.now.pivot)
    (λ large. large_listed c.loop-j.j p c.args.rows.now c.loop-j.rows c.args.lines.now.column.items c.args.k c.args.r c.args.lines.now.pivot
    c.requires.sparse c.requires.within listed (rw cell at c.if-cell-r.true) c.loop-j.invariant large)
    (rw (cell, get_or_default c.loop-j.rows i c.index-rows-cell.result None inside) at c.in_err-take_from.ensures))

pub loop-j-preserved : goal.loop-j-preserved
loop-j-preserved c =
    let i = (entry_at c.args.lines.now.column.items c.loop-j.j).place in
    let listed : c.loop-j.j < length c.args.lines.now.column.items = omega (arith, c.loop-j-test.true) in
    let cell : c.index-cell.result.now ≡ entry_at c.args.lines.now.column.items c.loop-j.j =
    c.index-cell.ensures ∙ get_or_default c.args.lines.now.column.items c.loop-j.j c.index-cell.result.now
    (record { place = 0; num = pos 0 }) listed in
    let row = c.requires.within c.loop-j.j listed in
    let inside : i < length c.loop-j.rows = omega (arith, row, c.loop-j.invariant.as_many) in
    elim c.if-cell-r.branch [
      | then-cell-r+in_ok-take_from w ↦
          rw (w.rows-is, cell)
          (taken_more c.loop-j.j c.args.program.now c.args.rows.now c.loop-j.rows w.take_from.new.row c.args.lines.now.column.items c.args.k
          c.args.r c.args.lines.now.pivot c.requires.sparse c.requires.within listed (rw cell at w.if-cell-r.true) c.loop-j.invariant
          (rw (cell, get_or_default c.loop-j.rows i w.index-rows-cell.result None inside) at w.in_ok-take_from.ensures))
      | else-cell-r w ↦
          rw w.rows-is
          (taken_past c.loop-j.j c.args.program.now c.args.rows.now c.loop-j.rows
          c.args.lines.now.column.items c.args.k c.args.r c.args.lines.now.pivot
          (rw cell at w.if-cell-r.false) c.loop-j.invariant)
    ]
