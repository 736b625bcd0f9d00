use Rattle.std.proofs.Common.{◌<◌, ◌∙◌, arith}
use Rattle.program_form.proofs.Listings.{up_to_zeros, up_to_zero, up_to_more}
use Rattle.program_form.proofs.sparse_program.add_between.Goals as goal
use Rattle.program_form.proofs.sparse_program.add_between.Goals.{then-number-ne0+in_ok-add, else-number-ne0}

pub returns-then-bits_between-eq0-clause-rows : goal.returns-then-bits_between-eq0-clause-rows
returns-then-bits_between-eq0-clause-rows c =
    up_to_zeros c.args.program.now c.args.r c.args.first c.args.last c.args.rows.now.rows c.requires.earlier c.requires.order
    (λ v l below. omega (arith, c.bits_between.ensures v l below, c.if-bits_between-eq0.true))

pub loop-column-preserved : goal.loop-column-preserved
loop-column-preserved c =
    let p = c.args.program.now in
    let column = c.loop-column.column in
    let number = c.entry-number.result in
    let own = c.entry-number.ensures.value in
    elim c.if-number-ne0.branch [
      | then-number-ne0+in_ok-add w ↦
          let above : 0 < c.entry-number.result = omega (arith, w.if-number-ne0.true) in
          rw w.rows-is
          (record {
            rows = up_to_more p c.args.r column number c.loop-column.rows.rows w.add.new.self.rows c.loop-column.invariant.rows own above
                w.in_ok-add.ensures.row;
            limits = w.in_ok-add.ensures.limits ∙ c.loop-column.invariant.limits;
          })
      | else-number-ne0 w ↦
          rw w.rows-is
          (record {
            rows = up_to_zero p c.args.r column number c.loop-column.rows.rows c.loop-column.invariant.rows own w.if-number-ne0.false;
            limits = c.loop-column.invariant.limits;
          })
    ]
