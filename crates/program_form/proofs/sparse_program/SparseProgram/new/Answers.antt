use Rattle.std.proofs.Common.{◌<◌, sym, subst, arith}
use Rattle.program_form.specs.Program.{IsProgram, height}
use Rattle.program_form.proofs.Listings.{lists_are}
use Rattle.program_form.proofs.sparse_program.SparseProgram.new.Goals as goal

pub invariant_of-result : goal.invariant_of-result
invariant_of-result c =
    let same = lists_are c.args.program.now c.in_ok-costs.costs.items c.in_ok-rows.rows.limits c.in_ok-rows.rows.rows
    c.in_ok-rows.ensures.program c.in_ok-costs.ensures c.in_ok-rows.ensures.limits c.in_ok-rows.ensures.rows in
    record {
      program = subst IsProgram (sym same) c.in_ok-rows.ensures.program;
      listed = λ r l.
          let within : r < height c.args.program.now = omega (arith, l, c.in_ok-rows.ensures.rows.row_each) in
          rw c.in_ok-costs.ensures (c.in_ok-rows.ensures.rows.each r within).listed;
    }

pub returns : goal.returns
returns c =
    lists_are c.args.program.now c.in_ok-costs.costs.items c.in_ok-rows.rows.limits c.in_ok-rows.rows.rows c.in_ok-rows.ensures.program
    c.in_ok-costs.ensures c.in_ok-rows.ensures.limits c.in_ok-rows.ensures.rows
