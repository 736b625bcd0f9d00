use Rattle.std.proofs.Common.{◌≡◌, ℕ, ◌-◌, ◌*◌, slice_index, arith, rules}
use Rattle.program_form.specs.SparseRows.{coefficient_at}
use Rattle.dual_check.proofs.Lacking.{one_more_taken}
use Rattle.dual_check.proofs.lacks.take_row.Goals as goal

pub loop-coefficient-preserved : goal.loop-coefficient-preserved
loop-coefficient-preserved c =
    let inv = c.loop-coefficient.invariant in
    let k : ℕ = c.loop-coefficient.coefficient-index in
    let next : c.saturating_sub.result
    ≡ slice_index c.loop-coefficient.lacks (coefficient_at c.args.coefficients.now k).column
    - c.args.numerator * (coefficient_at c.args.coefficients.now k).number = omega (arith, c.saturating_sub.ensures, c.product.ensures) in
    record {
      one_each = search rules;
      each = rw next (one_more_taken c.args.lacks.now c.loop-coefficient.lacks c.args.coefficients.now c.args.numerator k
          c.requires.listed c.loop-coefficient-test.true inv.one_each inv.each);
    }
