use Rattle.std.proofs.Common.{◌<◌, ◌≡◌, length, length-set, pos, ap, ◌∙◌, arith}
use Rattle.program_form.specs.SparseRows.{coefficient_at}
use Rattle.free_search.proofs.Written.{written_more}
use Rattle.free_search.proofs.start.write_all.Goals as goal

pub loop-coefficient-preserved : goal.loop-coefficient-preserved
loop-coefficient-preserved c =
    let cs = c.args.coefficients.now in
    let i = c.loop-coefficient.coefficient-index in
    let nums = c.loop-coefficient.nums in
    let x = c.of-in-loop-coefficient.result in
    let inside : c.loop-coefficient.coefficient-index < length c.args.coefficients.now = omega (arith, c.loop-coefficient-test.true) in
    let long : length c.loop-coefficient.nums ≡ length c.args.nums.now = c.loop-coefficient.invariant.as_many in
    let number : c.of-in-loop-coefficient.result ≡ pos (coefficient_at cs i).number =
    c.of-in-loop-coefficient.ensures ∙ ap pos c.of.ensures in
    record {
      as_many = length-set nums (coefficient_at cs i).column x ∙ long;
      each = λ v. written_more (length c.args.nums.now) i v cs nums x c.requires.listed inside
          (omega (arith, long, c.requires.listed.below i inside)) number c.loop-coefficient.invariant.each;
    }
