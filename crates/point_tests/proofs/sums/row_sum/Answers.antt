use Rattle.std.proofs.Common.{◌≡◌, ◌∙◌, ℕ, ◌*◌, List, arith, length, slice_index, ap}
use Rattle.std.proofs.Math.Nat.{mul_comm}
use Rattle.std.proofs.lemmas.List.{get_or_read}
use Rattle.program_form.specs.SparseRows.{coefficient_at}
use Rattle.program_form.specs.declared.sparse_rows.Coefficient.{Coefficient}
use Rattle.refusal_confirm.proofs.RowSums.{no_term, one_more_term}
use Rattle.point_tests.proofs.sums.row_sum.Goals as goal

pub loop-coefficient-init : goal.loop-coefficient-init
loop-coefficient-init c = omega (arith, no_term (length c.args.num.now) (slice_index c.args.num.now))

pub loop-coefficient-preserved : goal.loop-coefficient-preserved
loop-coefficient-preserved c =
    let k : ℕ = c.loop-coefficient.coefficient-index in
    let num : List ℕ = c.args.num.now in
    let here : Coefficient = coefficient_at c.args.coefficients.now k in
    let found : ℕ = c.index-num-coefficient.result in
    let more = one_more_term (length num) (slice_index num) c.args.coefficients.now k c.requires.listed c.loop-coefficient-test.true in
    let at : found ≡ slice_index num here.column =
    get_or_read num here.column found (c.requires.listed.below k c.loop-coefficient-test.true) c.index-num-coefficient.is 0 in
    let term : found * here.number ≡ here.number * slice_index num here.column =
    mul_comm found here.number ∙ ap (λ n. here.number * n) at in
    omega (arith, more, term, c.in_ok-add_times.ensures)
