use Rattle.std.proofs.Common.{◌≡◌, ◌∙◌, ℕ, ◌*◌, ◌≤◌, List, length, slice_index, ap, arith}
use Rattle.number_laws.specs.Sums.{sum_below}
use Rattle.program_form.specs.Program.{ProgramDef, columns, entry, limit}
use Rattle.refusal_confirm.proofs.RowSums.{row_sum_is}
use Rattle.point_tests.proofs.points.keeps_row.Goals as goal

pub returns : goal.returns
returns c =
    let p : ProgramDef = c.args.program.now in
    let num : List ℕ = c.args.num.now in
    let all = row_sum_is p c.args.row (length num) (slice_index num) c.coefficients.result.now c.requires.size c.coefficients.ensures.row in
    let sum : c.in_ok-sum.sum ≡ sum_below (columns p) (λ k. entry p c.args.row k * slice_index num k) = c.in_ok-sum.ensures ∙ all in
    let due : c.in_ok-due.due ≡ c.args.den.now * limit p c.args.row =
    c.in_ok-due.ensures ∙ ap (λ n. c.args.den.now * n) c.limit.ensures.value in (
      (λ yes. let most : c.in_ok-sum.sum ≤ c.in_ok-due.due = c.is_at_most.ensures.0 yes in omega (arith, most, sum, due)),
      λ kept. c.is_at_most.ensures.1 (omega (arith, kept, sum, due)),
    )
