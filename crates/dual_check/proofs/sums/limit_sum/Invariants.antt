use Rattle.std.proofs.Common.{◌≡◌, ◌*◌, min, slice_index}
use Rattle.number_laws.specs.Sums.{sum_below}
use Rattle.program_form.specs.Program.{limit}
use Rattle.dual_check.proofs.sums.limit_sum.Given as goal

abbrev pub invariant-loop-r : goal.invariant-loop-r
invariant-loop-r l = l.sum ≡ min l.most (sum_below l.r (λ r. slice_index l.num r * limit l.program r))
