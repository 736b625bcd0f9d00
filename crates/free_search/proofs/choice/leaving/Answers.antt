use Rattle.std.specs.Prelude.{false, IsTrue}
use Rattle.std.proofs.Common.{refl}
use Rattle.free_search.proofs.LeastRows.{row_passed, row_taken}
use Rattle.free_search.proofs.choice.leaving.Goals as goal
use Rattle.free_search.proofs.choice.leaving.Goals.{then-is_above_zero+in_ok-earlier, else-is_above_zero}

no_false : IsTrue false → ⊥
no_false h = cc

pub loop-i-preserved : goal.loop-i-preserved
loop-i-preserved c =
    let i = c.loop-i.i in
    let rows = c.args.rows.now in
    let basis = c.args.basis.now in
    elim c.if-is_above_zero.branch [
      | then-is_above_zero+in_ok-earlier w ↦
          let taken = w.in_ok-earlier.ensures in
          rw w.best-is
          (row_taken c.loop-i.best i w.in_ok-earlier.field-0 rows basis c.args.k c.loop-i.invariant
          (rw c.num_of.ensures at (w.if-is_above_zero.ensures.0 refl)) taken.one taken.row taken.best)
      | else-is_above_zero w ↦
          rw w.best-is
          (row_passed c.loop-i.best i rows basis c.args.k c.loop-i.invariant
          (λ above. no_false (w.if-is_above_zero.ensures.1 (rw c.num_of.ensures above))))
    ]
