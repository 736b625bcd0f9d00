use Rattle.std.proofs.lemmas.Result.{on_err_weaker}
use Rattle.whole_rows.proofs.Taking.{leaves_again}
use Rattle.whole_rows.proofs.Larger.{too_large}
use Rattle.whole_rows.proofs.dense_row.DenseRow.take.Goals as goal

pub returns-in-Err-clause-left : goal.returns-in-Err-clause-left
returns-in-Err-clause-left c divided is =
    leaves_again c.take_within-in-Err.result c.args.self.now c.tighten-most.new.self divided c.take_within-in-Err.new.self c.args.k
    (rw c.in-Err.ensures.stays at c.tighten-most.ensures.reduced.same) (c.take_within-in-Err.ensures.left divided is)

pub returns-in-Err-clause-large : goal.returns-in-Err-clause-large
returns-in-Err-clause-large c =
    on_err_weaker c.take_within-in-Err.result
    (λ past. too_large c.args.self.now c.tighten-most.new.self c.args.k c.tighten-most.result c.args.pivot.now
    (rw c.in-Err.ensures.stays at c.tighten-most.ensures.reduced.same) c.tighten-most.ensures.reduced.lowest
    c.tighten-most.ensures.attained past)
    c.take_within-in-Err.ensures.large
