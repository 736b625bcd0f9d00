use Rattle.std.proofs.Common.{[], ◌∷◌, ◌++◌, ◌∙◌, ap, arith}
use Rattle.program_form.specs.SparseRows.{SparseRowsDef}
use Rattle.program_form.proofs.Listings.{up_to_begun, up_to_ended}
use Rattle.program_form.proofs.sparse_program.add_row.Goals as goal

pub loop-first-init : goal.loop-first-init
loop-first-init c = record {
  within = omega arith;
  rows = up_to_begun c.args.program.now c.args.r c.args.rows.now.rows c.begin.new.self.rows c.requires.earlier
      (ap (λ (b : SparseRowsDef). b.rows) c.in_ok-begin.ensures);
  limits = ap (λ (b : SparseRowsDef). b.limits) c.in_ok-begin.ensures ∙ ap (λ x. c.args.rows.now.limits ++ x ∷ []) c.limit.ensures.value;
}

pub returns-clause-rows : goal.returns-clause-rows
returns-clause-rows c =
    up_to_ended c.args.program.now c.args.r c.loop-first.first c.loop-first.rows.rows
    (omega (arith, c.loop-first-test.false, c.columns-columns.ensures.value)) c.loop-first.invariant.within c.loop-first.invariant.rows
