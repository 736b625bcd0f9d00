use Rattle.std.proofs.Common.{◌≤◌, length, arith, sym, ◌∙◌}
use Rattle.std.proofs.lemmas.Bool.{eqb-true, eqb-false, not-false, not-true}
use Rattle.fragments.proofs.NextRequests.{next_request, past_end, past_task}
use Rattle.fragments.proofs.walks.requested_at.Goals as goal
use Rattle.fragments.proofs.walks.requested_at.Goals.{then-place-columns-via-then-place-columns}
use Rattle.fragments.proofs.walks.requested_at.Goals.{then-place-columns-via-else-place-columns+then-ne}

pub returns-clause-some : goal.returns-clause-some
returns-clause-some c = next_request (length c.args.set.now.tasks) (length c.args.set.now.resources) c.args.x.0 c.args.place
    c.args.columns.now _ c.requires.known c.requires.order c.if-place-columns.false
    (eqb-true _ _ (not-false _ (sym c.ne.ensures ∙ c.if-ne.false)))

pub returns-then-place-columns-clause-none : goal.returns-then-place-columns-clause-none
returns-then-place-columns-clause-none c =
    let m = length c.args.set.now.resources in
    let few : m ≤ 4294967296 = omega (arith, c.resources-resources.ensures.most, c.resources-resources.ensures.value) in
    elim c.then-place-columns.branch [
      | then-place-columns-via-then-place-columns w ↦ past_end m c.args.x.0 c.args.place c.args.columns.now few w.if-place-columns.true
      | then-place-columns-via-else-place-columns+then-ne w ↦
          past_task (length c.args.set.now.tasks) m c.args.x.0 c.args.place c.args.columns.now _ c.requires.known few c.requires.order
          w.if-place-columns.false (eqb-false _ _ (not-true _ (sym w.ne.ensures ∙ w.if-ne.true)))
    ]
