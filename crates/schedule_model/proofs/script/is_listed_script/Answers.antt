use Rattle.std.proofs.Common.{◌∙◌, sym, refl, true, false}
use Rattle.schedule_model.proofs.Scripts.{is_listed_script-from}
use Rattle.schedule_model.proofs.script.is_listed_script.Goals as goal

pub returns-then-is_empty : goal.returns-then-is_empty
returns-then-is_empty c =
    sym (is_listed_script-from c.args.script.now true _ _ (sym c.is_empty.ensures ∙ c.if-is_empty.true) refl refl)

pub returns-then-not-are_segments : goal.returns-then-not-are_segments
returns-then-not-are_segments c =
    sym (is_listed_script-from c.args.script.now false false _ (sym c.is_empty.ensures ∙ c.if-is_empty.false)
    (sym c.are_segments.ensures ∙ c.if-not-are_segments.true) refl)

pub returns : goal.returns
returns c =
    sym (is_listed_script-from c.args.script.now false true c.are_requests.result
    (sym c.is_empty.ensures ∙ c.if-is_empty.false) (sym c.are_segments.ensures ∙ c.if-not-are_segments.false)
    (sym c.are_requests.ensures))
