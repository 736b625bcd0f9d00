use Rattle.std.proofs.Common.{◌≡◌, ℕ, ◌+◌, ◌<◌, List, [], ◌∷◌, ◌++◌, map, length, sym, subst, ap, ◌∙◌, arith}
use Rattle.std.proofs.lemmas.List.{length-map, length_push}
use Rattle.sporadic_model.specs.SetDef.{SetDef}
use Rattle.refusal_laws.specs.Steps.{StepDef, step_at}
use Rattle.refusal_laws.specs.Seen.{step_seen}
use Rattle.refusal_confirm.specs.Batches.{IsTrial, AreTrials}
use Rattle.refusal_confirm.specs.declared.batches.Trial.{Trial}
use Rattle.refusal_confirm.proofs.BatchLaws.{trials_more, trial_is}
use Rattle.refusal_confirm.proofs.SeenLaws.{step_seen_at}
use Rattle.refusal_confirm.proofs.WalkLaws.{goes_on}
use Rattle.refusal_confirm.proofs.batches.next_batch.Goals as goal

pub loop-k-preserved : goal.loop-k-preserved
loop-k-preserved c =
    let set : SetDef = c.args.set.now in
    let steps : List StepDef = map step_seen c.args.steps.now in
    let k : ℕ = c.loop-k.k in
    let v : List ℕ = c.loop-k.walk.bounds.items in
    let over = c.loop-k.walk.is_over in
    let s : StepDef = step_seen c.index-steps-k.result in
    let t : Trial = c.in_ok-trial.trial in
    let here : k < length c.args.steps.now = omega (arith, c.loop-k-test.true, c.min-end.ensures) in
    let seen : s ≡ step_at steps k = step_seen_at c.args.steps.now k c.index-steps-k.result here c.index-steps-k.is in
    let within : k < length steps = omega (arith, here, length-map c.args.steps.now step_seen) in
    let come = c.loop-k.invariant.come in
    let bounds : t.bounds.items ≡ v = rw (← c.deref.ensures.value) c.in_ok-trial.ensures.1 in
    let new : IsTrial set steps k t =
    trial_is c.in-Ok.task set steps k v over s t within come seen c.in-Ok.ensures c.in_ok-trial.ensures.0 bounds in
    let pushed : c.push.new.self.items ≡ c.loop-k.trials.items ++ t ∷ [] = c.in_ok-push.ensures.items in
    let grown : length c.push.new.self.items ≡ length c.loop-k.trials.items + 1 = ap length pushed ∙ length_push c.loop-k.trials.items t in
    record {
      come = goes_on c.take.new.walk.is_over c.in-Ok.task set steps k v c.take.new.walk.bounds.items over s within come seen
          c.in-Ok.ensures c.take.ensures;
      count = omega (arith, grown, c.loop-k.invariant.count);
      trials = subst (AreTrials set steps c.args.start) (sym pushed) (trials_more set steps c.args.start c.loop-k.trials.items t
          c.loop-k.invariant.trials (subst (λ (n : ℕ). IsTrial set steps n t) (sym c.loop-k.invariant.count) new));
    }
