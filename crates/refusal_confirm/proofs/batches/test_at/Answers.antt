use Rattle.refusal_confirm.proofs.batches.test_at.Goals as goal

pub test_trial-requires-clause-trial : goal.test_trial-requires-clause-trial
test_trial-requires-clause-trial g c = record {
  denominators = c.requires.trials.denominators;
  trial = c.requires.trials.trials c.args.j c.trial_at.result.now c.trial_at.ensures;
}
