use Rattle.std.proofs.Common.{◌≡◌, ◌+◌, length, map}
use Rattle.refusal_laws.specs.Seen.{step_seen}
use Rattle.refusal_confirm.specs.Batches.{AreTrials}
use Rattle.refusal_confirm.specs.Walks.{HasComeTo}
use Rattle.refusal_confirm.proofs.batches.next_batch.Given as goal

-- the walk has come to step k, and the steps before it in the batch have their trials
abbrev pub invariant-loop-k : goal.invariant-loop-k
invariant-loop-k l = record {
  come : HasComeTo l.set (map step_seen l.steps) l.k l.walk.bounds.items l.walk.is_over;
  count : l.start + length l.trials.items ≡ l.k;
  trials : AreTrials l.set (map step_seen l.steps) l.start l.trials.items;
}
