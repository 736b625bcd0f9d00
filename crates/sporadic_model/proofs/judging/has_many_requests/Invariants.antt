use Rattle.std.proofs.Common.{◌≡◌, ◌+◌, ◌≤◌, length, map, drop}
use Rattle.std.specs.List.{sum_by}
use Rattle.sporadic_model.specs.Seen.{task_seen}
use Rattle.sporadic_model.proofs.judging.has_many_requests.Given as goal

abbrev pub invariant-loop-task : goal.invariant-loop-task
invariant-loop-task l = record {
  room : l.left ≤ 256;
  counted : sum_by (λ t. length t.requests) (map task_seen l.tasks) + l.left
      ≡ 256 + sum_by (λ t. length t.requests) (map task_seen (drop l.task-index l.tasks));
}
