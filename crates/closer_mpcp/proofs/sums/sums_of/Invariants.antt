use Rattle.std.proofs.Common.{◌≡◌, ℕ, ◌+◌, ◌*◌, ◌<◌, ◌≤◌, ◌==◌, nat_lt, length, drop}
use Rattle.std.specs.Prelude.{slice_index}
use Rattle.std.specs.List.{sum_by}
use Rattle.number_laws.specs.Sums.{only_if}
use Rattle.sporadic_model.specs.SetDef.{task_at}
use Rattle.sporadic_model.specs.declared.ids.TaskId.{TaskId}
use Rattle.closer_mpcp.proofs.ListedSums.{made_by}
use Rattle.closer_mpcp.proofs.sums.sums_of.Given as goal

abbrev pub invariant-loop-y : goal.invariant-loop-y
invariant-loop-y g l = record {
  tasks : length l.own ≡ 64;
  processors : length l.on ≡ 65;
  own : (k : ℕ) → k < 64
      → slice_index l.own k + made_by l.i.0 (λ y. y == k) (g.R.Requests.made l.requests l.set l.r.0) (drop l.y-index l.users)
      ≡ made_by l.i.0 (λ y. y == k) (g.R.Requests.made l.requests l.set l.r.0) l.users;
  on : (k : ℕ) → k < 65
      → slice_index l.on k + made_by l.i.0 (λ y. (task_at l.set y).processor == k) (g.R.Requests.made l.requests l.set l.r.0) (drop l.y-index l.users)
      ≡ made_by l.i.0 (λ y. (task_at l.set y).processor == k) (g.R.Requests.made l.requests l.set l.r.0) l.users;
  all : l.all + sum_by (λ (y : TaskId). only_if (nat_lt y.0 l.i.0) (g.R.Requests.made l.requests l.set l.r.0 y.0)) (drop l.y-index l.users)
      ≡ sum_by (λ (y : TaskId). only_if (nat_lt y.0 l.i.0) (g.R.Requests.made l.requests l.set l.r.0 y.0)) l.users;
  own_most : (k : ℕ) → k < 64 → slice_index l.own k ≤ l.y-index * 2000000000000;
  on_most : (k : ℕ) → k < 65 → slice_index l.on k ≤ l.y-index * 2000000000000;
  all_most : l.all ≤ l.y-index * 2000000000000;
}
