use Rattle.std.proofs.Common.{◌≡◌, ℕ, ◌*◌, ◌<◌, ◌≤◌, ◌==◌, length}
use Rattle.std.specs.Prelude.{slice_index}
use Rattle.number_laws.specs.Sums.{sum_below, only_if}
use Rattle.sporadic_model.specs.SetDef.{task_at}
use Rattle.closer_mpcp.specs.Tables.{longest_beside}
use Rattle.closer_mpcp.proofs.lower_holders.longest_on.Given as goal

abbrev pub invariant-loop-x : goal.invariant-loop-x
invariant-loop-x l = record {
  processors : length l.on ≡ 65;
  sum : (k : ℕ) → k < 65 → slice_index l.on k ≡ sum_below l.x (λ x. only_if ((task_at l.set x).processor == k) (longest_beside l.set x l.fn.q.0));
  most : (k : ℕ) → k < 65 → slice_index l.on k ≤ l.x * 1000000000;
}
