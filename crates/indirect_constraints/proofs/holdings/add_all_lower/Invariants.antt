use Rattle.std.proofs.Common.{◌≡◌, ℕ, ◌+◌, ◌*◌, ◌<◌, length, drop}
use Rattle.std.specs.Prelude.{slice_index}
use Rattle.std.specs.List.{sum_by}
use Rattle.sporadic_model.specs.declared.ids.ResourceId.{ResourceId}
use Rattle.indirect_constraints.specs.Tables.{HaveRoomAfter, held_on, held_alone, all_held_on, all_held_alone}
use Rattle.indirect_constraints.proofs.holdings.add_all_lower.Given as goal

abbrev pub invariant-loop-q : goal.invariant-loop-q
invariant-loop-q l = record {
  users : length l.users.items ≡ l.set.processors + 1;
  room : HaveRoomAfter l.set (l.q-index * 1000) l.totals l.numbers;
  each : (k : ℕ) → k < l.set.processors + 1 → slice_index l.totals k
      + sum_by (λ (q : ResourceId). held_on l.set l.i.0 k q.0) (drop l.q-index l.q-items)
      ≡ slice_index l.initial.totals k + all_held_on l.set l.i.0 k;
  alone : (x : ℕ) → x < length l.set.tasks → slice_index l.numbers x
      + sum_by (λ (q : ResourceId). held_alone l.set l.i.0 x q.0) (drop l.q-index l.q-items)
      ≡ slice_index l.initial.numbers x + all_held_alone l.set l.i.0 x;
}
