use Rattle.std.proofs.Common.{◌≡◌, ℕ, ◌<◌, vec_len, slice_index_or, pos}
use Rattle.program_form.specs.Program.{cost}
use Rattle.free_search.proofs.start.cost_row.Given as goal

abbrev pub invariant-loop-c : goal.invariant-loop-c
invariant-loop-c l = record {
  as_many : vec_len l.nums ≡ l.c;
  each : (k : ℕ) → k < l.c → slice_index_or l.nums.items k (pos 0) ≡ pos (cost l.program k);
}
