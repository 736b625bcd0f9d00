use Rattle.std.proofs.Common.{◌≡◌, ℕ, ◌<◌, vec_len, slice_index_or, pos}
use Rattle.program_form.specs.Program.{cost}
use Rattle.whole_runs.proofs.start.cost_nums.Given as goal

abbrev pub invariant-loop-c : goal.invariant-loop-c
invariant-loop-c l = record {
  len : vec_len l.nums ≡ l.c;
  each : (c : ℕ) → c < l.c → slice_index_or l.nums.items c (pos 0) ≡ pos (cost l.program c);
}
