use Rattle.std.proofs.Common.{ℕ, ◌<◌, ◌≤◌, ◌^◌}
use Rattle.program_form.specs.Program.{cost}
use Rattle.whole_runs.proofs.start.greatest_cost.Given as goal

abbrev pub invariant-loop-c : goal.invariant-loop-c
invariant-loop-c l = record {
  one : 1 ≤ l.most;
  all : (c : ℕ) → c < l.c → cost l.program c ≤ l.most;
  small : l.most < 2 ^ 63;
}
