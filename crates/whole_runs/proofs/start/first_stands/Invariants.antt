use Rattle.std.proofs.Common.{◌≡◌, ℕ, ◌+◌, ◌<◌, vec_len}
use Rattle.program_form.specs.Program.{columns}
use Rattle.exchange_runs.specs.Table.{slack}
use Rattle.whole_runs.specs.States.{stand_at}
use Rattle.whole_runs.specs.declared.stands.Stand.TheVariants.{Outside, Basic}
use Rattle.whole_runs.proofs.start.first_stands.Given as goal

abbrev pub invariant-loop-r : goal.invariant-loop-r
invariant-loop-r l = record {
  len : vec_len l.stands ≡ columns l.program + l.r;
  columns_outside : (c : ℕ) → c < columns l.program → stand_at l.stands.items c ≡ Outside c;
  slacks_basic : (r : ℕ) → r < l.r → stand_at l.stands.items (slack l.program r) ≡ Basic r;
}
