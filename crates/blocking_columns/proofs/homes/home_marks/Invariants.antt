use Rattle.std.proofs.Common.{◌≡◌, ℕ, ◌<◌, length}
use Rattle.std.specs.Prelude.{slice_index_or}
use Rattle.blocking_columns.specs.HomeMarks.{mark_of}
use Rattle.blocking_columns.specs.declared.homes.HomeMark.{HomeMark}
use Rattle.blocking_columns.proofs.homes.home_marks.Given as goal

abbrev pub invariant-loop-q : goal.invariant-loop-q
invariant-loop-q l = record {
  one_each : length l.marks.items ≡ l.q;
  each : (q : ℕ) (d : HomeMark) → q < l.q → slice_index_or l.marks.items q d ≡ mark_of l.set l.i.0 q;
}
