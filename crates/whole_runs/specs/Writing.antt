-- How are the parts of the first table written?
use Rattle.std.specs.Prelude.{◌≡◌, ◌≢◌, ℕ, ◌<◌, ◌≤◌, ◌^◌, List, length, slice_index_or, ℤ, pos}
use Rattle.program_form.specs.Program.{ProgramDef, columns, height, cost}
use Rattle.program_form.specs.SparseRows.{number_at}
use Rattle.program_form.specs.declared.sparse_rows.Coefficient.{Coefficient}
use Rattle.whole_rows.specs.Marks.{IsMarked, AreKept}
use Rattle.whole_rows.specs.declared.marks.RowMarks.{RowMarks}
use Rattle.whole_runs.specs.States.{stand_at}
use Rattle.whole_runs.specs.declared.stands.Stand.{Stand}
use Rattle.whole_runs.specs.declared.stands.Stand.TheVariants.{Outside}

-- Are these the costs, one for each column?
pub record AreCosts (p : ProgramDef) (nums : List ℤ) : Type 0 where
  pub as_many : length nums ≡ columns p
  pub each : (c : ℕ) → slice_index_or nums c (pos 0) ≡ pos (cost p c)

-- Is no cost above `most`, is it 1 or more, and below 2^63?
pub record IsCostBound (p : ProgramDef) (most : ℕ) : Type 0 where
  pub one : 1 ≤ most
  pub all : (c : ℕ) → cost p c ≤ most
  pub small : most < 2 ^ 63

-- Is each of the columns outside the basis, at its own place, and nothing else there?
pub record AreColumnStands (count : ℕ) (stands : List Stand) : Type 0 where
  pub as_many : length stands ≡ count
  pub each : (c : ℕ) → c < count → stand_at stands c ≡ Outside c

-- Is row i marked at each column of its coefficients, and each mark kept?
pub record AreMarkedIn (before after : RowMarks) (cs : List Coefficient) (i : ℕ) : Type 0 where
  pub own : (v : ℕ) → number_at cs v ≢ 0 → IsMarked after v i
  pub kept : AreKept before after

-- Is the objective row marked at each column with a cost, and each mark kept?
pub record AreCostsMarked (p : ProgramDef) (before after : RowMarks) : Type 0 where
  pub own : (c : ℕ) → c < columns p → cost p c ≢ 0 → IsMarked after c (height p)
  pub kept : AreKept before after
