-- The tables of an exchange run: exact fractions by row and place, and the basis.
use Rattle.std.specs.Prelude.{◌≡◌, ℕ, ◌+◌, ◌<◌, ◌≤◌, ◌==◌, nat_lt, if◌then◌else◌, List, slice_index, pos}
use Rattle.fraction128.specs.Fraction.{Fraction, whole}
use Rattle.program_form.specs.Program.{ProgramDef, columns, height, row, limit}

-- A table: a cell for each row and place, and for each row its basic variable. The places are the variables: first the columns, then a
-- slack for each row in row order. After them comes the place of the limit. Row `height p` is the objective row. Cells past the limit are
-- zero in every table of a run, and those past the objective row don't count.
pub record Table : Type 0 where
  pub cell : ℕ → ℕ → Fraction
  pub basic : ℕ → ℕ

-- How many variables are there? This is the place of the limit too.
abbrev pub variables : ProgramDef → ℕ
variables p = columns p + height p

-- Which variable is the slack of row r?
abbrev pub slack : ProgramDef → ℕ → ℕ
slack p r = columns p + r

-- The cell of variable v in the objective row.
abbrev pub objective : ProgramDef → Table → ℕ → Fraction
objective p t v = t.cell (height p) v

-- The number at place v of a first row. For one of the n columns it is the entry. For a slack, up to the place `last`, it is 1 for the
-- row's own slack. At the place `last` it is the limit.
abbrev pub first_of : ℕ → List ℕ → ℕ → ℕ → ℕ → ℕ → ℕ
first_of n entries own last bound v =
    if nat_lt v n then slice_index entries v
    else if nat_lt v last then (if v == own then 1 else 0)
    else if v == last then bound
    else 0

-- The coefficients of row i at the start. The objective row starts with the costs.
abbrev pub first_entries : ProgramDef → ℕ → List ℕ
first_entries p i = if nat_lt i (height p) then row p i else p.costs

-- The limit of row i at the start. The objective row starts with zero.
abbrev pub first_limit : ProgramDef → ℕ → ℕ
first_limit p i = if nat_lt i (height p) then limit p i else 0

-- The number at place v in row i of the first table.
abbrev pub first_number : ProgramDef → ℕ → ℕ → ℕ
first_number p i v = first_of (columns p) (first_entries p i) (slack p i) (variables p) (first_limit p i) v

-- Is t the table with which the run of p starts: the program's numbers, and the slacks as basis?
pub record IsStart (p : ProgramDef) (t : Table) : Type 0 where
  pub cells : (i v : ℕ) → i ≤ height p → t.cell i v ≡ whole (pos (first_number p i v))
  pub basis : (i : ℕ) → i < height p → t.basic i ≡ slack p i
