-- The run of a program over unbounded fractions, in which no value is too wide for a table.
use Rattle.std.specs.Prelude.{ℕ, ◌^◌, pos, ◌<ℤ◌}
use Rattle.std.proofs.Common.{arith}
use Rattle.std.proofs.lemmas.Int.{ints}
use Rattle.fraction128.specs.Fraction.{Fraction, over}
use Rattle.program_form.specs.Program.{ProgramDef}
use Rattle.exchange_runs.specs.Table.{Table, variables}
use Rattle.exchange_runs.specs.Run.{ReachedOver}

-- Is it a fraction at all: is its denominator above zero?
pub record IsFraction (f : Fraction) : Type 0 where
  pub positive : pos 0 <ℤ f.den

-- Two quarters is one, though it is not in lowest terms and so has no form.
pub two_quarters : IsFraction (over (pos 2) (pos 4))
two_quarters = record { positive = omega (arith, ints) }

-- Is t the table of the run of p over unbounded fractions after k exchanges?
abbrev pub FreelyReached : ProgramDef → ℕ → Table → Type 0
FreelyReached p k t = ReachedOver IsFraction p k t

-- How many sets of variables are there? No run makes this many exchanges.
abbrev pub sets_of_variables : ProgramDef → ℕ
sets_of_variables p = 2 ^ variables p
