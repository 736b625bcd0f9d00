-- A written account of a run: a line for each exchange.
use Rattle.std.specs.Prelude.{◌≡◌, ℕ, List, [], ◌∷◌}
use Rattle.fraction128.specs.Fraction.{Fraction}
use Rattle.program_form.specs.Program.{ProgramDef}
use Rattle.exchange_runs.specs.Table.{Table, variables, IsStart}
use Rattle.exchange_runs.specs.Exchange.{IsRatio, IsExchange}
use Rattle.exchange_runs.specs.Readings.{value_of}

-- Which variable entered, which left, at which ratio, and what the value was after it.
pub record ExchangeLine : Type 0 where
  pub entered : ℕ
  pub left : ℕ
  pub ratio : Fraction
  pub value : Fraction

-- Is this the line of the exchange of row r from s to t?
pub record ReadsSo (p : ProgramDef) (s t : Table) (r : ℕ) (line : ExchangeLine) : Type 0 where
  pub exchange : IsExchange p s t line.entered r
  pub left : s.basic r ≡ line.left
  pub ratio : IsRatio (variables p) s line.entered r line.ratio
  pub value : value_of p t ≡ line.value

-- Is this the account of the run of p up to table t? The last exchange comes first.
abbrev pub RunReadsSo : ProgramDef → List ExchangeLine → Table → Type 0
RunReadsSo p [] t = IsStart p t
RunReadsSo p (line ∷ earlier) t = (s : Table) × (r : ℕ) × (RunReadsSo p earlier s) × (ReadsSo p s t r line)
