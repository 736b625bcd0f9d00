-- What a round of a walk gives.
use Rattle.std.specs.Prelude.{◌≡◌, ℕ, ◌<◌, ◌≤◌, List, length, Some, None, Result, Ok, Err, IsTrue}
use Rattle.std.specs.declared.option.Option.{Option}
use Rattle.program_form.specs.Certificate.{DualDef}
use Rattle.program_form.specs.Points.{Reaches}
use Rattle.program_sources.specs.Recurrence.{SourceDef, response_with}
use Rattle.program_sources.specs.Fitting.{tasks_of, latest_of}
use Rattle.response_fixpoint.specs.Answers.{Halts}
use Rattle.response_fixpoint.specs.Rounds.{Valued, TooWide, OutOfUnits, Found, Passes}
use Rattle.settling.specs.Rising.{AreFoundAt, AreNextBounds, duals_found}
use Rattle.settling.specs.Trails.{IsTrail, EndsTrail}
use Rattle.settling.specs.Walks.{walk}
use Rattle.settling.specs.declared.answer.SettleStop.{SettleStop}
use Rattle.settling.specs.declared.answer.SettleStop.TheVariants as stop
use Rattle.settling.specs.declared.finding.Points.{Points}
use Rattle.settling.specs.declared.finding.Points.TheVariants.{Rounded}
use Rattle.settling.specs.declared.rounds.Round.{Round}
use Rattle.settling.specs.declared.steps.Steps.{Steps}

-- What a round has found so far.
abbrev pub found_of : Round → Found
found_of round = record { used = round.used; values = round.next.items; duals = duals_found round.reached.items }

-- Has a round at r, which began with `left` units, passed its first i tasks, and found this?
pub record IsPart (points : Points) (f : SourceDef) (r : List ℕ) (left i : ℕ) (round : Round) : Type 0 where
  pub passed : Passes (walk points f) r left i (found_of round)
  pub one_each : length round.reached.items ≡ i
  pub reached : AreFoundAt points f r round.reached.items
  pub next : AreNextBounds f r i round.reached.items round.next.items
  pub within : round.used ≤ left
  pub least : i ≤ round.used

-- Does the value of some task pass its latest bound in such a round? And is the response time with ticks that its program reaches later?
pub record IsLate (points : Points) (f : SourceDef) (r : List ℕ) (left : ℕ) : Type 0 where
  pub task : ℕ
  pub used : ℕ
  pub value : ℕ
  pub dual : DualDef
  pub halts : Halts (walk points f) r left task (Valued used value dual)
  pub late : latest_of f task < value
  pub ticks : ℕ
  pub reached : Reaches (f.program task r) ticks
  pub response : latest_of f task < response_with f r task ticks

-- Are all points of a walk with rounded points written?
abbrev pub AreWrittenIfRounded : Points → Steps → Type 0
AreWrittenIfRounded points steps = points ≡ Rounded → IsTrue steps.are_written

-- Do the steps so far lead to the bounds, and are the points of a walk with rounded ones written?
pub record LeadThere (points : Points) (f : SourceDef) (bounds : List ℕ) (steps : Steps) : Type 0 where
  pub trail : IsTrail f bounds steps
  pub written : AreWrittenIfRounded points steps

-- What such a round gives, with the steps then: what it has found of all tasks, or why it ends before. None says that a value is late.
abbrev pub GivesRound : Result (Option Round) SettleStop → Points → SourceDef → List ℕ → ℕ → Steps → Type 0
GivesRound (Ok (Some round)) points f r left steps =
    (IsPart points f r left (tasks_of f) round) × LeadThere points f round.next.items steps
GivesRound (Ok None) points f r left steps = (IsLate points f r left) × (EndsTrail f steps) × AreWrittenIfRounded points steps
GivesRound (Err (stop.Wide task)) points f r left steps = Halts (walk points f) r left task.0 TooWide
GivesRound (Err stop.Allowance) points f r left steps = (i : ℕ) × Halts (walk points f) r left i OutOfUnits
GivesRound (Err stop.Memory) points f r left steps = Unit {0}
