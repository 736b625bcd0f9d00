-- How rounds are taken, one after another: what each gives, and how the last one ends them.
use Rattle.std.specs.Prelude.{◌≡◌, ◌≢◌, ℕ, ◌+◌, ◌-◌, ◌≤◌, List, Result, Ok, Err}
use Rattle.sporadic_model.specs.Bounds.{IsInRange}
use Rattle.program_sources.specs.Recurrence.{SourceDef}
use Rattle.program_sources.specs.Fitting.{tasks_of}
use Rattle.response_fixpoint.specs.Rounds.{Schedulable, Reaches, EndsIn}
use Rattle.response_fixpoint.specs.Runs.{rounds_of}
use Rattle.response_fixpoint.specs.Solutions.{AreKept}
use Rattle.response_fixpoint.specs.Answers.{Answers, answer_at, found_of}
use Rattle.response_fixpoint.specs.declared.rounds.Round.{Round}
use Rattle.response_fixpoint.specs.declared.rounds.RoundStop.{RoundStop}

-- A round of the source at r that begins with `left` units gives a vector, and keeps each task's program and solution. `before` and `now`
-- say of an allowance, of units spent and of bounds whether rounds have come there: without this round, and with it. `ended` says of an
-- allowance whether the rounds end with this round. They do if it gives r again. If it gives another vector, they go on from there.
pub record GoesBy (before now : SourceDef → ℕ → ℕ → List ℕ → Type 0) (ended : SourceDef → ℕ → Result Round RoundStop → Type 0)
    (f : SourceDef) (r : List ℕ) (left : ℕ) (round : Round) : Type 0 where
  pub range : IsInRange f.set round.values.items
  pub within : round.used ≤ left
  pub least : tasks_of f ≤ round.used
  pub kept : AreKept f r (tasks_of f) round.kept.items
  pub settles : (allowance spent : ℕ) → left ≡ allowance - spent → before f allowance spent r → round.values.items ≡ r
      → ended f allowance (Ok round)
  pub leads : (allowance spent : ℕ) → left ≡ allowance - spent → before f allowance spent r → r ≢ round.values.items
      → now f allowance (spent + round.used) round.values.items

-- What such a round gives. If it gives no vector, the rounds end with it.
abbrev pub TakesRound : (SourceDef → ℕ → ℕ → List ℕ → Type 0) → (SourceDef → ℕ → ℕ → List ℕ → Type 0)
    → (SourceDef → ℕ → Result Round RoundStop → Type 0) → SourceDef → List ℕ → ℕ → Result Round RoundStop → Type 0
TakesRound before now ended f r left (Ok round) = GoesBy before now ended f r left round
TakesRound before now ended f r left (Err stop) =
    (allowance spent : ℕ) → left ≡ allowance - spent → before f allowance spent r → ended f allowance (Err stop)

-- Do the rounds of an analysis come to the bounds r, with this many units spent?
abbrev pub IsReached : SourceDef → ℕ → ℕ → List ℕ → Type 0
IsReached f allowance spent r = (k : ℕ) × Reaches (rounds_of f) allowance k spent r

-- Do they end with a round that gives this? Running out of memory says nothing.
abbrev pub EndsWith : SourceDef → ℕ → Result Round RoundStop → Type 0
EndsWith f allowance (Ok round) = EndsIn (rounds_of f) allowance (Schedulable (found_of round).values (found_of round).duals)
EndsWith f allowance (Err stop) = Answers (answer_at stop) f allowance
