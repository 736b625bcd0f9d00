-- What the answers of a refutation mean.
use Rattle.std.specs.Prelude.{◌≡◌, ℕ, ◌<◌, ◌≤◌, List, [], ◌∷◌, ◌++◌, map, slice_index, Result, Ok, Err, Vec}
use Rattle.std.specs.Global.{Global}
use Rattle.fraction128.specs.Fraction.{Fraction}
use Rattle.program_form.specs.Certificate.{DualDef, dual_seen}
use Rattle.program_form.specs.declared.certificate.Dual.{Dual}
use Rattle.program_sources.specs.Recurrence.{SourceDef}
use Rattle.program_sources.specs.Fitting.{AreFitting, tasks_of, latest_of}
use Rattle.simplex.specs.declared.SolveStop.{SolveStop}
use Rattle.simplex.specs.declared.SolveStop.TheVariants as solve_stop
use Rattle.refusal_laws.specs.Steps.{StepDef, Holds}
use Rattle.refusal_laws.specs.Seen.{step_seen, steps_seen}
use Rattle.refusal_laws.specs.declared.refusal.RefusalStep.{RefusalStep}
use Rattle.response_fixpoint.specs.Rounds.{Valued, TooWide, OutOfUnits, Ending, Schedulable, NotShown, Wide, Allowance}
use Rattle.response_fixpoint.specs.Rounds.{Found, Passes, Reaches, EndsIn}
use Rattle.response_fixpoint.specs.Runs.{rounds_of}
use Rattle.response_fixpoint.specs.Solutions.{IsSolution, AreKept}
use Rattle.response_fixpoint.specs.Answers.{Halts}
use Rattle.response_fixpoint.specs.declared.task_run.TaskRun.{TaskRun}
use Rattle.response_fixpoint.specs.declared.rounds.Round.{Round}
use Rattle.response_fixpoint.specs.declared.rounds.RoundStop.{RoundStop}
use Rattle.response_fixpoint.specs.declared.rounds.RoundStop.TheVariants as round_stop
use Rattle.refusal_cert.specs.Refuting.{IsWritten, IsUnwritable, GivesPoint, PointRuns, refuting, AreWritable}
use Rattle.refusal_cert.specs.Steps.{step_of, steps_over, round_steps, way_steps, refusal_of}
use Rattle.refusal_cert.specs.declared.answer.Answer.{Answer}
use Rattle.refusal_cert.specs.declared.answer.Answer.TheVariants as answer
use Rattle.refusal_cert.specs.declared.answer.RefuteStop.{RefuteStop}
use Rattle.refusal_cert.specs.declared.answer.RefuteStop.TheVariants as stop

-- Is this how the rounds of refusals end with this allowance, and does a refusal have the steps of these rounds? Running out of memory
-- says nothing.
abbrev pub Refutes : Result Answer RefuteStop → SourceDef → ℕ → Type 0
Refutes (Ok (answer.Refused refusal)) f allowance = (i : ℕ) × (value : ℕ)
    × (ends : EndsIn (refuting f) allowance (NotShown i value))
    × (steps_seen refusal ≡ refusal_of (refuting f) allowance (NotShown i value) ends)
Refutes (Ok answer.Schedulable) f allowance =
    (bounds : List ℕ) × (points : List DualDef) × EndsIn (refuting f) allowance (Schedulable bounds points)
Refutes (Err (stop.Wide task)) f allowance = EndsIn (refuting f) allowance (Wide task.0)
Refutes (Err stop.Allowance) f allowance = EndsIn (refuting f) allowance Allowance
Refutes (Err stop.Memory) f allowance = Unit {0}

-- Is this the answer that rounds of this ending give, with these steps if it is a refusal? The only other answer is that memory ran
-- out.
abbrev pub IsAnswerOf : Result Answer RefuteStop → Ending → List StepDef → Type 0
IsAnswerOf (Ok (answer.Refused refusal)) e steps =
    ((i : ℕ) × (value : ℕ) × (e ≡ NotShown i value)) × (steps_seen refusal ≡ steps)
IsAnswerOf (Ok answer.Schedulable) e steps = (bounds : List ℕ) × (points : List DualDef) × (e ≡ Schedulable bounds points)
IsAnswerOf (Err (stop.Wide task)) e steps = e ≡ Wide task.0
IsAnswerOf (Err stop.Allowance) e steps = e ≡ Allowance
IsAnswerOf (Err stop.Memory) e steps = Unit {0}

-- Is the answer right? If it is a refusal, the refusal holds and nothing fits. If it is Schedulable, something fits.
abbrev pub IsRight : Answer → SourceDef → Type 0
IsRight (answer.Refused refusal) f = (Holds f (steps_seen refusal)) × ((s : List ℕ) → AreFitting f s → ⊥)
IsRight answer.Schedulable f = (s : List ℕ) × AreFitting f s

-- Do the rounds of an analysis end at a task that isn't shown, or in bounds that fit? And can the point of each step be written?
abbrev pub EndsLate : SourceDef → ℕ → Type 0
EndsLate f allowance = ((i : ℕ) × (value : ℕ) × EndsIn (rounds_of f) allowance (NotShown i value)) × AreWritable f allowance

abbrev pub EndsFitting : SourceDef → ℕ → Type 0
EndsFitting f allowance =
    ((bounds : List ℕ) × (duals : List DualDef) × EndsIn (rounds_of f) allowance (Schedulable bounds duals)) × AreWritable f allowance

-- Does Refused come if and only if they end late in this way, and Schedulable if and only if they end in bounds that fit? Running out
-- of memory says nothing.
abbrev pub FollowsAnalysis : Result Answer RefuteStop → SourceDef → ℕ → Type 0
FollowsAnalysis (Ok (answer.Refused refusal)) f allowance = (EndsLate f allowance) × (EndsFitting f allowance → ⊥)
FollowsAnalysis (Ok answer.Schedulable) f allowance = (EndsFitting f allowance) × (EndsLate f allowance → ⊥)
FollowsAnalysis (Err stop.Memory) f allowance = Unit {0}
FollowsAnalysis (Err e) f allowance = (EndsLate f allowance → ⊥) × (EndsFitting f allowance → ⊥)

-- What contracts see of steps.
abbrev pub seen : List RefusalStep → List StepDef
seen steps = map step_seen steps

-- What writing the best point of a run gives.
abbrev pub WritesPoint : Result Dual SolveStop → List Fraction → Type 0
WritesPoint (Ok point) best = IsWritten best (dual_seen point)
WritesPoint (Err solve_stop.Wide) best = IsUnwritable best
WritesPoint (Err solve_stop.Units) best = ⊥
WritesPoint (Err solve_stop.Memory) best = Unit {0}

-- What writing the step of a task gives: the point, and these steps. There is no step where the value isn't above the bound.
abbrev pub WritesStep : Result (Unit {0}) SolveStop → List StepDef → List StepDef → ℕ → ℕ → ℕ → List Fraction → Type 0
WritesStep (Ok done) before now bound i value best =
    (point : DualDef) × (GivesPoint bound value best point) × (now ≡ before ++ steps_over bound i value point)
WritesStep (Err solve_stop.Wide) before now bound i value best = (bound < value) × IsUnwritable best
WritesStep (Err solve_stop.Units) before now bound i value best = ⊥
WritesStep (Err solve_stop.Memory) before now bound i value best = Unit {0}

-- Is this how task i's run ends where `left` units are left, is its solution this one, and are these the steps then? Running out of
-- memory says nothing.
abbrev pub GivesPointRun : Result TaskRun SolveStop → SourceDef → List ℕ → ℕ → ℕ → List StepDef → List StepDef → Type 0
GivesPointRun (Ok run) f r i left before now =
    (point : DualDef) × (PointRuns f r i left (Valued run.solution.used run.value point))
    × (now ≡ before ++ steps_over (slice_index r i) i run.value point)
    × (1 ≤ run.solution.used) × (run.solution.used ≤ left) × IsSolution (f.program i r) run.solution
GivesPointRun (Err solve_stop.Wide) f r i left before now = PointRuns f r i left TooWide
GivesPointRun (Err solve_stop.Units) f r i left before now = PointRuns f r i left OutOfUnits
GivesPointRun (Err solve_stop.Memory) f r i left before now = Unit {0}

-- Has a round at r, which began with `left` units and the earlier steps, passed its first i tasks and found this? And are these the
-- steps then?
pub record HasFound (f : SourceDef) (r : List ℕ) (left i : ℕ) (earlier steps : List StepDef) (round : Round) : Type 0 where
  pub found : Found
  pub passed : Passes (refuting f) r left i found
  pub used : found.used ≡ round.used
  pub values : found.values ≡ round.values.items
  pub steps_are : steps ≡ earlier ++ round_steps r found i

-- Such a round comes to task i, whose value passes its latest bound. The last of these steps is that task's.
abbrev pub HaltsLate : SourceDef → List ℕ → ℕ → List StepDef → List StepDef → ℕ → ℕ → Type 0
HaltsLate f r left earlier steps i value =
    (used : ℕ) × (point : DualDef) × (latest_of f i < value) × (h : Halts (refuting f) r left i (Valued used value point))
    × (steps ≡ earlier ++ round_steps r h.found i ++ step_of i value point ∷ [])

-- What such a round gives: what it has found of all tasks, or the task at which the rounds end.
abbrev pub GivesRound : Result Round RoundStop → SourceDef → List ℕ → ℕ → List StepDef → List StepDef → Type 0
GivesRound (Ok round) f r left earlier steps =
    (HasFound f r left (tasks_of f) earlier steps round) × (round.used ≤ left) × (tasks_of f ≤ round.used)
    × AreKept f r (tasks_of f) round.kept.items
GivesRound (Err (round_stop.NotShown task bound)) f r left earlier steps = HaltsLate f r left earlier steps task.0 bound
GivesRound (Err (round_stop.Wide task)) f r left earlier steps = Halts (refuting f) r left task.0 TooWide
GivesRound (Err round_stop.Allowance) f r left earlier steps = (i : ℕ) × Halts (refuting f) r left i OutOfUnits
GivesRound (Err round_stop.Memory) f r left earlier steps = Unit {0}

-- What is answered for this end of a round, with the steps up to there.
abbrev pub answer_at : RoundStop → Vec RefusalStep Global → Result Answer RefuteStop
answer_at (round_stop.NotShown task bound) steps = Ok (answer.Refused (record { steps = steps }))
answer_at (round_stop.Wide task) steps = Err (stop.Wide task)
answer_at round_stop.Allowance steps = Err stop.Allowance
answer_at round_stop.Memory steps = Err stop.Memory

-- The answer where the last round gives this, with the steps up to there.
abbrev pub answer_of : Result Round RoundStop → Vec RefusalStep Global → Result Answer RefuteStop
answer_of (Ok round) steps = Ok answer.Schedulable
answer_of (Err stop) steps = answer_at stop steps

-- Have the rounds come to these bounds, with this many units spent, and are these their steps?
pub record Stands (f : SourceDef) (a spent : ℕ) (bounds : List ℕ) (steps : List StepDef) : Type 0 where
  pub rounds : ℕ
  pub way : Reaches (refuting f) a rounds spent bounds
  pub steps_are : steps ≡ way_steps (refuting f) a rounds spent bounds way
