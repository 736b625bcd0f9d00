-- What the answers of an analysis mean.
use Rattle.std.specs.Prelude.{◌≡◌, ℕ, ◌<◌, ◌≤◌, ◌-◌, ◌^◌, List, [], ◌∷◌, ◌++◌, map, Result, Ok, Err}
use Rattle.std.specs.List.{All}
use Rattle.program_form.specs.Certificate.{DualDef, CertificateDef, dual_seen, certificate_seen}
use Rattle.program_form.specs.Program.{ProgramDef}
use Rattle.program_sources.specs.Recurrence.{SourceDef}
use Rattle.program_sources.specs.Fitting.{AreFitting, AreLeastFitting, tasks_of, latest_of}
use Rattle.program_sources.specs.Valid.{AreOptimalDuals, IsValid, dual_at}
use Rattle.response_fixpoint.specs.Rounds.{RunEnd, Valued, TooWide, OutOfUnits, Ending, Schedulable, NotShown, Wide}
use Rattle.response_fixpoint.specs.Rounds.{Allowance, Found, with_task, RoundsOf, Passes, EndsIn}
use Rattle.response_fixpoint.specs.Runs.{TaskRuns, rounds_of}
use Rattle.response_fixpoint.specs.Solutions.{IsSolution, AreKept}
use Rattle.simplex.specs.declared.SolveStop.{SolveStop}
use Rattle.simplex.specs.declared.SolveStop.TheVariants as solve_stop
use Rattle.response_fixpoint.specs.declared.verdict.Verdict.{Verdict}
use Rattle.response_fixpoint.specs.declared.verdict.Verdict.TheVariants as verdict
use Rattle.response_fixpoint.specs.declared.verdict.Stop.{Stop}
use Rattle.response_fixpoint.specs.declared.verdict.Stop.TheVariants as stop
use Rattle.response_fixpoint.specs.declared.task_run.TaskRun.{TaskRun}
use Rattle.response_fixpoint.specs.declared.rounds.Round.{Round}
use Rattle.response_fixpoint.specs.declared.rounds.RoundStop.{RoundStop}
use Rattle.response_fixpoint.specs.declared.rounds.RoundStop.TheVariants as round_stop

-- Is this how the rounds of the source end with this allowance? Running out of memory says nothing about them.
abbrev pub Answers : Result Verdict Stop → SourceDef → ℕ → Type 0
Answers (Ok (verdict.Schedulable certificate)) f allowance =
    EndsIn (rounds_of f) allowance (Schedulable certificate.bounds.items (map dual_seen certificate.duals.items))
Answers (Ok (verdict.NotShown task bound)) f allowance = EndsIn (rounds_of f) allowance (NotShown task.0 bound)
Answers (Err (stop.Wide task)) f allowance = EndsIn (rounds_of f) allowance (Wide task.0)
Answers (Err stop.Allowance) f allowance = EndsIn (rounds_of f) allowance Allowance
Answers (Err stop.Memory) f allowance = Unit {0}

-- Is this the answer that rounds of this ending give? The only other answer is that memory ran out.
abbrev pub IsAnswerOf : Result Verdict Stop → Ending → Type 0
IsAnswerOf (Ok (verdict.Schedulable certificate)) e = e ≡ Schedulable certificate.bounds.items (map dual_seen certificate.duals.items)
IsAnswerOf (Ok (verdict.NotShown task bound)) e = e ≡ NotShown task.0 bound
IsAnswerOf (Err (stop.Wide task)) e = e ≡ Wide task.0
IsAnswerOf (Err stop.Allowance) e = e ≡ Allowance
IsAnswerOf (Err stop.Memory) e = Unit {0}

-- Are all numbers of the dual below 2^63?
pub record IsSmallDual (dual : DualDef) : Type 0 where
  pub den : dual.den < 2 ^ 63
  pub num : All (λ k. k < 2 ^ 63) dual.num

-- Are the certificate's bounds the least that fit, with an optimal dual for each task? Then it is valid. Its duals are small.
pub record IsBest (f : SourceDef) (c : CertificateDef) : Type 0 where
  pub least : AreLeastFitting f c.bounds
  pub optimal : AreOptimalDuals f c.bounds c.duals
  pub valid : IsValid f c
  pub small : (i : ℕ) → i < tasks_of f → IsSmallDual (dual_at c.duals i)

-- Is the verdict right? If it has a certificate, this is the best one. If the set isn't shown, nothing fits.
abbrev pub IsRight : Verdict → SourceDef → Type 0
IsRight (verdict.Schedulable certificate) f = IsBest f (certificate_seen certificate)
IsRight (verdict.NotShown task bound) f = (s : List ℕ) → AreFitting f s → ⊥

-- Is this a verdict that the set is schedulable?
abbrev pub IsSchedulable : Verdict → Type 0
IsSchedulable (verdict.Schedulable certificate) = Unit {0}
IsSchedulable (verdict.NotShown task bound) = ⊥

-- Is this how the run of task i ends where `left` units are left, and is its solution this one? Running out of memory says nothing.
abbrev pub GivesRun : Result TaskRun SolveStop → SourceDef → List ℕ → ℕ → ℕ → Type 0
GivesRun (Ok run) f r i left = (TaskRuns f r i left (Valued run.solution.used run.value (dual_seen run.solution.dual)))
    × IsSolution (f.program i r) run.solution
GivesRun (Err solve_stop.Wide) f r i left = TaskRuns f r i left TooWide
GivesRun (Err solve_stop.Units) f r i left = TaskRuns f r i left OutOfUnits
GivesRun (Err solve_stop.Memory) f r i left = Unit {0}

-- What a round has found so far.
abbrev pub found_of : Round → Found
found_of round = record { used = round.used; values = round.values.items; duals = map (λ k. dual_seen k.solution.dual) round.kept.items }

-- What a solved task does to a round: it passes if its value is at most its latest bound.
abbrev pub TakesRun : Result (Unit {0}) RoundStop → Round → Round → ProgramDef → TaskRun → ℕ → ℕ → Type 0
TakesRun (Ok done) before now program run i latest = (run.value ≤ latest)
    × (found_of now ≡ with_task (found_of before) run.solution.used run.value (dual_seen run.solution.dual))
    × (now.kept.items ≡ before.kept.items ++ record { program = program; solution = run.solution } ∷ [])
TakesRun (Err (round_stop.NotShown task bound)) before now program run i latest =
    (task.0 ≡ i) × (bound ≡ run.value) × (latest < run.value)
TakesRun (Err (round_stop.Wide task)) before now program run i latest = ⊥
TakesRun (Err round_stop.Allowance) before now program run i latest = ⊥
TakesRun (Err round_stop.Memory) before now program run i latest = Unit {0}

-- A round at r that begins with `left` units comes to a task at which the rounds end.
pub record Halts (o : RoundsOf) (r : List ℕ) (left i : ℕ) (e : RunEnd) : Type 0 where
  pub found : Found
  pub below : i < o.tasks
  pub passed : Passes o r left i found
  pub run : o.runs r i (left - found.used) e

-- What such a round gives: what it has found of all tasks, or the task at which the rounds end.
abbrev pub GivesRound : Result Round RoundStop → SourceDef → List ℕ → ℕ → Type 0
GivesRound (Ok round) f r left =
    (Passes (rounds_of f) r left (tasks_of f) (found_of round)) × (round.used ≤ left) × (tasks_of f ≤ round.used)
    × AreKept f r (tasks_of f) round.kept.items
GivesRound (Err (round_stop.NotShown task bound)) f r left =
    (latest_of f task.0 < bound) × (used : ℕ) × (dual : DualDef) × Halts (rounds_of f) r left task.0 (Valued used bound dual)
GivesRound (Err (round_stop.Wide task)) f r left = Halts (rounds_of f) r left task.0 TooWide
GivesRound (Err round_stop.Allowance) f r left = (i : ℕ) × Halts (rounds_of f) r left i OutOfUnits
GivesRound (Err round_stop.Memory) f r left = Unit {0}

-- Are these bounds, with these duals, the certificate that is answered? The only other answer is that memory ran out.
abbrev pub IsSettled : Result Verdict Stop → List ℕ → List DualDef → Type 0
IsSettled (Ok (verdict.Schedulable certificate)) bounds duals =
    (certificate.bounds.items ≡ bounds) × (map dual_seen certificate.duals.items ≡ duals)
IsSettled (Ok (verdict.NotShown task bound)) bounds duals = ⊥
IsSettled (Err (stop.Wide task)) bounds duals = ⊥
IsSettled (Err stop.Allowance) bounds duals = ⊥
IsSettled (Err stop.Memory) bounds duals = Unit {0}

-- What the analysis answers for this end of a round.
abbrev pub answer_at : RoundStop → Result Verdict Stop
answer_at (round_stop.NotShown task bound) = Ok (verdict.NotShown task bound)
answer_at (round_stop.Wide task) = Err (stop.Wide task)
answer_at round_stop.Allowance = Err stop.Allowance
answer_at round_stop.Memory = Err stop.Memory

-- The end of a round for this end of a run.
abbrev pub stop_at : SolveStop → ℕ → RoundStop
stop_at solve_stop.Wide i = round_stop.Wide (record { 0 = i })
stop_at solve_stop.Units i = round_stop.Allowance
stop_at solve_stop.Memory i = round_stop.Memory
