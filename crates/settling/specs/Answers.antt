-- What the answers of settling mean.
use Rattle.std.specs.Prelude.{◌≡◌, ◌⊎◌, ◌↔◌, ℕ, ◌<◌, ◌≤◌, ◌^◌, Bool, List, All, length, map, Result, Ok, Err, IfOk}
use Rattle.program_form.specs.Certificate.{DualDef, dual_seen, certificate_seen}
use Rattle.sporadic_model.specs.SetDef.{SetDef}
use Rattle.schedule_model.specs.RowDef.{Trace}
use Rattle.schedule_model.specs.declared.rule.Rule.{Rule}
use Rattle.program_sources.specs.Recurrence.{SourceDef}
use Rattle.program_sources.specs.Fitting.{AreFitting, AreLeastFitting}
use Rattle.soundness_laws.specs.Sound.{Sound}
use Rattle.soundness_laws.specs.Analyses.{AreValues}
use Rattle.refusal_laws.specs.Steps.{StepDef, Holds, step_at}
use Rattle.refusal_laws.specs.Seen.{steps_seen}
use Rattle.response_fixpoint.specs.Answers.{IsSmallDual}
use Rattle.response_fixpoint.specs.Rounds.{Ending, Schedulable, NotShown, Wide, Allowance, EndsIn}
use Rattle.response_fixpoint.specs.Runs.{rounds_of}
use Rattle.refusal_cert.specs.Refuting.{refuting}
use Rattle.refusal_cert.specs.Answers.{Refutes}
use Rattle.refusal_cert.specs.declared.answer.Answer.TheVariants as refutation
use Rattle.settling.specs.Rising.{IsProvedLeast}
use Rattle.settling.specs.Trails.{HasSmallPoints}
use Rattle.settling.specs.Walks.{walk, WalksLate, IsUnrefuted}
use Rattle.settling.specs.Ways.{LosesWhole, NothingFits, NeedsMoreBits, NoneNeedsMore}
use Rattle.settling.specs.declared.finding.Points.TheVariants.{Exact, Rounded}
use Rattle.settling.specs.declared.answer.Settled.{Settled}
use Rattle.settling.specs.declared.answer.Settled.TheVariants as settled
use Rattle.settling.specs.declared.answer.SettleStop.{SettleStop}
use Rattle.settling.specs.declared.answer.SettleStop.TheVariants as stop

-- Can a text of refusals hold the step? Its task and value have 64 bits. Its point has a denominator of at least 1, and no number above
-- 2^63 - 1.
pub record IsSmallStep (step : StepDef) : Type 0 where
  pub task : step.task < 2 ^ 64
  pub value : step.value < 2 ^ 64
  pub positive : 1 ≤ step.point.den
  pub point : IsSmallDual step.point

abbrev pub HasSmallSteps : List StepDef → Type 0
HasSmallSteps steps = All IsSmallStep steps

-- The same of tasks and values alone.
abbrev pub Has64Bits : List StepDef → Type 0
Has64Bits steps = (k : ℕ) → k < length steps → ((step_at steps k).task < 2 ^ 64) × ((step_at steps k).value < 2 ^ 64)

abbrev pub RefusesIn64Bits : Settled → Type 0
RefusesIn64Bits (settled.Schedulable certificate) = Unit {0}
RefusesIn64Bits (settled.Refused refusal) = Has64Bits (steps_seen refusal)

-- Has a refusal that is answered only small steps?
abbrev pub RefusesBySmallSteps : Settled → Type 0
RefusesBySmallSteps (settled.Schedulable certificate) = Unit {0}
RefusesBySmallSteps (settled.Refused refusal) = HasSmallSteps (steps_seen refusal)

-- Does a wide stop name a task of the set?
abbrev pub StopsWithin : SetDef → SettleStop → Type 0
StopsWithin set (stop.Wide task) = task.0 < length set.tasks
StopsWithin set stop.Allowance = Unit {0}
StopsWithin set stop.Memory = Unit {0}

abbrev pub NamesTask : SetDef → Result Settled SettleStop → Type 0
NamesTask set (Ok settled) = Unit {0}
NamesTask set (Err stop) = StopsWithin set stop

-- Is a set schedulable only if no task needs more bits?
abbrev pub HasEnough : SourceDef → Settled → Type 0
HasEnough f (settled.Schedulable certificate) = NoneNeedsMore f
HasEnough f (settled.Refused refusal) = Unit {0}

-- Is the answer right? The bounds are the least that fit, with a valid certificate. Or the refusal holds, so that nothing fits.
abbrev pub IsRight : Settled → SourceDef → Type 0
IsRight (settled.Schedulable certificate) f = IsProvedLeast f (certificate_seen certificate)
IsRight (settled.Refused refusal) f = (Holds f (steps_seen refusal)) × ((s : List ℕ) → AreFitting f s → ⊥)

abbrev pub IsSchedulable : Settled → Type 0
IsSchedulable (settled.Schedulable certificate) = Unit {0}
IsSchedulable (settled.Refused refusal) = ⊥

-- Do the rounds of an analysis end wide?
abbrev pub IsWideToAnalyse : SourceDef → ℕ → Type 0
IsWideToAnalyse f allowance = (i : ℕ) × EndsIn (rounds_of f) allowance (Wide i)

-- Do they end at a task that isn't shown?
abbrev pub IsNotShown : SourceDef → ℕ → Type 0
IsNotShown f allowance = (i : ℕ) × (value : ℕ) × EndsIn (rounds_of f) allowance (NotShown i value)

-- Do the rounds of refusals end wide?
abbrev pub IsWideToRefute : SourceDef → ℕ → Type 0
IsWideToRefute f allowance = (i : ℕ) × EndsIn (refuting f) allowance (Wide i)

-- Do the rounds leave the set open? The analysis ends wide. Or it ends at a task that isn't shown, and the rounds of refusals end wide.
abbrev pub IsLeftOpen : SourceDef → ℕ → Type 0
IsLeftOpen f allowance = (IsWideToAnalyse f allowance) ⊎ ((IsNotShown f allowance) × IsWideToRefute f allowance)

-- Is the analysis wide, and does the walk with exact points end with these bounds and duals?
abbrev pub IsWalkedTo : SourceDef → ℕ → List ℕ → List DualDef → Type 0
IsWalkedTo f allowance bounds duals = (IsWideToAnalyse f allowance) × EndsIn (walk Exact f) allowance (Schedulable bounds duals)

-- Is it left to a walk to refuse the set? Nothing fits. Either the analysis ends wide, and the walk with exact points ends late. Or the
-- analysis ends at a task that isn't shown, and the rounds of refusals end wide.
pub record IsToRefuse (f : SourceDef) (allowance : ℕ) : Type 0 where
  pub none : NothingFits f
  pub left : ((IsWideToAnalyse f allowance) × WalksLate Exact f allowance) ⊎ ((IsNotShown f allowance) × IsWideToRefute f allowance)

-- Does the walk with exact points end wide at task i? The end of its program's run is too great to be read. Or the walk ends with the least
-- bounds that fit, and the task's dual there, as it is written, loses the whole part of its optimum.
abbrev pub WalksWide : SourceDef → ℕ → ℕ → Type 0
WalksWide f allowance i = (EndsIn (walk Exact f) allowance (Wide i))
    ⊎ ((bounds : List ℕ) × (duals : List DualDef) × (EndsIn (walk Exact f) allowance (Schedulable bounds duals))
    × (AreLeastFitting f bounds) × LosesWhole (f.program i bounds))

-- May the set be left unsettled at task i? The analysis ends wide, and so does the walk with exact points, at that task: its program needs
-- more than 63 bits. Or it is left to a walk to refuse the set, and the one with rounded points passes no latest bound.
abbrev pub MayBeWide : SourceDef → ℕ → ℕ → Type 0
MayBeWide f allowance i = ((IsWideToAnalyse f allowance) × (WalksWide f allowance i) × NeedsMoreBits f i)
    ⊎ ((IsToRefuse f allowance) × IsUnrefuted f allowance)

-- May so many units be too few? The analysis wants more. Or it ends wide, and the walk with exact points wants more. Or it is left to a
-- walk to refuse the set, and the one with rounded points wants more.
abbrev pub MayWantMore : SourceDef → ℕ → Type 0
MayWantMore f allowance = (EndsIn (rounds_of f) allowance Allowance)
    ⊎ (((IsWideToAnalyse f allowance) × EndsIn (walk Exact f) allowance Allowance)
    ⊎ ((IsToRefuse f allowance) × EndsIn (walk Rounded f) allowance Allowance))

-- Is it a refusal that holds, with small points, and tasks and values of 64 bits?
abbrev pub IsRefusedSo : SourceDef → Settled → Type 0
IsRefusedSo f (settled.Schedulable certificate) = ⊥
IsRefusedSo f (settled.Refused refusal) =
    (IsRight (settled.Refused refusal) f) × (HasSmallPoints (steps_seen refusal)) × Has64Bits (steps_seen refusal)

-- Where an answer comes from. If the rounds don't leave the set open, it is that of the analysis, or that of the rounds of refusals. If
-- they do, a certificate is that of the walk with exact points, and a refusal has small points. Running out of memory says nothing.
abbrev pub Settles : Result Settled SettleStop → SourceDef → ℕ → Type 0
Settles (Ok (settled.Schedulable certificate)) f allowance =
    (EndsIn (rounds_of f) allowance (Schedulable certificate.bounds.items (map dual_seen certificate.duals.items)))
    ⊎ IsWalkedTo f allowance certificate.bounds.items (map dual_seen certificate.duals.items)
Settles (Ok (settled.Refused refusal)) f allowance =
    ((IsNotShown f allowance) × Refutes (Ok (refutation.Refused refusal)) f allowance)
    ⊎ ((IsToRefuse f allowance) × HasSmallPoints (steps_seen refusal))
Settles (Err (stop.Wide task)) f allowance = MayBeWide f allowance task.0
Settles (Err stop.Allowance) f allowance = MayWantMore f allowance
Settles (Err stop.Memory) f allowance = Unit {0}

-- What is answered: where it comes from, that it is right, that no task of a schedulable set needs more bits, and that it can be written.
pub record IsAnswered (f : SourceDef) (allowance : ℕ) (r : Result Settled SettleStop) : Type 0 where
  pub settles : Settles r f allowance
  pub right : IfOk r (λ s. IsRight s f)
  pub enough : IfOk r (HasEnough f)
  pub names : NamesTask f.set r
  pub bits : IfOk r (λ s. RefusesIn64Bits s)

-- Is this an ending at a task that isn't shown, or a wide one?
abbrev pub IsUnshown : Ending → Type 0
IsUnshown e = (i : ℕ) × (value : ℕ) × (e ≡ NotShown i value)

abbrev pub IsWide : Ending → Type 0
IsWide e = (i : ℕ) × (e ≡ Wide i)

-- Which endings may the analysis have, given the answer? A certificate is the one that the analysis gives, unless that is wide. Running out
-- of memory says nothing.
abbrev pub Keeps : Result Settled SettleStop → Ending → Type 0
Keeps (Ok (settled.Schedulable certificate)) e =
    (e ≡ Schedulable certificate.bounds.items (map dual_seen certificate.duals.items)) ⊎ IsWide e
Keeps (Ok (settled.Refused refusal)) e = (IsUnshown e) ⊎ IsWide e
Keeps (Err (stop.Wide task)) e = (IsUnshown e) ⊎ IsWide e
Keeps (Err stop.Allowance) e = (e ≡ Allowance) ⊎ (IsUnshown e) ⊎ IsWide e
Keeps (Err stop.Memory) e = Unit {0}

-- What settling answers with this allowance.
pub record IsAnswerFor (f : SourceDef) (allowance : ℕ) (r : Result Settled SettleStop) : Type 0 where
  -- Where each answer comes from: the analysis, or a refutation, or a walk if these are wide. So when it is wide or out of units. And what
  -- is kept of each ending of the analysis.
  pub settles : Settles r f allowance
  pub keeps : (e : Ending) → EndsIn (rounds_of f) allowance e → Keeps r e
  -- Schedulable: the least fitting bounds, with a valid certificate. Refused: the refusal holds, and nothing fits. So an answer is
  -- schedulable if some bounds fit, and only then.
  pub right : IfOk r (λ s. IsRight s f)
  pub exactly : IfOk r (λ s. IsSchedulable s ↔ ((bounds : List ℕ) × AreFitting f bounds))
  -- If the answer is schedulable, no task's program needs more than 63 bits.
  pub enough : IfOk r (HasEnough f)
  -- What is answered can be written.
  pub names : NamesTask f.set r
  pub small_steps : IfOk r (λ s. RefusesBySmallSteps s)

-- Are the bounds of the certificate sound, with the values of its duals, under a protocol with these rules and this interference?
abbrev pub IsSound : (Rule → Trace → ℕ → Type 0) → (Trace → ℕ → ℕ → Bool) → SourceDef → Settled → Type 0
IsSound keeps interferes f (settled.Schedulable certificate) = (values : List ℕ) → AreValues f (certificate_seen certificate) values
    → Sound keeps interferes f.set certificate.bounds.items values
IsSound keeps interferes f (settled.Refused refusal) = Unit {0}
