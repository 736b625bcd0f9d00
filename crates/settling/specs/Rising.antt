-- Bounds that rise by what programs were shown to reach.
use Rattle.std.specs.Prelude.{◌≡◌, ◌⊎◌, ℕ, ◌+◌, ◌<◌, ◌≤◌, ◌^◌, List, map, max, pos, length, slice_index, slice_get, Some, None}
use Rattle.std.specs.Prelude.{Result, Ok, Err, IfSome}
use Rattle.std.specs.declared.option.Option.{Option}
use Rattle.fraction128.specs.Fraction.{IsFloor}
use Rattle.program_form.specs.Certificate.{DualDef, CertificateDef, dual_seen}
use Rattle.program_form.specs.Points.{IsScaledPoint, Reaches, IsGreatestReached}
use Rattle.program_form.specs.Program.{ProgramDef, columns}
use Rattle.program_form.specs.declared.certificate.Dual.{Dual}
use Rattle.sporadic_model.specs.Bounds.{IsInRange}
use Rattle.program_sources.specs.Recurrence.{SourceDef, response_with}
use Rattle.program_sources.specs.Fitting.{AreBelowAllFitting, AreLeastFitting, tasks_of, latest_of}
use Rattle.program_sources.specs.Valid.{IsValid, dual_at}
use Rattle.exchange_runs.specs.Readings.{value_of}
use Rattle.exchange_runs.specs.Table.{Table}
use Rattle.point_tests.specs.Worth.{IsWorth}
use Rattle.refusal_laws.specs.Steps.{whole_worth}
use Rattle.refusal_laws.specs.Seen.{steps_seen}
use Rattle.refusal_laws.specs.declared.refusal.Refusal.{Refusal}
use Rattle.response_fixpoint.specs.Answers.{IsSmallDual}
use Rattle.response_fixpoint.specs.Places.{AreEach, AreEachFound, ArePlaced}
use Rattle.response_fixpoint.specs.declared.places.Placed.{Placed}
use Rattle.response_fixpoint.specs.Rounds.{TooWide, OutOfUnits, Schedulable, Wide, Allowance, EndsIn}
use Rattle.schedule_answers.specs.declared.checked.Invalid.{Invalid}
use Rattle.schedule_answers.specs.declared.checked.Invalid.TheVariants as invalid
use Rattle.free_search.specs.Ends.{IsEndAfter, IsFoundDual, NeedsMoreThan}
use Rattle.free_search.specs.Rounding.{AreWrittenDown, HaveGreatWholes}
use Rattle.free_search.specs.declared.found.Found.{Found}
use Rattle.free_search.specs.declared.found.SearchStop.{SearchStop}
use Rattle.free_search.specs.declared.found.SearchStop.TheVariants.{Memory, Units, Lost}
use Rattle.settling.specs.Trails.{IsRefusal}
use Rattle.settling.specs.Walks.{Reads, IsPastReading, WalkRuns, walk, WalksLate}
use Rattle.settling.specs.Ways.{LosesWhole, NothingFits}
use Rattle.settling.specs.declared.answer.SettleStop.{SettleStop}
use Rattle.settling.specs.declared.answer.SettleStop.TheVariants as stop
use Rattle.settling.specs.declared.finding.Points.{Points}
use Rattle.settling.specs.declared.finding.Points.TheVariants.{Exact, Rounded}
use Rattle.settling.specs.declared.reached.Reached.{Reached}
use Rattle.settling.specs.declared.rising.Risen.{Risen}
use Rattle.settling.specs.declared.rising.Risen.TheVariants as risen

-- Does the program reach so many ticks, and are they below 2^63?
pub record IsReached (p : ProgramDef) (ticks : ℕ) : Type 0 where
  pub reached : Reaches p ticks
  pub small : ticks < 2 ^ 63

-- Is the point of these numbers over `den` written in 63 bits, just as it is?
pub record IsWrittenOver (den : ℕ) (num : List ℕ) (point : DualDef) : Type 0 where
  pub den_is : point.den ≡ den
  pub num_are : point.num ≡ num
  pub small : IsSmallDual point

-- Have they more than 63 bits?
abbrev pub AreGreat : ℕ → List ℕ → Type 0
AreGreat den num = (2 ^ 63 ≤ den) ⊎ ((r : ℕ) × (r < length num) × (2 ^ 63 ≤ slice_index num r))

-- Does the point show that the program reaches so many ticks? And are its numbers below 2^63?
pub record IsPointFor (p : ProgramDef) (ticks : ℕ) (point : DualDef) : Type 0 where
  pub size : length point.num ≡ columns p
  pub rows : IsScaledPoint p point.den (slice_index point.num)
  pub worth : ticks ≤ whole_worth p point
  pub small : IsSmallDual point

abbrev pub seen_point : Option Dual → Option DualDef
seen_point (Some point) = Some (dual_seen point)
seen_point None = None

-- Is this what a search found of the program: its limits, what is read at its run's end, and a point that reaches it, if that is written?
-- With exact points the ticks are the greatest that the program reaches.
pub record IsFoundOf (points : Points) (p : ProgramDef) (found : Reached) : Type 0 where
  pub limits : found.limits.items ≡ p.limits
  pub exchanges : ℕ
  pub table : Table
  pub end : IsEndAfter p exchanges table
  pub units : found.used ≡ exchanges + 1
  pub dual : IsFoundDual p table (dual_seen found.dual)
  pub whole : ℕ
  pub floor : IsFloor (value_of p table) (pos whole)
  pub counted : whole < 2 ^ 64
  pub reads : Reads points p table found.ticks
  pub is_reached : IsReached p found.ticks
  pub point : IfSome (seen_point found.point) (IsPointFor p found.ticks)
  pub written : points ≡ Rounded → seen_point found.point ≡ None → ⊥
  pub greatest : points ≡ Exact → IsGreatestReached p found.ticks

-- Was this found of task i's program at the bounds v?
abbrev pub IsFoundAt : Points → SourceDef → List ℕ → ℕ → Reached → Type 0
IsFoundAt points f v i r = IsFoundOf points (f.program i v) r

-- Was this found of the programs of the first tasks, one after another?
abbrev pub AreFoundAt : Points → SourceDef → List ℕ → List Reached → Type 0
AreFoundAt points f v found = AreEach (IsFoundAt points f v) 0 found

-- Was the same found?
pub record IsSame (before now : Reached) : Type 0 where
  pub ticks : now.ticks ≡ before.ticks
  pub limits : now.limits.items ≡ before.limits.items
  pub dual : dual_seen now.dual ≡ dual_seen before.dual
  pub used : now.used ≡ before.used
  pub point : seen_point now.point ≡ seen_point before.point

-- The duals that were found.
abbrev pub duals_found : List Reached → List DualDef
duals_found found = map dual_seen (map (λ r. r.dual) found)

-- Is it the same with its point rounded down? And are the ticks what the rounded point is worth?
pub record HasRounded (p : ProgramDef) (found rounded : Found) : Type 0 where
  pub point : DualDef
  pub written : AreWrittenDown found.num.items found.den point
  pub den : rounded.den ≡ point.den
  pub num : rounded.num.items ≡ point.num
  pub ticks : rounded.ticks ≡ whole_worth p point
  pub dual : rounded.dual ≡ found.dual
  pub used : rounded.used ≡ found.used

-- Is there such a point, worth more ticks than 64 bits hold?
pub record IsWorthTooMuch (p : ProgramDef) (found : Found) : Type 0 where
  pub point : DualDef
  pub written : AreWrittenDown found.num.items found.den point
  pub great : 2 ^ 64 ≤ whole_worth p point

-- What rounding the point of what was found gives. Lost says that the point or its worth is too great.
abbrev pub IsRoundedFrom : ProgramDef → Found → Result Found SearchStop → Type 0
IsRoundedFrom p found (Ok rounded) = HasRounded p found rounded
IsRoundedFrom p found (Err Memory) = Unit {0}
IsRoundedFrom p found (Err Units) = ⊥
IsRoundedFrom p found (Err Lost) = (HaveGreatWholes found.num.items found.den) ⊎ IsWorthTooMuch p found

-- Is this read at the end of the program's run, within so many units? And is its point worth the ticks?
pub record IsFoundBy (points : Points) (p : ProgramDef) (units : ℕ) (found : Found) : Type 0 where
  pub exchanges : ℕ
  pub table : Table
  pub end : IsEndAfter p exchanges table
  pub used : found.used ≡ exchanges + 1
  pub within : found.used ≤ units
  pub dual : IsFoundDual p table (dual_seen found.dual)
  pub whole : ℕ
  pub floor : IsFloor (value_of p table) (pos whole)
  pub counted : whole < 2 ^ 64
  pub reads : Reads points p table found.ticks
  pub one_each : length found.num.items ≡ columns p
  pub small : points ≡ Rounded → AreGreat found.den found.num.items → ⊥
  pub worth : IsWorth p found.den found.num.items found.ticks

-- Why a search finds nothing: its run needs more units, or its end is too great to be read.
abbrev pub StopsSo : Points → ProgramDef → ℕ → SearchStop → Type 0
StopsSo points p units Memory = Unit {0}
StopsSo points p units Units = NeedsMoreThan p units
StopsSo points p units Lost = (k : ℕ) × (t : Table) × (k < units) × (IsEndAfter p k t) × IsPastReading points p t

-- The same of a stop at task i, at the bounds v.
abbrev pub StopsAt : Points → SourceDef → List ℕ → ℕ → ℕ → SettleStop → Type 0
StopsAt points f v i left (stop.Wide task) = (task.0 ≡ i) × WalkRuns points f v i left TooWide
StopsAt points f v i left stop.Allowance = WalkRuns points f v i left OutOfUnits
StopsAt points f v i left stop.Memory = Unit {0}

-- What a round of a walk begins with: bounds in range, and what was found at other bounds.
pub record IsBegun (points : Points) (f : SourceDef) (v : List ℕ) (found : List Reached) : Type 0 where
  pub range : IsInRange f.set v
  pub before : (u : List ℕ) × AreFoundAt points f u found

-- What is found ahead of a round: of programs at the bounds v, each with its task, or each at its task's place.
abbrev pub AreFoundWithTasks : Points → SourceDef → List ℕ → List (Placed Reached) → Type 0
AreFoundWithTasks points f v found = ArePlaced (IsFoundAt points f v) (tasks_of f) found

abbrev pub AreFoundInPlaces : Points → SourceDef → List ℕ → List (Option Reached) → Type 0
AreFoundInPlaces points f v found = AreEachFound (IsFoundAt points f v) 0 found

-- Is b within task i's latest bound? Is it the task's response time with these ticks as blocking, or its bound if that is greater?
pub record IsNextBound (f : SourceDef) (v : List ℕ) (i ticks b : ℕ) : Type 0 where
  pub greater : b ≡ max (response_with f v i ticks) (slice_index v i)
  pub within : b ≤ latest_of f i

-- Are these such bounds for the first n tasks, with the ticks that were found?
pub record AreNextBounds (f : SourceDef) (v : List ℕ) (n : ℕ) (found : List Reached) (next : List ℕ) : Type 0 where
  pub one_each : length next ≡ n
  pub each : (i : ℕ) (r : Reached) → i < n → slice_get found i ≡ Some r → IsNextBound f v i r.ticks (slice_index next i)

-- Are the certificate's bounds the least that fit, is it valid, and are its duals small?
pub record IsProvedLeast (f : SourceDef) (c : CertificateDef) : Type 0 where
  pub least : AreLeastFitting f c.bounds
  pub valid : IsValid f c
  pub small : (i : ℕ) → i < tasks_of f → IsSmallDual (dual_at c.duals i)

-- Is it the certificate of these bounds, with the duals that were found, and does it prove that they are the least that fit?
pub record ProvesLeast (f : SourceDef) (bounds : List ℕ) (reached : List Reached) (c : CertificateDef) : Type 0 where
  pub least : IsProvedLeast f c
  pub made : c ≡ record { bounds = bounds; duals = duals_found reached }

-- Do bounds that are at most every fitting vector not rise any more, after this was found at them? And do the rounds of the walk end so?
pub record IsFixed (points : Points) (f : SourceDef) (allowance : ℕ) (bounds : List ℕ) (reached : List Reached) : Type 0 where
  pub range : IsInRange f.set bounds
  pub below : AreBelowAllFitting f bounds
  pub one_each : length reached ≡ tasks_of f
  pub found : AreFoundAt points f bounds reached
  pub fixed : AreNextBounds f bounds (tasks_of f) reached bounds
  pub ends : EndsIn (walk points f) allowance (Schedulable bounds (duals_found reached))

-- Does some value pass its latest bound, so that nothing fits? Do the rounds of the walk end so? And does the refusal hold, if there is one?
pub record ShowsNothingFits (points : Points) (f : SourceDef) (allowance : ℕ) (refusal : Option Refusal) : Type 0 where
  pub none : NothingFits f
  pub late : WalksLate points f allowance
  pub holds : IfSome refusal (λ r. IsRefusal f (steps_seen r))
  pub written : points ≡ Rounded → refusal ≡ None → ⊥

-- Where a walk ends.
abbrev pub Rises : Points → SourceDef → ℕ → Risen → Type 0
Rises points f allowance (risen.Fixed bounds reached) = IsFixed points f allowance bounds.items reached.items
Rises points f allowance (risen.Late refusal) = ShowsNothingFits points f allowance refusal

-- Why it stops: its rounds end so.
abbrev pub StopsWalk : Points → SourceDef → ℕ → SettleStop → Type 0
StopsWalk points f allowance (stop.Wide task) = EndsIn (walk points f) allowance (Wide task.0)
StopsWalk points f allowance stop.Allowance = EndsIn (walk points f) allowance Allowance
StopsWalk points f allowance stop.Memory = Unit {0}

-- Is it the failure of the last test of a certificate, or want of memory?
abbrev pub IsLastFailure : Invalid → Type 0
IsLastFailure (invalid.Small task) = Unit {0}
IsLastFailure invalid.Memory = Unit {0}
IsLastFailure other = ⊥

-- Is this the stop for such a failure?
abbrev pub StopsFor : Invalid → SettleStop → Type 0
StopsFor (invalid.Small task) s = s ≡ stop.Wide task
StopsFor invalid.Memory s = s ≡ stop.Memory
StopsFor other s = ⊥

-- Does a stop at bounds that don't rise any more come only if they are the least that fit, and a task's dual loses the whole part of its
-- optimum?
abbrev pub StopsLost : SourceDef → List ℕ → SettleStop → Type 0
StopsLost f v (stop.Wide task) = (task.0 < tasks_of f) × (AreLeastFitting f v) × LosesWhole (f.program task.0 v)
StopsLost f v stop.Allowance = ⊥
StopsLost f v stop.Memory = Unit {0}
