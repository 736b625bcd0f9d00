-- What a round of a walk has found, one task more at a time, and how the rounds end.
use Rattle.std.proofs.Common.{◌≡◌, ◌≢◌, ℕ, suc, ◌+◌, ◌-◌, ◌<◌, ◌≤◌, List, [], ◌∷◌, ◌++◌, length, refl, sym, ap, subst, arith, Err}
use Rattle.std.proofs.Common.{true, false}
use Rattle.std.specs.Prelude.{slice_index, max, Some, None, IfSome}
use Rattle.std.specs.declared.option.Option.{Option}
use Rattle.std.proofs.lemmas.List.{length_push}
use Rattle.program_form.specs.Certificate.{dual_seen}
use Rattle.sporadic_model.specs.Bounds.{IsInRange}
use Rattle.program_sources.specs.Recurrence.{SourceDef, response_with}
use Rattle.program_sources.specs.Fitting.{AreBelowAllFitting, tasks_of, latest_of}
use Rattle.refusal_laws.specs.Steps.{StepDef}
use Rattle.refusal_laws.specs.Seen.{steps_seen}
use Rattle.refusal_laws.specs.declared.refusal.Refusal.{Refusal}
use Rattle.response_fixpoint.specs.Answers.{Halts}
use Rattle.response_fixpoint.specs.Rounds.{RunEnd, Valued, TooWide, OutOfUnits, Found, with_task, nothing_found, RoundsOf, Passes, Reaches, ComesTo}
use Rattle.settling.specs.Rising.{IsFoundOf, StopsAt, StopsWalk, IsNextBound, AreNextBounds, IsFixed, ShowsNothingFits}
use Rattle.settling.specs.Trails.{IsRefusal, EndsTrail, Refuses}
use Rattle.settling.specs.WalkRounds.{found_of, IsPart, IsLate, GivesRound, AreWrittenIfRounded}
use Rattle.settling.specs.Walks.{IsWalked, walk}
use Rattle.settling.specs.declared.answer.SettleStop.{SettleStop}
use Rattle.settling.specs.declared.answer.SettleStop.TheVariants as stop
use Rattle.settling.specs.declared.finding.Points.{Points}
use Rattle.settling.specs.declared.finding.Points.TheVariants.{Rounded}
use Rattle.settling.specs.declared.reached.Reached.{Reached}
use Rattle.settling.specs.declared.rounds.Round.{Round}
use Rattle.settling.specs.declared.steps.Steps.{Steps}
use Rattle.settling.proofs.RiseLaws.{RespondsBelow, none_found, one_more_found, no_bounds, one_more_bound, late_fits_nothing}

-- What a search found makes a run of the walk.
walked_of : (points : Points) (f : SourceDef) (r : List ℕ) (i left bound : ℕ) (found : Reached) → IsFoundOf points (f.program i r) found
    → found.used ≤ left → bound ≡ max (response_with f r i found.ticks) (slice_index r i)
    → IsWalked points f r i left found.used bound (dual_seen found.dual)
walked_of points f r i left bound found is within value = record {
  exchanges = is.exchanges;
  table = is.table;
  end = is.end;
  units = is.units;
  within = within;
  dual_is = is.dual;
  whole = is.whole;
  floor = is.floor;
  counted = is.counted;
  ticks = found.ticks;
  reads = is.reads;
  small = is.is_reached.small;
  value_is = value;
}

pub part_begins : (points : Points) (f : SourceDef) (r : List ℕ) (left : ℕ) (round : Round) → found_of round ≡ nothing_found
    → length round.reached.items ≡ 0 → IsPart points f r left 0 round
part_begins points f r left round nothing none =
    let used : round.used ≡ 0 = ap (λ (x : Found). x.used) nothing in
    let next : length round.next.items ≡ 0 = ap (λ (x : Found). length x.values) nothing in
    record {
      passed = nothing;
      one_each = none;
      reached = none_found points f r round.reached.items none;
      next = no_bounds f r round.next.items round.reached.items next;
      within = omega (arith, used);
      least = omega arith;
    }

pub part_goes_on : (points : Points) (f : SourceDef) (r : List ℕ) (left i bound : ℕ) (before now : Round) (found : Reached)
    → IsPart points f r left i before → IsFoundOf points (f.program i r) found → found.used ≤ left - before.used
    → bound ≡ max (response_with f r i found.ticks) (slice_index r i) → bound ≤ latest_of f i
    → found_of now ≡ with_task (found_of before) found.used bound (dual_seen found.dual)
    → now.reached.items ≡ before.reached.items ++ found ∷ [] → IsPart points f r left (i + 1) now
part_goes_on points f r left i bound before now found part is within value low same all =
    let runs = walked_of points f r i (left - before.used) bound found is within value in
    let after : Found = with_task (found_of before) found.used bound (dual_seen found.dual) in
    let next : Passes (walk points f) r left (suc i) after =
    (found_of before, found.used, bound, dual_seen found.dual, part.passed, runs, low, refl) in
    let count : suc i ≡ i + 1 = omega arith in
    let used : now.used ≡ before.used + found.used = ap (λ (x : Found). x.used) same in
    let bounds : now.next.items ≡ before.next.items ++ bound ∷ [] = ap (λ (x : Found). x.values) same in
    let own : IsNextBound f r i found.ticks bound = record { greater = value; within = low } in
    record {
      passed = subst (λ (x : Found). Passes (walk points f) r left (i + 1) x) (sym same)
          (subst (λ (k : ℕ). Passes (walk points f) r left k after) count next);
      one_each = omega (arith, ap length all, length_push before.reached.items found, part.one_each);
      reached = rw all (one_more_found points f r before.reached.items i found part.one_each part.reached is);
      next = rw (all, bounds) (one_more_bound f r before.next.items before.reached.items i bound found part.one_each part.next own);
      within = omega (arith, used, within, part.within);
      least = omega (arith, used, part.least, is.units);
    }

-- A round ends where a search stops, and where a value passes its latest bound.
pub round_stops : (points : Points) (f : SourceDef) (r : List ℕ) (left i : ℕ) (round : Round) (steps : Steps) (s : SettleStop)
    → i < tasks_of f → IsPart points f r left i round → StopsAt points f r i (left - round.used) s
    → GivesRound (Err s) points f r left steps
round_stops points f r left i round steps (stop.Wide task) here part (same, runs) =
    subst (λ (k : ℕ). Halts (walk points f) r left k TooWide) (sym same)
    (record { found = found_of round; below = here; passed = part.passed; run = runs })
round_stops points f r left i round steps stop.Allowance here part runs =
    (i, record { found = found_of round; below = here; passed = part.passed; run = runs })
round_stops points f r left i round steps stop.Memory here part runs = tt

pub late_of : (points : Points) (f : SourceDef) (r : List ℕ) (left i bound : ℕ) (round : Round) (found : Reached) → i < tasks_of f
    → IsPart points f r left i round → IsFoundOf points (f.program i r) found → found.used ≤ left - round.used
    → bound ≡ max (response_with f r i found.ticks) (slice_index r i) → slice_index r i ≤ latest_of f i → latest_of f i < bound
    → IsLate points f r left
late_of points f r left i bound round found here part is within value most late = record {
  task = i;
  used = found.used;
  value = bound;
  dual = dual_seen found.dual;
  halts = record {
    found = found_of round;
    below = here;
    passed = part.passed;
    run = walked_of points f r i (left - round.used) bound found is within value;
  };
  late = late;
  ticks = found.ticks;
  reached = is.is_reached.reached;
  response = omega (arith, value, most, late);
}

-- The rounds come to where a round of theirs halts.
pub comes_at : (o : RoundsOf) (allowance k spent : ℕ) (r : List ℕ) (i : ℕ) (e : RunEnd) (h : Halts o r (allowance - spent) i e)
    → Reaches o allowance k spent r → ComesTo o allowance r i (allowance - spent - h.found.used) h.found
comes_at o allowance k spent r i e h way = record { rounds = k; spent = spent; reached = way; passed = h.passed; units = refl }

pub walk_stops : (points : Points) (f : SourceDef) (allowance k spent : ℕ) (r : List ℕ) (s : SettleStop) (steps : Steps)
    → Reaches (walk points f) allowance k spent r → GivesRound (Err s) points f r (allowance - spent) steps
    → StopsWalk points f allowance s
walk_stops points f allowance k spent r (stop.Wide task) steps way h =
    (r, allowance - spent - h.found.used, h.found, h.below, comes_at (walk points f) allowance k spent r task.0 TooWide h way, h.run)
walk_stops points f allowance k spent r stop.Allowance steps way (i, h) =
    (r, i, allowance - spent - h.found.used, h.found, h.below, comes_at (walk points f) allowance k spent r i OutOfUnits h way, h.run)
walk_stops points f allowance k spent r stop.Memory steps way h = tt

-- A value that is late shows that nothing fits, and the steps that are written refuse the set.
refusal_shown : (points : Points) (f : SourceDef) (steps : Steps) (refusal : Option Refusal) → EndsTrail f steps → Refuses steps refusal
    → IfSome refusal (λ r. IsRefusal f (steps_seen r))
refusal_shown points f steps (Some refusal) trail (written, same) = subst (λ (s : List StepDef). IsRefusal f s) (sym same) (trail written)
refusal_shown points f steps None trail none = tt

refusal_written : (points : Points) (steps : Steps) (refusal : Option Refusal) → AreWrittenIfRounded points steps → Refuses steps refusal
    → points ≡ Rounded → refusal ≡ None → ⊥
refusal_written points steps (Some refusal) are refuses rounded none = cc
refusal_written points steps None are none rounded same =
    let no : false ≡ true = rw none at (are rounded) in cc

pub late_shows : (points : Points) (f : SourceDef) (allowance k spent : ℕ) (r : List ℕ) (refusal : Option Refusal) (steps : Steps)
    → RespondsBelow f → AreBelowAllFitting f r → Reaches (walk points f) allowance k spent r → IsLate points f r (allowance - spent)
    → EndsTrail f steps → AreWrittenIfRounded points steps → Refuses steps refusal → ShowsNothingFits points f allowance refusal
late_shows points f allowance k spent r refusal steps responds below way late trail are refuses =
    let o : RoundsOf = walk points f in
    let h = late.halts in
    record {
      none = late_fits_nothing f r late.task late.ticks responds below h.below late.reached late.response;
      late = (
        late.task,
        late.value,
        (
          r,
          allowance - spent - h.found.used,
          h.found,
          late.used,
          late.dual,
          h.below,
          comes_at o allowance k spent r late.task (Valued late.used late.value late.dual) h way,
          h.run,
          late.late,
        ),
      );
      holds = refusal_shown points f steps refusal trail refuses;
      written = refusal_written points steps refusal are refuses;
    }

-- A round that gives the bounds that it began with ends the walk. Else the rounds go on.
pub fixed_of : (points : Points) (f : SourceDef) (allowance k spent : ℕ) (r : List ℕ) (round : Round) → IsInRange f.set r
    → AreBelowAllFitting f r → Reaches (walk points f) allowance k spent r
    → IsPart points f r (allowance - spent) (tasks_of f) round → round.next.items ≡ r → IsFixed points f allowance r round.reached.items
fixed_of points f allowance k spent r round range below way part same = record {
  range = range;
  below = below;
  one_each = part.one_each;
  found = part.reached;
  fixed = subst (λ (x : List ℕ). AreNextBounds f r (tasks_of f) round.reached.items x) same part.next;
  ends = (
    allowance - spent - round.used,
    found_of round,
    record { rounds = k; spent = spent; reached = way; passed = part.passed; units = refl },
    same,
    refl,
  );
}

pub way_on : (points : Points) (f : SourceDef) (allowance k spent : ℕ) (r : List ℕ) (round : Round)
    → Reaches (walk points f) allowance k spent r → IsPart points f r (allowance - spent) (tasks_of f) round → r ≢ round.next.items
    → Reaches (walk points f) allowance (suc k) (spent + round.used) round.next.items
way_on points f allowance k spent r round way part other = (spent, r, found_of round, way, part.passed, refl, other, refl)
