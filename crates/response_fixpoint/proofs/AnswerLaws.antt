-- What the answers of the analysis mean, from how the rounds end.
use Rattle.std.proofs.Common.{◌≡◌, ◌≢◌, ℕ, suc, ◌+◌, ◌-◌, ◌*◌, ◌<◌, ◌≤◌, ◌↔◌, List, length, map, refl, sym, ◌∙◌, ap}
use Rattle.std.proofs.Common.{subst, arith, Ok, Err, IfOk}
use Rattle.std.specs.Prelude.{Result, IsErrOf, slice_index}
use Rattle.program_form.specs.Certificate.{DualDef, dual_seen}
use Rattle.program_form.specs.Program.{ProgramDef}
use Rattle.program_sources.specs.Recurrence.{SourceDef}
use Rattle.program_sources.specs.Fitting.{AreFitting, NeverFalls, ComesUpAbove, tasks_of, latest_of}
use Rattle.sporadic_model.specs.SetDef.{SetDef}
use Rattle.sporadic_model.specs.Bounds.{AreWithinDeadlines, AreFromCostsAbove, IsInRange}
use Rattle.simplex.specs.declared.SolveStop.{SolveStop}
use Rattle.simplex.specs.declared.SolveStop.TheVariants as solve_stop
use Rattle.response_fixpoint.specs.Rounds.{RunEnd, Valued, TooWide, OutOfUnits, Ending, Schedulable, NotShown, Wide}
use Rattle.response_fixpoint.specs.Rounds.{Allowance, Found, with_task, RoundsOf, Passes, Reaches, ComesTo, EndsIn}
use Rattle.response_fixpoint.specs.Runs.{TaskRuns, rounds_of, HasNoColumns, slack_of}
use Rattle.response_fixpoint.specs.Answers.{Answers, IsAnswerOf, IsRight, IsSchedulable, GivesRun, TakesRun, Halts}
use Rattle.response_fixpoint.specs.Answers.{GivesRound, IsSettled, found_of, answer_at, stop_at}
use Rattle.response_fixpoint.specs.Taking.{TakesRound, IsReached, EndsWith}
use Rattle.response_fixpoint.specs.declared.verdict.Verdict.{Verdict}
use Rattle.response_fixpoint.specs.declared.verdict.Verdict.TheVariants as verdict
use Rattle.response_fixpoint.specs.declared.verdict.Stop.{Stop}
use Rattle.response_fixpoint.specs.declared.verdict.Stop.TheVariants as stop
use Rattle.response_fixpoint.specs.declared.task_run.TaskRun.{TaskRun}
use Rattle.response_fixpoint.specs.declared.rounds.Round.{Round}
use Rattle.response_fixpoint.specs.declared.rounds.RoundStop.{RoundStop}
use Rattle.response_fixpoint.specs.declared.rounds.RoundStop.TheVariants as round_stop
use Rattle.response_fixpoint.proofs.LeastExists.{cost_below}
use Rattle.response_fixpoint.proofs.RoundLaws.{values_length}
use Rattle.response_fixpoint.proofs.RunLaws.{one_ending, round_value, rounds_never_wide, never_short, CostsFit}
use Rattle.response_fixpoint.proofs.EndLaws.{schedulable_best, not_shown_none}

-- Rounds end in one way, so the answer is the one of their end.
pub only_of : (f : SourceDef) (allowance : ℕ) (r : Result Verdict Stop) → Answers r f allowance → (e : Ending)
    → EndsIn (rounds_of f) allowance e → IsAnswerOf r e
only_of f allowance (Ok (verdict.Schedulable certificate)) answers e ends =
    one_ending f allowance e (Schedulable certificate.bounds.items (map dual_seen certificate.duals.items)) ends answers
only_of f allowance (Ok (verdict.NotShown task bound)) answers e ends = one_ending f allowance e (NotShown task.0 bound) ends answers
only_of f allowance (Err (stop.Wide task)) answers e ends = one_ending f allowance e (Wide task.0) ends answers
only_of f allowance (Err stop.Allowance) answers e ends = one_ending f allowance e Allowance ends answers
only_of f allowance (Err stop.Memory) answers e ends = tt

-- The verdict of rounds that end so is right.
pub right_of : (f : SourceDef) (allowance : ℕ) (r : Result Verdict Stop) → ComesUpAbove f → Answers r f allowance
    → IfOk r (λ v. IsRight v f)
right_of f allowance (Ok (verdict.Schedulable certificate)) above ends =
    schedulable_best f allowance certificate.bounds.items (map dual_seen certificate.duals.items) above ends
right_of f allowance (Ok (verdict.NotShown task bound)) above ends = not_shown_none f allowance task.0 bound above ends
right_of f allowance (Err e) above ends = tt

-- Schedulable comes if some bounds fit, and only then.
pub exactly_of : (f : SourceDef) (r : Result Verdict Stop) → IfOk r (λ v. IsRight v f)
    → IfOk r (λ v. IsSchedulable v ↔ ((s : List ℕ) × AreFitting f s))
exactly_of f (Ok (verdict.Schedulable certificate)) right = ((λ _. (certificate.bounds.items, right.least.fitting)), λ _. tt)
exactly_of f (Ok (verdict.NotShown task bound)) right = ((λ h. absurd h), λ h. absurd (right h.0 h.1))
exactly_of f (Err e) right = tt

-- Without columns no stop is Wide.
pub never_wide_of : (f : SourceDef) (allowance : ℕ) (r : Result Verdict Stop) → Answers r f allowance → HasNoColumns f
    → (task : ℕ) → IsErrOf r (stop.Wide (record { 0 = task })) → ⊥
never_wide_of f allowance (Ok v) ends none task is = cc
never_wide_of f allowance (Err (stop.Wide x)) ends none task is = rounds_never_wide f allowance x.0 none ends
never_wide_of f allowance (Err stop.Allowance) ends none task is = cc
never_wide_of f allowance (Err stop.Memory) ends none task is = cc

-- An allowance of one unit per task for each tick of slack, and for one more round, is enough.
pub never_short_of : (f : SourceDef) (allowance : ℕ) (r : Result Verdict Stop) → NeverFalls f → CostsFit f
    → Answers r f allowance → HasNoColumns f
    → tasks_of f * (1 + slack_of f) ≤ allowance → IsErrOf r stop.Allowance → ⊥
never_short_of f allowance (Ok v) monotone fit ends none enough is = cc
never_short_of f allowance (Err (stop.Wide task)) monotone fit ends none enough is = cc
never_short_of f allowance (Err stop.Allowance) monotone fit ends none enough is = never_short f allowance none monotone fit enough ends
never_short_of f allowance (Err stop.Memory) monotone fit ends none enough is = cc

-- The vector of a round is within the latest bounds, and at least the costs.
pub within_of : (set : SetDef) (r : List ℕ) → IsInRange set r → AreWithinDeadlines set r
within_of set r h = record { one_each = h.one_each; to_latest = h.to_latest }

pub from_costs_of : (set : SetDef) (r : List ℕ) (i : ℕ) → IsInRange set r → i < length set.tasks → AreFromCostsAbove set r i
from_costs_of set r i h here = λ k above. h.from_cost k (omega (arith, here, above))

-- One more task passes.
pub passes_more : (f : SourceDef) (r : List ℕ) (left i : ℕ) (before : Found) (run : TaskRun) → Passes (rounds_of f) r left i before
    → TaskRuns f r i (left - before.used) (Valued run.solution.used run.value (dual_seen run.solution.dual)) → run.value ≤ latest_of f i
    → Passes (rounds_of f) r left (i + 1) (with_task before run.solution.used run.value (dual_seen run.solution.dual))
passes_more f r left i before run passed runs within =
    let after : Found = with_task before run.solution.used run.value (dual_seen run.solution.dual) in
    let next : Passes (rounds_of f) r left (suc i) after =
    (before, run.solution.used, run.value, dual_seen run.solution.dual, passed, runs, within, refl) in
    let count : suc i ≡ i + 1 = omega arith in
    subst (λ (k : ℕ). Passes (rounds_of f) r left k after) count next

-- A solved run takes at least one unit, and no more than are left.
pub run_units : (f : SourceDef) (r : List ℕ) (i left used value : ℕ) (dual : DualDef)
    → TaskRuns f r i left (Valued used value dual) → (1 ≤ used) × (used ≤ left)
run_units f r i left used value dual run = (omega (arith, run.ends.units), omega (arith, run.ends.units, run.ends.ends.within))

-- A round ends where a run stops.
pub run_halts : (f : SourceDef) (r : List ℕ) (left i : ℕ) (found : Found) (e : SolveStop) → i < tasks_of f
    → Passes (rounds_of f) r left i found
    → GivesRun (Err e) f r i (left - found.used) → GivesRound (Err (stop_at e i)) f r left
run_halts f r left i found solve_stop.Wide here passed run = record { found = found; below = here; passed = passed; run = run }
run_halts f r left i found solve_stop.Units here passed run = (i, record { found = found; below = here; passed = passed; run = run })
run_halts f r left i found solve_stop.Memory here passed run = tt

-- It ends at a value that passes the latest bound.
pub value_halts : (f : SourceDef) (r : List ℕ) (left i latest : ℕ) (before now : Round) (program : ProgramDef) (run : TaskRun)
    (e : RoundStop) → i < tasks_of f → latest ≡ latest_of f i
    → Passes (rounds_of f) r left i (found_of before)
    → TaskRuns f r i (left - before.used) (Valued run.solution.used run.value (dual_seen run.solution.dual))
    → TakesRun (Err e) before now program run i latest → GivesRound (Err e) f r left
value_halts f r left i latest before now program run (round_stop.NotShown task bound) here is passed runs (same, value, past) =
    let halts : Halts (rounds_of f) r left i (Valued run.solution.used bound (dual_seen run.solution.dual)) = record {
      found = found_of before;
      below = here;
      passed = passed;
      run = subst
          (λ (v : ℕ). TaskRuns f r i (left - before.used) (Valued run.solution.used v (dual_seen run.solution.dual)))
          (sym value) runs;
    } in
    let late : latest_of f i < bound = omega (arith, is, value, past) in
    subst
    (λ (k : ℕ). (latest_of f k < bound) × (used : ℕ) × (dual : DualDef) × Halts (rounds_of f) r left k (Valued used bound dual))
    (sym same) (late, run.solution.used, dual_seen run.solution.dual, halts)
value_halts f r left i latest before now program run (round_stop.Wide task) here is passed runs given = absurd given
value_halts f r left i latest before now program run round_stop.Allowance here is passed runs given = absurd given
value_halts f r left i latest before now program run round_stop.Memory here is passed runs given = tt

-- The rounds come to the task at which a round halts.
abbrev pub comes_there : (o : RoundsOf) (allowance k spent : ℕ) (r : List ℕ) (i : ℕ) (e : RunEnd) → Reaches o allowance k spent r
    → (h : Halts o r (allowance - spent) i e) → ComesTo o allowance r i (allowance - spent - h.found.used) h.found
comes_there o allowance k spent r i e reached h = record { rounds = k; spent = spent; reached = reached; passed = h.passed; units = refl }

-- A round that ends the rounds gives their end.
pub ended_answers : (f : SourceDef) (allowance k spent : ℕ) (r : List ℕ) (e : RoundStop) → Reaches (rounds_of f) allowance k spent r
    → GivesRound (Err e) f r (allowance - spent) → Answers (answer_at e) f allowance
ended_answers f allowance k spent r (round_stop.NotShown task bound) reached (late, used, dual, h) = (
  r,
  allowance - spent - h.found.used,
  h.found,
  used,
  dual,
  h.below,
  comes_there (rounds_of f) allowance k spent r task.0 (Valued used bound dual) reached h,
  h.run,
  late,
)
ended_answers f allowance k spent r (round_stop.Wide task) reached h =
    (r, allowance - spent - h.found.used, h.found, h.below, comes_there (rounds_of f) allowance k spent r task.0 TooWide reached h, h.run)
ended_answers f allowance k spent r round_stop.Allowance reached (i, h) =
    (r, i, allowance - spent - h.found.used, h.found, h.below, comes_there (rounds_of f) allowance k spent r i OutOfUnits reached h, h.run)
ended_answers f allowance k spent r round_stop.Memory reached given = tt

-- What is answered if a round gives the vector that it began with, from how the rounds end.
pub settled_answers : (f : SourceDef) (allowance : ℕ) (r : Result Verdict Stop) (bounds : List ℕ) (duals : List DualDef)
    → EndsIn (rounds_of f) allowance (Schedulable bounds duals) → IsSettled r bounds duals → Answers r f allowance
settled_answers f allowance (Ok (verdict.Schedulable certificate)) bounds duals ends (same, all) =
    let here : Schedulable bounds duals ≡ Schedulable certificate.bounds.items (map dual_seen certificate.duals.items) =
    ap (λ x. Schedulable x duals) (sym same) ∙ ap (λ x. Schedulable certificate.bounds.items x) (sym all) in
    subst (λ (e : Ending). EndsIn (rounds_of f) allowance e) here ends
settled_answers f allowance (Ok (verdict.NotShown task bound)) bounds duals ends given = absurd given
settled_answers f allowance (Err (stop.Wide task)) bounds duals ends given = absurd given
settled_answers f allowance (Err stop.Allowance) bounds duals ends given = absurd given
settled_answers f allowance (Err stop.Memory) bounds duals ends given = tt

-- A round that gives the vector that it began with ends them too.
pub settled_ends : (o : RoundsOf) (allowance k spent : ℕ) (r : List ℕ) (found : Found) → Reaches o allowance k spent r
    → Passes o r (allowance - spent) o.tasks found → found.values ≡ r → EndsIn o allowance (Schedulable found.values found.duals)
settled_ends o allowance k spent r found reached passed same =
    let comes : ComesTo o allowance r o.tasks (allowance - spent - found.used) found =
    record { rounds = k; spent = spent; reached = reached; passed = passed; units = refl } in
    let moved : ComesTo o allowance found.values o.tasks (allowance - spent - found.used) found =
    subst (λ (v : List ℕ). ComesTo o allowance v o.tasks (allowance - spent - found.used) found) (sym same) comes in
    (allowance - spent - found.used, found, moved, refl, refl)

-- The next vector of a round is in range again.
pub next_in_range : (f : SourceDef) (r : List ℕ) (left : ℕ) (found : Found)
    → Passes (rounds_of f) r left (tasks_of f) found → IsInRange f.set found.values
next_in_range f r left found passed = record {
  one_each = values_length (rounds_of f) r left (tasks_of f) found passed;
  from_cost = λ i here. cost_below f r i (slice_index found.values i) (round_value f r left found passed i here).0;
  to_latest = λ i here. (round_value f r left found passed i here).1;
}

-- A round that gives another vector goes by.
pub reaches_more : (f : SourceDef) (allowance k spent used : ℕ) (r : List ℕ) (found : Found) → Reaches (rounds_of f) allowance k spent r
    → Passes (rounds_of f) r (allowance - spent) (tasks_of f) found → r ≢ found.values → used ≡ spent + found.used
    → (j : ℕ) × Reaches (rounds_of f) allowance j used found.values
reaches_more f allowance k spent used r found reached passed other units =
    (suc k, (spent, r, found, reached, passed, refl, other, units))

-- What a round gives, as the loop of the rounds asks for it.
pub round_taken : (f : SourceDef) (r : List ℕ) (left : ℕ) (given : Result Round RoundStop) → GivesRound given f r left
    → TakesRound IsReached IsReached EndsWith f r left given
round_taken f r left (Ok round) (passed, within, least, kept) =
    let there : (allowance spent : ℕ) → left ≡ allowance - spent → Passes (rounds_of f) r (allowance - spent) (tasks_of f) (found_of round) =
    λ allowance spent is. subst (λ (n : ℕ). Passes (rounds_of f) r n (tasks_of f) (found_of round)) is passed in
    record {
      range = next_in_range f r left (found_of round) passed;
      within = within;
      least = least;
      kept = kept;
      settles = λ allowance spent is way same.
          settled_ends (rounds_of f) allowance way.0 spent r (found_of round) way.1 (there allowance spent is) same;
      leads = λ allowance spent is way other.
          reaches_more f allowance way.0 spent (spent + round.used) r (found_of round) way.1 (there allowance spent is) other refl;
    }
round_taken f r left (Err stop) given = λ allowance spent is way.
    ended_answers f allowance way.0 spent r stop way.1 (subst (λ (n : ℕ). GivesRound (Err stop) f r n) is given)
