-- What the answers of a refutation mean, from what its rounds give.
use Rattle.std.proofs.Common.{◌≡◌, ◌≢◌, ℕ, suc, ◌+◌, ◌-◌, ◌<◌, ◌≤◌, List, [], ◌∷◌, ◌++◌, map, refl, sym, ◌∙◌, ap, subst, arith}
use Rattle.std.proofs.Common.{append_assoc, Ok, Err, IfOk}
use Rattle.std.specs.Prelude.{Result, Vec, slice_index}
use Rattle.std.specs.Global.{Global}
use Rattle.std.proofs.lemmas.List.{append-nil}
use Rattle.program_form.specs.Certificate.{dual_seen}
use Rattle.program_form.specs.Program.{ProgramDef}
use Rattle.sporadic_model.specs.Bounds.{IsInRange}
use Rattle.program_sources.specs.Recurrence.{SourceDef}
use Rattle.program_sources.specs.Fitting.{ComesUpAbove, tasks_of, latest_of}
use Rattle.program_sources.proofs.RecurrenceLaws.{LimitsRise}
use Rattle.simplex.specs.declared.SolveStop.{SolveStop}
use Rattle.simplex.specs.declared.SolveStop.TheVariants as solve_stop
use Rattle.refusal_laws.specs.Seen.{step_seen, steps_seen}
use Rattle.refusal_laws.specs.declared.refusal.RefusalStep.{RefusalStep}
use Rattle.refusal_laws.specs.Steps.{StepDef, Holds}
use Rattle.refusal_laws.proofs.NothingFits.{nothing_fits}
use Rattle.response_fixpoint.specs.Rounds.{RunEnd, Valued, TooWide, OutOfUnits, Ending, Schedulable, NotShown, Wide, Allowance}
use Rattle.response_fixpoint.specs.Rounds.{Found, nothing_found, with_task, Passes, Reaches, EndsIn}
use Rattle.response_fixpoint.specs.Answers.{TakesRun, Halts, found_of, stop_at}
use Rattle.response_fixpoint.specs.Taking.{TakesRound}
use Rattle.response_fixpoint.specs.declared.task_run.TaskRun.{TaskRun}
use Rattle.response_fixpoint.specs.declared.rounds.Round.{Round}
use Rattle.response_fixpoint.specs.declared.rounds.RoundStop.{RoundStop}
use Rattle.response_fixpoint.specs.declared.rounds.RoundStop.TheVariants as round_stop
use Rattle.response_fixpoint.proofs.AnswerLaws.{comes_there, settled_ends}
use Rattle.response_fixpoint.proofs.LeastExists.{cost_below}
use Rattle.response_fixpoint.proofs.RoundLaws.{values_length}
use Rattle.response_fixpoint.proofs.RunLaws.{CostsFit}
use Rattle.refusal_cert.specs.Refuting.{PointRuns, refuting}
use Rattle.refusal_cert.specs.Steps.{step_of, steps_over, round_steps, way_steps, refusal_of}
use Rattle.refusal_cert.specs.Answers.{Refutes, IsAnswerOf, IsRight, GivesPointRun, HasFound, HaltsLate, GivesRound, Stands, answer_at}
use Rattle.refusal_cert.specs.Answers.{answer_of, seen}
use Rattle.refusal_cert.specs.declared.answer.Answer.{Answer}
use Rattle.refusal_cert.specs.declared.answer.Answer.TheVariants as answer
use Rattle.refusal_cert.specs.declared.answer.RefuteStop.{RefuteStop}
use Rattle.refusal_cert.specs.declared.answer.RefuteStop.TheVariants as stop
use Rattle.refusal_cert.proofs.OneEnding.{points_once, refuting_once, one_refusal}
use Rattle.refusal_cert.proofs.RoundSteps.{step_above, steps_more}
use Rattle.refusal_cert.proofs.Led.{point_value, refusal_holds, bounds_fit}

-- Nothing is found at first.
pub found_first : (f : SourceDef) (r : List ℕ) (left : ℕ) (steps : List StepDef) (round : Round) → round.used ≡ 0
    → round.values.items ≡ [] → HasFound f r left 0 steps steps round
found_first f r left steps round used values =
    record { found = nothing_found; passed = refl; used = sym used; values = sym values; steps_are = sym (append-nil steps) }

-- One more task passes.
pub found_more : (f : SourceDef) (r : List ℕ) (left i latest : ℕ) (earlier before steps : List StepDef) (old now : Round) (run : TaskRun)
    → latest ≡ latest_of f i → HasFound f r left i earlier before old → GivesPointRun (Ok run) f r i (left - old.used) before steps
    → run.value ≤ latest → found_of now ≡ with_task (found_of old) run.solution.used run.value (dual_seen run.solution.dual)
    → HasFound f r left (i + 1) earlier steps now
found_more f r left i latest earlier before steps old now run is h (point, runs, more, least, most, solved) low taken =
    let next : Found = with_task h.found run.solution.used run.value point in
    let here : PointRuns f r i (left - h.found.used) (Valued run.solution.used run.value point) =
    subst (λ (n : ℕ). PointRuns f r i (left - n) (Valued run.solution.used run.value point)) (sym h.used) runs in
    let within : run.value ≤ latest_of f i = omega (arith, low, is) in
    let passed : Passes (refuting f) r left (suc i) next = (h.found, run.solution.used, run.value, point, h.passed, here, within, refl) in
    let count : suc i ≡ i + 1 = omega arith in
    let joined : steps ≡ earlier ++ round_steps r next (suc i) =
    more ∙ ap (λ (xs : List StepDef). xs ++ steps_over (slice_index r i) i run.value point) h.steps_are
    ∙ append_assoc earlier (round_steps r h.found i) (steps_over (slice_index r i) i run.value point)
    ∙ ap (λ (xs : List StepDef). earlier ++ xs) (sym (steps_more (refuting f) r left i h.found run.solution.used run.value point h.passed)) in
    record {
      found = next;
      passed = subst (λ (k : ℕ). Passes (refuting f) r left k next) count passed;
      used = ap (λ (n : ℕ). n + run.solution.used) h.used ∙ ap (λ (x : Found). x.used) (sym taken);
      values = ap (λ (xs : List ℕ). xs ++ run.value ∷ []) h.values ∙ ap (λ (x : Found). x.values) (sym taken);
      steps_are = subst (λ (k : ℕ). steps ≡ earlier ++ round_steps r next k) count joined;
    }

-- A round ends where a run stops.
abbrev halts : (f : SourceDef) (r : List ℕ) (left i : ℕ) (earlier before : List StepDef) (round : Round) (e : RunEnd) → i < tasks_of f
    → HasFound f r left i earlier before round → PointRuns f r i (left - round.used) e → Halts (refuting f) r left i e
halts f r left i earlier before round e here h run = record {
  found = h.found;
  below = here;
  passed = h.passed;
  run = subst (λ (n : ℕ). PointRuns f r i (left - n) e) (sym h.used) run;
}

pub run_halts : (f : SourceDef) (r : List ℕ) (left i : ℕ) (earlier before steps : List StepDef) (round : Round) (e : SolveStop)
    → i < tasks_of f → HasFound f r left i earlier before round → GivesPointRun (Err e) f r i (left - round.used) before steps
    → GivesRound (Err (stop_at e i)) f r left earlier steps
run_halts f r left i earlier before steps round solve_stop.Wide here h run = halts f r left i earlier before round TooWide here h run
run_halts f r left i earlier before steps round solve_stop.Units here h run =
    (i, halts f r left i earlier before round OutOfUnits here h run)
run_halts f r left i earlier before steps round solve_stop.Memory here h run = tt

-- It ends at a value that passes the latest bound.
pub value_halts : (f : SourceDef) (r : List ℕ) (left i latest : ℕ) (earlier before steps : List StepDef) (old now : Round)
    (program : ProgramDef) (run : TaskRun) (e : RoundStop) → i < tasks_of f → latest ≡ latest_of f i → slice_index r i ≤ latest_of f i
    → HasFound f r left i earlier before old → GivesPointRun (Ok run) f r i (left - old.used) before steps
    → TakesRun (Err e) old now program run i latest → GivesRound (Err e) f r left earlier steps
value_halts f r left i latest earlier before steps old now program run (round_stop.NotShown task bound) here is within h
    (point, runs, more, least, most, solved) (same, value, late) =
    let past : slice_index r i < run.value = omega (arith, within, is, late) in
    let joined : steps ≡ earlier ++ round_steps r h.found i ++ step_of i run.value point ∷ [] =
    more ∙ ap (λ (xs : List StepDef). xs ++ steps_over (slice_index r i) i run.value point) h.steps_are
    ∙ ap (λ (xs : List StepDef). earlier ++ round_steps r h.found i ++ xs) (step_above (slice_index r i) i run.value point past) in
    let there : HaltsLate f r left earlier steps i run.value = (
      run.solution.used,
      point,
      omega (arith, is, late),
      halts f r left i earlier before old (Valued run.solution.used run.value point) here h runs,
      joined,
    ) in
    subst (λ (k : ℕ). HaltsLate f r left earlier steps k bound) (sym same)
    (subst (λ (v : ℕ). HaltsLate f r left earlier steps i v) (sym value) there)
value_halts f r left i latest earlier before steps old now program run (round_stop.Wide task) here is within h runs given = absurd given
value_halts f r left i latest earlier before steps old now program run round_stop.Allowance here is within h runs given = absurd given
value_halts f r left i latest earlier before steps old now program run round_stop.Memory here is within h runs given = tt

-- A round that ends the rounds gives their end.
pub ended_answers : (f : SourceDef) (a k spent : ℕ) (r : List ℕ) (e : RoundStop) (steps : Vec RefusalStep Global)
    (way : Reaches (refuting f) a k spent r)
    → GivesRound (Err e) f r (a - spent) (way_steps (refuting f) a k spent r way) (map step_seen steps.items)
    → Refutes (answer_at e steps) f a
ended_answers f a k spent r (round_stop.NotShown task bound) steps way (used, point, late, h, is) =
    let ends : EndsIn (refuting f) a (NotShown task.0 bound) = (
      r,
      a - spent - h.found.used,
      h.found,
      used,
      point,
      h.below,
      comes_there (refuting f) a k spent r task.0 (Valued used bound point) way h,
      h.run,
      late,
    ) in
    (task.0, bound, ends, is)
ended_answers f a k spent r (round_stop.Wide task) steps way h =
    (r, a - spent - h.found.used, h.found, h.below, comes_there (refuting f) a k spent r task.0 TooWide way h, h.run)
ended_answers f a k spent r round_stop.Allowance steps way (i, h) =
    (r, i, a - spent - h.found.used, h.found, h.below, comes_there (refuting f) a k spent r i OutOfUnits way h, h.run)
ended_answers f a k spent r round_stop.Memory steps way given = tt

-- A round that gives the vector that it began with ends them too.
pub settled_answers : (f : SourceDef) (a k spent : ℕ) (r : List ℕ) (earlier steps : List StepDef) (round : Round)
    → Reaches (refuting f) a k spent r → HasFound f r (a - spent) (tasks_of f) earlier steps round → round.values.items ≡ r
    → Refutes (Ok answer.Schedulable) f a
settled_answers f a k spent r earlier steps round reached h same =
    (h.found.values, h.found.duals, settled_ends (refuting f) a k spent r h.found reached h.passed (h.values ∙ same))

-- The next vector of a round is in range again.
pub next_in_range : (f : SourceDef) (r : List ℕ) (left : ℕ) (earlier steps : List StepDef) (round : Round)
    → HasFound f r left (tasks_of f) earlier steps round → IsInRange f.set round.values.items
next_in_range f r left earlier steps round h =
    subst (λ (xs : List ℕ). IsInRange f.set xs) h.values (record {
      one_each = values_length (refuting f) r left (tasks_of f) h.found h.passed;
      from_cost = λ i here. cost_below f r i (slice_index h.found.values i) (point_value f r left h.found h.passed i here).0;
      to_latest = λ i here. (point_value f r left h.found h.passed i here).1;
    })

-- Rounds begin so, without steps.
pub stands_first : (f : SourceDef) (a : ℕ) (bounds : List ℕ) → bounds ≡ map (λ t. t.cost) f.set.tasks → Stands f a 0 bounds []
stands_first f a bounds first = record { rounds = 0; way = (refl, first); steps_are = refl }

-- A round that gives another vector goes by.
pub stands_more : (f : SourceDef) (a spent used : ℕ) (r : List ℕ) (earlier steps : List StepDef) (round : Round)
    → Stands f a spent r earlier → HasFound f r (a - spent) (tasks_of f) earlier steps round → r ≢ round.values.items
    → used ≡ spent + round.used → Stands f a used round.values.items steps
stands_more f a spent used r earlier steps round s h other units =
    let sum : used ≡ spent + h.found.used = omega (arith, units, h.used) in
    let way : Reaches (refuting f) a (suc s.rounds) used round.values.items =
    (spent, r, h.found, s.way, h.passed, sym h.values, other, sum) in
    record {
      rounds = suc s.rounds;
      way = way;
      steps_are = h.steps_are ∙ ap (λ (xs : List StepDef). xs ++ round_steps r h.found (tasks_of f)) s.steps_are;
    }

-- What a round gives, as the loop of the rounds asks for it.
pub round_taken : (f : SourceDef) (r : List ℕ) (left : ℕ) (before now : Vec RefusalStep Global) (given : Result Round RoundStop)
    → GivesRound given f r left (seen before.items) (seen now.items)
    → TakesRound (λ f a spent q. Stands f a spent q (seen before.items)) (λ f a spent q. Stands f a spent q (seen now.items))
    (λ f a last. Refutes (answer_of last now) f a) f r left given
round_taken f r left before now (Ok round) (found, within, least, kept) =
    let there : (a spent : ℕ) → left ≡ a - spent → HasFound f r (a - spent) (tasks_of f) (seen before.items) (seen now.items) round =
    λ a spent is. subst (λ (n : ℕ). HasFound f r n (tasks_of f) (seen before.items) (seen now.items) round) is found in
    record {
      range = next_in_range f r left (seen before.items) (seen now.items) round found;
      within = within;
      least = least;
      kept = kept;
      settles = λ a spent is s same.
          settled_answers f a s.rounds spent r (seen before.items) (seen now.items) round s.way (there a spent is) same;
      leads = λ a spent is s other.
          stands_more f a spent (spent + round.used) r (seen before.items) (seen now.items) round s (there a spent is) other refl;
    }
round_taken f r left before now (Err stop) given = λ a spent is s.
    ended_answers f a s.rounds spent r stop now s.way
    (subst (λ (xs : List StepDef). GivesRound (Err stop) f r (a - spent) xs (seen now.items)) s.steps_are
    (subst (λ (n : ℕ). GivesRound (Err stop) f r n (seen before.items) (seen now.items)) is given))

-- Rounds end in one way, so the answer is the one of their end, and its steps are those of the refusal.
refusals_same : (f : SourceDef) (a i v : ℕ) (first : EndsIn (refuting f) a (NotShown i v)) (e : Ending) → NotShown i v ≡ e
    → (ends : EndsIn (refuting f) a e) → refusal_of (refuting f) a (NotShown i v) first ≡ refusal_of (refuting f) a e ends
refusals_same f a i v first e same =
    subst (λ (x : Ending). (ends : EndsIn (refuting f) a x)
    → refusal_of (refuting f) a (NotShown i v) first ≡ refusal_of (refuting f) a x ends) same
    (λ ends. one_refusal (refuting f) (points_once f) a i v first ends)

pub only_of : (f : SourceDef) (a : ℕ) (r : Result Answer RefuteStop) → Refutes r f a → (e : Ending)
    (ends : EndsIn (refuting f) a e) → IsAnswerOf r e (refusal_of (refuting f) a e ends)
only_of f a (Ok (answer.Refused refusal)) (i, value, first, steps) e ends =
    let same : e ≡ NotShown i value = refuting_once f a e (NotShown i value) ends first in
    ((i, value, same), steps ∙ refusals_same f a i value first e (sym same) ends)
only_of f a (Ok answer.Schedulable) (bounds, points, first) e ends =
    (bounds, points, refuting_once f a e (Schedulable bounds points) ends first)
only_of f a (Err (stop.Wide task)) first e ends = refuting_once f a e (Wide task.0) ends first
only_of f a (Err stop.Allowance) first e ends = refuting_once f a e Allowance ends first
only_of f a (Err stop.Memory) first e ends = tt

-- The answer of rounds that end so is right.
pub right_of : (f : SourceDef) (a : ℕ) (r : Result Answer RefuteStop) → ComesUpAbove f → LimitsRise f → CostsFit f → Refutes r f a
    → IfOk r (λ x. IsRight x f)
right_of f a (Ok (answer.Refused refusal)) above rise fit (i, value, ends, steps) =
    let holds : Holds f (steps_seen refusal) =
    subst (λ (xs : List StepDef). Holds f xs) (sym steps) (refusal_holds f rise fit a i value ends) in
    (holds, λ s fits. nothing_fits f (steps_seen refusal) s above holds fits)
right_of f a (Ok answer.Schedulable) above rise fit (bounds, points, ends) = (bounds, bounds_fit f a bounds points ends)
right_of f a (Err e) above rise fit given = tt
