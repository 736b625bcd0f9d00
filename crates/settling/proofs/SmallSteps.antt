-- The numbers in the steps of a refusal that is answered are small.
use Rattle.std.proofs.Common.{◌≡◌, ℕ, zero, suc, ◌-◌, ◌<◌, ◌≤◌, List, [], ◌∷◌, ◌++◌, Ok, refl, sym, subst, arith, inl, inr}
use Rattle.std.specs.Prelude.{All, Err, IfOk, Result, slice_index}
use Rattle.std.proofs.lemmas.Bool.{cases_lt}
use Rattle.std.proofs.lemmas.List.Elements.{All-nil, All-cons, All-append, All-get_or, All-from_get_or}
use Rattle.number_laws.specs.Sums.{collect_below}
use Rattle.fraction128.specs.Fraction.{Fraction}
use Rattle.program_form.specs.Certificate.{DualDef}
use Rattle.program_sources.specs.Recurrence.{SourceDef}
use Rattle.program_sources.specs.Fitting.{tasks_of, latest_of}
use Rattle.program_sources.specs.Valid.{dual_at}
use Rattle.response_fixpoint.specs.Answers.{IsSmallDual}
use Rattle.response_fixpoint.specs.Rounds.{NotShown, Valued, Found, Reaches, Passes, EndsIn}
use Rattle.response_fixpoint.proofs.RunLaws.{CostsFit}
use Rattle.response_fixpoint.proofs.RoundLaws.{passed_task}
use Rattle.refusal_laws.specs.Steps.{StepDef, no_step, Holds}
use Rattle.refusal_laws.specs.Seen.{steps_seen}
use Rattle.refusal_laws.proofs.StepLaws.{cost_at}
use Rattle.refusal_laws.specs.declared.refusal.Refusal.{Refusal}
use Rattle.refusal_cert.specs.Refuting.{IsWritten, PointRuns, refuting}
use Rattle.refusal_cert.specs.Steps.{step_of, steps_over, round_steps, way_steps, refusal_of}
use Rattle.refusal_cert.proofs.RoundSteps.{step_above, no_step_below}
use Rattle.refusal_cert.proofs.Led.{point_value}
use Rattle.settling.specs.Answers.{Settles, IsRight, IsSmallStep, HasSmallSteps, Has64Bits, RefusesIn64Bits, RefusesBySmallSteps}
use Rattle.settling.specs.Trails.{HasSmallPoints}
use Rattle.settling.specs.declared.answer.Settled.{Settled}
use Rattle.settling.specs.declared.answer.SettleStop.{SettleStop}
use Rattle.settling.specs.declared.answer.Settled.TheVariants as settled

abbrev HasSmallPoint : StepDef → Type 0
HasSmallPoint s = IsSmallDual s.point

small_point : (best : List Fraction) (point : DualDef) → IsWritten best point → IsSmallDual point
small_point best point w = record { den = w.small_den; num = w.small_num }

small_step : (f : SourceDef) (r : List ℕ) (i left used value : ℕ) (point : DualDef)
    → PointRuns f r i left (Valued used value point) → slice_index r i < value → IsSmallDual point
small_step f r i left used value point (dual, run, given) above = small_point run.ends.best point (given.above above)

small_over : (f : SourceDef) (r : List ℕ) (i left used value : ℕ) (point : DualDef)
    → PointRuns f r i left (Valued used value point) → All HasSmallPoint (steps_over (slice_index r i) i value point)
small_over f r i left used value point run = elim (cases_lt (slice_index r i) value) [
  | inl above ↦
      subst (λ (xs : List StepDef). All HasSmallPoint xs) (sym (step_above (slice_index r i) i value point above))
      (All-cons HasSmallPoint (step_of i value point) [] (small_step f r i left used value point run above) (All-nil HasSmallPoint))
  | inr most ↦
      subst (λ (xs : List StepDef). All HasSmallPoint xs) (sym (no_step_below (slice_index r i) i value point most))
      (All-nil HasSmallPoint)
]

all_below : (n : ℕ) (g : ℕ → List StepDef) → ((k : ℕ) → k < n → All HasSmallPoint (g k)) → All HasSmallPoint (collect_below n g)
all_below zero g each = All-nil HasSmallPoint
all_below (suc n) g each =
    All-append HasSmallPoint (collect_below n g) (g n) (all_below n g (λ k below. each k (omega (arith, below)))) (each n (omega arith))

small_round : (f : SourceDef) (r : List ℕ) (left i : ℕ) (found : Found) → Passes (refuting f) r left i found
    → All HasSmallPoint (round_steps r found i)
small_round f r left i found passed =
    all_below i (λ k. steps_over (slice_index r k) k (slice_index found.values k) (dual_at found.duals k)) (λ k below.
    (let t = passed_task (refuting f) r left i found passed k below in
    let own = small_over f r k (left - t.before.used) t.used t.value t.dual t.run in
    subst (λ (v : ℕ). All HasSmallPoint (steps_over (slice_index r k) k v (dual_at found.duals k))) (sym t.here)
    (subst (λ (d : DualDef). All HasSmallPoint (steps_over (slice_index r k) k t.value d)) (sym t.dual_here) own)))

small_way : (f : SourceDef) (a k used : ℕ) (r : List ℕ) (way : Reaches (refuting f) a k used r)
    → All HasSmallPoint (way_steps (refuting f) a k used r way)
small_way f a zero used r way = All-nil HasSmallPoint
small_way f a (suc k) used r (before, q, found, reached, passed, is, differs, sum) =
    All-append HasSmallPoint (way_steps (refuting f) a k before q reached) (round_steps q found (tasks_of f))
    (small_way f a k before q reached) (small_round f q (a - before) (tasks_of f) found passed)

-- The vectors that rounds come to are within the latest bounds.
within_latest : (f : SourceDef) (a k used : ℕ) (r : List ℕ) → CostsFit f → Reaches (refuting f) a k used r
    → (h : ℕ) → h < tasks_of f → slice_index r h ≤ latest_of f h
within_latest f a zero used r fit (nothing, first) h here =
    let same : slice_index r h ≡ slice_index (refuting f).first h = rw first refl in
    omega (arith, same, cost_at f.set h here, fit h here)
within_latest f a (suc k) used r fit (before, q, found, reached, passed, is, differs, sum) h here =
    let most = (point_value f q (a - before) found passed h here).1 in
    rw is most

small_refusal : (f : SourceDef) (a i v : ℕ) → CostsFit f → (ends : EndsIn (refuting f) a (NotShown i v))
    → All HasSmallPoint (refusal_of (refuting f) a (NotShown i v) ends)
small_refusal f a i v fit (r, left, found, used, point, below, comes, run, late) =
    let within : slice_index r i ≤ latest_of f i = within_latest f a comes.rounds comes.spent r fit comes.reached i below in
    let past : slice_index r i < v = omega (arith, within, late) in
    let way : List StepDef = way_steps (refuting f) a comes.rounds comes.spent r comes.reached in
    All-append HasSmallPoint (way ++ round_steps r found i) (step_of i v point ∷ [])
    (All-append HasSmallPoint way (round_steps r found i) (small_way f a comes.rounds comes.spent r comes.reached)
    (small_round f r (a - comes.spent) i found comes.passed))
    (All-cons HasSmallPoint (step_of i v point) [] (small_step f r i left used v point run past) (All-nil HasSmallPoint))

all_of : (steps : List StepDef) → HasSmallPoints steps → All HasSmallPoint steps
all_of steps small = All-from_get_or HasSmallPoint steps no_step small

-- A refusal that is answered has small points, wherever it comes from.
small_points : (f : SourceDef) (a : ℕ) (refusal : Refusal) → CostsFit f → Settles (Ok (settled.Refused refusal)) f a
    → All HasSmallPoint (steps_seen refusal)
small_points f a refusal fit (inl (late, (i, value, ends, is))) =
    subst (λ (xs : List StepDef). All HasSmallPoint xs) (sym is) (small_refusal f a i value fit ends)
small_points f a refusal fit (inr (left, small)) = all_of (steps_seen refusal) small

small_steps : (f : SourceDef) (a : ℕ) (refusal : Refusal) → CostsFit f → Has64Bits (steps_seen refusal)
    → Settles (Ok (settled.Refused refusal)) f a → Holds f (steps_seen refusal) → HasSmallSteps (steps_seen refusal)
small_steps f a refusal fit bits settles holds =
    let steps : List StepDef = steps_seen refusal in
    All-from_get_or IsSmallStep steps no_step (λ k here. record {
      task = (bits k here).0;
      value = (bits k here).1;
      positive = omega (arith, (holds.each k here).at.rows.positive);
      point = All-get_or HasSmallPoint steps k no_step here (small_points f a refusal fit settles);
    })

pub small_steps_of : (f : SourceDef) (a : ℕ) (r : Result Settled SettleStop) → CostsFit f
    → IfOk r (λ settled. RefusesIn64Bits settled) → Settles r f a → IfOk r (λ settled. IsRight settled f)
    → IfOk r (λ settled. RefusesBySmallSteps settled)
small_steps_of f a (Ok (settled.Schedulable certificate)) fit bits settles right = tt
small_steps_of f a (Ok (settled.Refused refusal)) fit bits settles right = small_steps f a refusal fit bits settles right.0
small_steps_of f a (Err stop) fit bits settles right = tt
