-- The rounds of refusals and those of an analysis: with the points left out they are the same, and where each point can be written
-- they go by alike.
use Rattle.std.proofs.Common.{◌≡◌, ◌⊎◌, ◌↔◌, ℕ, zero, suc, ◌+◌, ◌-◌, ◌<◌, ◌≤◌, List, [], ◌∷◌, ◌++◌, refl, sym, ◌∙◌, ap, subst}
use Rattle.std.proofs.Common.{arith, inl, inr}
use Rattle.std.proofs.Common.{Ok, Err}
use Rattle.std.specs.Prelude.{Result, slice_index}
use Rattle.std.proofs.lemmas.Bool.{cases_lt}
use Rattle.fraction128.specs.Fraction.{Fraction}
use Rattle.program_form.specs.Certificate.{DualDef}
use Rattle.program_sources.specs.Recurrence.{SourceDef}
use Rattle.program_sources.specs.Fitting.{tasks_of}
use Rattle.program_sources.specs.Valid.{no_dual}
use Rattle.response_fixpoint.specs.Rounds.{Valued, Ending, Schedulable, NotShown, Wide, Allowance, Found, nothing_found, with_task}
use Rattle.response_fixpoint.specs.Rounds.{RoundsOf, Passes, Reaches, ComesTo, EndsIn}
use Rattle.response_fixpoint.specs.Runs.{TaskRuns, rounds_of}
use Rattle.response_fixpoint.proofs.OneEnd.{AtTask, AtEnd, Place, passes_once, reaches_once, passed_round, task_passes, round_passes}
use Rattle.response_fixpoint.proofs.RoundLaws.{passed_task}
use Rattle.response_fixpoint.proofs.RunLaws.{have_one_end}
use Rattle.refusal_cert.specs.Refuting.{IsWritten, PointRuns, refuting, AreWritable}
use Rattle.refusal_cert.specs.Answers.{Refutes, FollowsAnalysis, EndsLate, EndsFitting}
use Rattle.refusal_cert.specs.declared.answer.Answer.{Answer}
use Rattle.refusal_cert.specs.declared.answer.Answer.TheVariants as answer
use Rattle.refusal_cert.specs.declared.answer.RefuteStop.{RefuteStop}
use Rattle.refusal_cert.specs.declared.answer.RefuteStop.TheVariants as stop
use Rattle.refusal_cert.proofs.OneEnding.{one_best, refuting_once}

-- What rounds of the one kind find where those of the other find this: the same values with as many units.
record Alike (o : RoundsOf) (r : List ℕ) (left i : ℕ) (found : Found) : Type 0 where
  other : Found
  passed : Passes o r left i other
  used : other.used ≡ found.used
  values : other.values ≡ found.values

alike_first : (o : RoundsOf) (r : List ℕ) (left : ℕ) (found : Found) → found ≡ nothing_found → Alike o r left 0 found
alike_first o r left found none = record {
  other = nothing_found;
  passed = refl;
  used = ap (λ (x : Found). x.used) (sym none);
  values = ap (λ (x : Found). x.values) (sym none);
}

alike_more : (o : RoundsOf) (r : List ℕ) (left i : ℕ) (before found : Found) (used value : ℕ) (dual point : DualDef)
    → Alike o r left i before → o.runs r i (left - before.used) (Valued used value dual) → value ≤ o.latest i
    → found ≡ with_task before used value point → Alike o r left (suc i) found
alike_more o r left i before found used value dual point h run within is = record {
  other = with_task h.other used value dual;
  passed = (
    h.other,
    used,
    value,
    dual,
    h.passed,
    subst (λ (n : ℕ). o.runs r i (left - n) (Valued used value dual)) (sym h.used) run,
    within,
    refl,
  );
  used = ap (λ (n : ℕ). n + used) h.used ∙ ap (λ (x : Found). x.used) (sym is);
  values = ap (λ (xs : List ℕ). xs ++ value ∷ []) h.values ∙ ap (λ (x : Found). x.values) (sym is);
}

-- Points are forgotten.
forget_round : (f : SourceDef) (r : List ℕ) (left i : ℕ) (found : Found) → Passes (refuting f) r left i found
    → Alike (rounds_of f) r left i found
forget_round f r left zero found none = alike_first (rounds_of f) r left found none
forget_round f r left (suc i) found (before, used, value, point, passed, (dual, run, gives), within, is) =
    alike_more (rounds_of f) r left i before found used value dual point (forget_round f r left i before passed) run within is

forget_way : (f : SourceDef) (a k used : ℕ) (r : List ℕ) → Reaches (refuting f) a k used r → Reaches (rounds_of f) a k used r
forget_way f a zero used r way = way
forget_way f a (suc k) used r (before, q, found, reached, passed, is, other, units) =
    let h = forget_round f q (a - before) (tasks_of f) found passed in (
      before,
      q,
      h.other,
      forget_way f a k before q reached,
      h.passed,
      is ∙ sym h.values,
      other,
      units ∙ ap (λ (n : ℕ). before + n) (sym h.used),
    )

forget_late : (f : SourceDef) (a i v : ℕ) → EndsIn (refuting f) a (NotShown i v) → EndsIn (rounds_of f) a (NotShown i v)
forget_late f a i v (r, left, found, used, point, below, comes, (dual, run, gives), late) =
    let h = forget_round f r (a - comes.spent) i found comes.passed in
    let there : ComesTo (rounds_of f) a r i left h.other = record {
      rounds = comes.rounds;
      spent = comes.spent;
      reached = forget_way f a comes.rounds comes.spent r comes.reached;
      passed = h.passed;
      units = comes.units ∙ ap (λ (n : ℕ). a - comes.spent - n) (sym h.used);
    } in
    (r, left, h.other, used, dual, below, there, run, late)

forget_fit : (f : SourceDef) (a : ℕ) (bounds : List ℕ) (points : List DualDef) → EndsIn (refuting f) a (Schedulable bounds points)
    → (duals : List DualDef) × EndsIn (rounds_of f) a (Schedulable bounds duals)
forget_fit f a bounds points (left, found, comes, same, rest) =
    let h = forget_round f bounds (a - comes.spent) (tasks_of f) found comes.passed in
    let there : ComesTo (rounds_of f) a bounds (tasks_of f) left h.other = record {
      rounds = comes.rounds;
      spent = comes.spent;
      reached = forget_way f a comes.rounds comes.spent bounds comes.reached;
      passed = h.passed;
      units = comes.units ∙ ap (λ (n : ℕ). a - comes.spent - n) (sym h.used);
    } in
    (h.other.duals, (left, h.other, there, h.values ∙ same, refl))

-- Rounds of refusals want more units only if an analysis does.
pub forget_allowance : (f : SourceDef) (a : ℕ) → EndsIn (refuting f) a Allowance → EndsIn (rounds_of f) a Allowance
forget_allowance f a (r, i, left, found, below, comes, run) =
    let h = forget_round f r (a - comes.spent) i found comes.passed in
    let there : ComesTo (rounds_of f) a r i left h.other = record {
      rounds = comes.rounds;
      spent = comes.spent;
      reached = forget_way f a comes.rounds comes.spent r comes.reached;
      passed = h.passed;
      units = comes.units ∙ ap (λ (n : ℕ). a - comes.spent - n) (sym h.used);
    } in
    (r, i, left, h.other, below, there, run)

-- Where a run of the rounds of refusals ends in a value, the point of its step is written.
run_written : (f : SourceDef) (r : List ℕ) (i left u v u' v' : ℕ) (x d' : DualDef) → PointRuns f r i left (Valued u v x)
    → (run : TaskRuns f r i left (Valued u' v' d')) → slice_index r i < v' → (point : DualDef) × IsWritten run.ends.best point
run_written f r i left u v u' v' x d' (d, p, h) run past =
    let ends : Valued u v d ≡ Valued u' v' d' = have_one_end f r i left (Valued u v d) (Valued u' v' d') p run in
    let vs : v ≡ v' = cc in
    let best : p.ends.best ≡ run.ends.best = one_best f r i left u v u' v' d d' p run in
    (x, subst (λ (b : List Fraction). IsWritten b x) best (h.above (omega (arith, past, vs))))

-- So is that of a task that passed.
passed_written : (f : SourceDef) (r : List ℕ) (left j : ℕ) (found : Found) → Passes (refuting f) r left j found → (i : ℕ) → i < j
    → (g : Found) → Passes (rounds_of f) r left i g → (units used value : ℕ) (dual : DualDef) → units ≡ left - g.used
    → (run : TaskRuns f r i units (Valued used value dual)) → slice_index r i < value → (point : DualDef) × IsWritten run.ends.best point
passed_written f r left j found passed i below g before units used value dual is run past =
    let t = passed_task (refuting f) r left j found passed i below in
    let h = forget_round f r left i t.before t.passed in
    let same : h.other ≡ g = passes_once (rounds_of f) (have_one_end f) r left i h.other g h.passed before in
    let spent : h.other.used ≡ g.used = ap (λ (x : Found). x.used) same in
    let here : left - t.before.used ≡ units = omega (arith, is, spent, h.used) in
    let moved : PointRuns f r i units (Valued t.used t.value t.dual) =
    subst (λ (n : ℕ). PointRuns f r i n (Valued t.used t.value t.dual)) here t.run in
    run_written f r i units t.used t.value used value t.dual dual moved run past

-- Where rounds of refusals come to a task, and an analysis ends there: the point of each step is written that it comes to before.
record ReachesEnd (f : SourceDef) (a : ℕ) (e : Ending) : Type 0 where
  rounds : ℕ
  spent : ℕ
  vector : List ℕ
  task : ℕ
  found : Found
  way : Reaches (refuting f) a rounds spent vector
  passed : Passes (refuting f) vector (a - spent) task found
  last : task < tasks_of f
      → (u : ℕ) × (v : ℕ) × (x : DualDef) × PointRuns f vector task (a - spent - found.used) (Valued u v x)
  other : Found
  other_passed : Passes (rounds_of f) vector (a - spent) task other
  other_used : other.used ≡ found.used
  ends : AtTask (rounds_of f) vector task (a - spent - other.used) e ⊎ AtEnd (rounds_of f) vector task other e

-- In the last round.
last_round : (f : SourceDef) (a : ℕ) (e : Ending) (x : ReachesEnd f a e) (r : List ℕ) (i left : ℕ) (g : Found) (used value : ℕ)
    (dual : DualDef) → i < tasks_of f → (spent : ℕ) → Passes (rounds_of f) r (a - spent) i g → left ≡ a - spent - g.used
    → x.spent ≡ spent → x.vector ≡ r → (run : TaskRuns f r i left (Valued used value dual)) → slice_index r i < value
    → (point : DualDef) × IsWritten run.ends.best point
last_round f a e x r i left g used value dual below spent before units same_spent same run past =
    let passed : Passes (refuting f) r (a - spent) x.task x.found =
    subst (λ (n : ℕ). Passes (refuting f) r (a - n) x.task x.found) same_spent
    (subst (λ (z : List ℕ). Passes (refuting f) z (a - x.spent) x.task x.found) same x.passed) in
    let other_passed : Passes (rounds_of f) r (a - spent) x.task x.other =
    subst (λ (n : ℕ). Passes (rounds_of f) r (a - n) x.task x.other) same_spent
    (subst (λ (z : List ℕ). Passes (rounds_of f) z (a - x.spent) x.task x.other) same x.other_passed) in
    elim (cases_lt i x.task) [
      | inl earlier ↦ passed_written f r (a - spent) x.task x.found passed i earlier g before left used value dual units run past
      | inr later ↦ elim (cases_lt x.task i) [
        | inl behind ↦ elim x.ends [
          | inl ends ↦
              let moved : AtTask (rounds_of f) r x.task (a - spent - x.other.used) e =
              subst (λ (n : ℕ). AtTask (rounds_of f) r x.task (a - n - x.other.used) e) same_spent
              (subst (λ (z : List ℕ). AtTask (rounds_of f) z x.task (a - x.spent - x.other.used) e) same ends) in
              absurd (task_passes (rounds_of f) (have_one_end f) r (a - spent) x.task i x.other g e other_passed before behind moved)
          | inr ends ↦ (let last : x.task ≡ tasks_of f = ends.last in absurd (omega (arith, last, behind, below)))
        ]
        | inr least ↦
            let tasks : x.task ≡ i = omega (arith, later, least) in
            let there : Passes (rounds_of f) r (a - spent) i x.other =
            subst (λ (k : ℕ). Passes (rounds_of f) r (a - spent) k x.other) tasks other_passed in
            let founds : x.other ≡ g = passes_once (rounds_of f) (have_one_end f) r (a - spent) i x.other g there before in
            let used_same : x.other.used ≡ g.used = ap (λ (z : Found). z.used) founds in
            let lefts : a - x.spent - x.found.used ≡ left = omega (arith, units, same_spent, used_same, x.other_used) in
            let ran = x.last (omega (arith, tasks, below)) in
            let moved : PointRuns f r i left (Valued ran.0 ran.1 ran.2) =
            subst (λ (n : ℕ). PointRuns f r i n (Valued ran.0 ran.1 ran.2)) lefts
            (subst (λ (k : ℕ). PointRuns f r k (a - x.spent - x.found.used) (Valued ran.0 ran.1 ran.2)) tasks
            (subst (λ (z : List ℕ). PointRuns f z x.task (a - x.spent - x.found.used) (Valued ran.0 ran.1 ran.2)) same ran.3)) in
            run_written f r i left ran.0 ran.1 used value ran.2 dual moved run past
      ]
    ]

all_written : (f : SourceDef) (a : ℕ) (e : Ending) → ReachesEnd f a e → AreWritable f a
all_written f a e x = λ r i left g used value dual below comes run past.
    let place : Place (rounds_of f) a e = record {
      rounds = x.rounds;
      spent = x.spent;
      vector = x.vector;
      task = x.task;
      found = x.other;
      reached = forget_way f a x.rounds x.spent x.vector x.way;
      passed = x.other_passed;
      ends = x.ends;
    } in
    elim (cases_lt comes.rounds x.rounds) [
      | inl less ↦
          let w = passed_round (refuting f) a x.rounds x.spent x.vector x.way comes.rounds less in
          let both = reaches_once (rounds_of f) (have_one_end f) a comes.rounds w.spent comes.spent w.vector r
          (forget_way f a comes.rounds w.spent w.vector w.reached) comes.reached in
          let there : Passes (refuting f) r (a - comes.spent) (tasks_of f) w.found =
          subst (λ (n : ℕ). Passes (refuting f) r (a - n) (tasks_of f) w.found) both.0
          (subst (λ (z : List ℕ). Passes (refuting f) z (a - w.spent) (tasks_of f) w.found) both.1 w.passed) in
          passed_written f r (a - comes.spent) (tasks_of f) w.found there i below g comes.passed left used value dual comes.units run past
      | inr more ↦ elim (cases_lt x.rounds comes.rounds) [
        | inl less ↦ absurd (round_passes (rounds_of f) (have_one_end f) a e place
            (passed_round (rounds_of f) a comes.rounds comes.spent r comes.reached x.rounds less))
        | inr least ↦
            let same : x.rounds ≡ comes.rounds = omega (arith, more, least) in
            let moved : Reaches (rounds_of f) a comes.rounds x.spent x.vector =
            subst (λ (n : ℕ). Reaches (rounds_of f) a n x.spent x.vector) same (forget_way f a x.rounds x.spent x.vector x.way) in
            let both = reaches_once (rounds_of f) (have_one_end f) a comes.rounds x.spent comes.spent x.vector r moved comes.reached in
            last_round f a e x r i left g used value dual below comes.spent comes.passed comes.units both.0 both.1 run past
      ]
    ]

late_writable : (f : SourceDef) (a i v : ℕ) → EndsIn (refuting f) a (NotShown i v) → AreWritable f a
late_writable f a i v (r, left, found, used, point, below, comes, (dual, run, gives), late) =
    let h = forget_round f r (a - comes.spent) i found comes.passed in
    let here : left ≡ a - comes.spent - h.other.used = comes.units ∙ ap (λ (n : ℕ). a - comes.spent - n) (sym h.used) in
    let x : ReachesEnd f a (NotShown i v) = record {
      rounds = comes.rounds;
      spent = comes.spent;
      vector = r;
      task = i;
      found = found;
      way = comes.reached;
      passed = comes.passed;
      last = λ _. (
        used,
        v,
        point,
        subst (λ (n : ℕ). PointRuns f r i n (Valued used v point)) comes.units (dual, run, gives),
      );
      other = h.other;
      other_passed = h.passed;
      other_used = h.used;
      ends = inl (record {
        below = below;
        run = Valued used v dual;
        runs = subst (λ (n : ℕ). TaskRuns f r i n (Valued used v dual)) here run;
        stops = (late, refl);
      });
    } in
    all_written f a (NotShown i v) x

fit_writable : (f : SourceDef) (a : ℕ) (bounds : List ℕ) (points : List DualDef) → EndsIn (refuting f) a (Schedulable bounds points)
    → AreWritable f a
fit_writable f a bounds points (left, found, comes, same, rest) =
    let h = forget_round f bounds (a - comes.spent) (tasks_of f) found comes.passed in
    let x : ReachesEnd f a (Schedulable bounds h.other.duals) = record {
      rounds = comes.rounds;
      spent = comes.spent;
      vector = bounds;
      task = tasks_of f;
      found = found;
      way = comes.reached;
      passed = comes.passed;
      last = λ here. absurd (omega (arith, here));
      other = h.other;
      other_passed = h.passed;
      other_used = h.used;
      ends = inr (record { last = refl; same = h.values ∙ same; is = refl });
    } in
    all_written f a (Schedulable bounds h.other.duals) x

-- Points are put in.
point_put : (f : SourceDef) (a : ℕ) → AreWritable f a → (r : List ℕ) (i left : ℕ) (found : Found) (used value : ℕ) (dual : DualDef)
    → i < tasks_of f → ComesTo (rounds_of f) a r i left found → TaskRuns f r i left (Valued used value dual)
    → (point : DualDef) × PointRuns f r i left (Valued used value point)
point_put f a can r i left found used value dual below comes run =
    elim (cases_lt (slice_index r i) value) [
      | inl past ↦
          let w = can r i left found used value dual below comes run past in
          (w.0, (dual, run, record { above = λ _. w.1; none = λ most. absurd (omega (arith, past, most)) }))
      | inr most ↦ (no_dual, (dual, run, record { above = λ past. absurd (omega (arith, past, most)); none = λ _. refl }))
    ]

write_round : (f : SourceDef) (a : ℕ) → AreWritable f a → (k spent : ℕ) (r : List ℕ) → Reaches (rounds_of f) a k spent r → (i : ℕ)
    (found : Found) → i ≤ tasks_of f → Passes (rounds_of f) r (a - spent) i found → Alike (refuting f) r (a - spent) i found
write_round f a can k spent r way zero found most none = alike_first (refuting f) r (a - spent) found none
write_round f a can k spent r way (suc i) found most (before, used, value, dual, passed, run, within, is) =
    let comes : ComesTo (rounds_of f) a r i (a - spent - before.used) before =
    record { rounds = k; spent = spent; reached = way; passed = passed; units = refl } in
    let put = point_put f a can r i (a - spent - before.used) before used value dual (omega (arith, most)) comes run in
    alike_more (refuting f) r (a - spent) i before found used value put.0 dual
    (write_round f a can k spent r way i before (omega (arith, most)) passed) put.1 within is

write_way : (f : SourceDef) (a : ℕ) → AreWritable f a → (k used : ℕ) (r : List ℕ) → Reaches (rounds_of f) a k used r
    → Reaches (refuting f) a k used r
write_way f a can zero used r way = way
write_way f a can (suc k) used r (before, q, found, reached, passed, is, other, units) =
    let h = write_round f a can k before q reached (tasks_of f) found (omega arith) passed in (
      before,
      q,
      h.other,
      write_way f a can k before q reached,
      h.passed,
      is ∙ sym h.values,
      other,
      units ∙ ap (λ (n : ℕ). before + n) (sym h.used),
    )

write_late : (f : SourceDef) (a i v : ℕ) → EndsIn (rounds_of f) a (NotShown i v) → AreWritable f a → EndsIn (refuting f) a (NotShown i v)
write_late f a i v (r, left, found, used, dual, below, comes, run, late) can =
    let h = write_round f a can comes.rounds comes.spent r comes.reached i found (omega (arith, below)) comes.passed in
    let put = point_put f a can r i left found used v dual below comes run in
    let there : ComesTo (refuting f) a r i left h.other = record {
      rounds = comes.rounds;
      spent = comes.spent;
      reached = write_way f a can comes.rounds comes.spent r comes.reached;
      passed = h.passed;
      units = comes.units ∙ ap (λ (n : ℕ). a - comes.spent - n) (sym h.used);
    } in
    (r, left, h.other, used, put.0, below, there, put.1, late)

write_fit : (f : SourceDef) (a : ℕ) (bounds : List ℕ) (duals : List DualDef) → EndsIn (rounds_of f) a (Schedulable bounds duals)
    → AreWritable f a → (points : List DualDef) × EndsIn (refuting f) a (Schedulable bounds points)
write_fit f a bounds duals (left, found, comes, same, rest) can =
    let h = write_round f a can comes.rounds comes.spent bounds comes.reached (tasks_of f) found (omega arith) comes.passed in
    let there : ComesTo (refuting f) a bounds (tasks_of f) left h.other = record {
      rounds = comes.rounds;
      spent = comes.spent;
      reached = write_way f a can comes.rounds comes.spent bounds comes.reached;
      passed = h.passed;
      units = comes.units ∙ ap (λ (n : ℕ). a - comes.spent - n) (sym h.used);
    } in
    (h.other.duals, (left, h.other, there, h.values ∙ same, refl))

pub refused_exactly : (f : SourceDef) (a i v : ℕ)
    → EndsIn (refuting f) a (NotShown i v) ↔ ((EndsIn (rounds_of f) a (NotShown i v)) × AreWritable f a)
refused_exactly f a i v =
    ((λ ends. (forget_late f a i v ends, late_writable f a i v ends)), λ both. write_late f a i v both.0 both.1)

pub schedulable_exactly : (f : SourceDef) (a : ℕ) (bounds : List ℕ)
    → ((points : List DualDef) × EndsIn (refuting f) a (Schedulable bounds points))
    ↔ (((duals : List DualDef) × EndsIn (rounds_of f) a (Schedulable bounds duals)) × AreWritable f a)
schedulable_exactly f a bounds = (
  (λ ends. (forget_fit f a bounds ends.0 ends.1, fit_writable f a bounds ends.0 ends.1)),
  λ both. write_fit f a bounds both.0.0 both.0.1 both.1,
)

-- The answer of rounds that end so follows those of an analysis.
late_there : (f : SourceDef) (a : ℕ) → EndsLate f a → (i : ℕ) × (v : ℕ) × EndsIn (refuting f) a (NotShown i v)
late_there f a ((i, v, ends), can) = (i, v, write_late f a i v ends can)

fit_there : (f : SourceDef) (a : ℕ) → EndsFitting f a
    → (bounds : List ℕ) × (points : List DualDef) × EndsIn (refuting f) a (Schedulable bounds points)
fit_there f a ((bounds, duals, ends), can) =
    let there = write_fit f a bounds duals ends can in
    (bounds, there.0, there.1)

never_late : (f : SourceDef) (a : ℕ) (e : Ending) → EndsIn (refuting f) a e → ((i v : ℕ) → e ≡ NotShown i v → ⊥) → EndsLate f a → ⊥
never_late f a e ends other late =
    let there = late_there f a late in
    other there.0 there.1 (refuting_once f a e (NotShown there.0 there.1) ends there.2)

never_fits : (f : SourceDef) (a : ℕ) (e : Ending) → EndsIn (refuting f) a e
    → ((bounds : List ℕ) (points : List DualDef) → e ≡ Schedulable bounds points → ⊥) → EndsFitting f a → ⊥
never_fits f a e ends other fit =
    let there = fit_there f a fit in
    other there.0 there.1 (refuting_once f a e (Schedulable there.0 there.1) ends there.2)

pub follows_of : (f : SourceDef) (a : ℕ) (r : Result Answer RefuteStop) → Refutes r f a → FollowsAnalysis r f a
follows_of f a (Ok (answer.Refused refusal)) (i, v, ends, steps) = (
  ((i, v, forget_late f a i v ends), late_writable f a i v ends),
  never_fits f a (NotShown i v) ends (λ bounds points same. cc),
)
follows_of f a (Ok answer.Schedulable) (bounds, points, ends) =
    let there = forget_fit f a bounds points ends in
    (((bounds, there.0, there.1), fit_writable f a bounds points ends), never_late f a (Schedulable bounds points) ends (λ i v same. cc))
follows_of f a (Err (stop.Wide task)) ends =
    (never_late f a (Wide task.0) ends (λ i v same. cc), never_fits f a (Wide task.0) ends (λ bounds points same. cc))
follows_of f a (Err stop.Allowance) ends =
    (never_late f a Allowance ends (λ i v same. cc), never_fits f a Allowance ends (λ bounds points same. cc))
follows_of f a (Err stop.Memory) given = tt
