-- From what a protocol and its analysis give to soundness.
use Rattle.std.proofs.Common.{◌≡◌, ℕ, zero, suc, ◌<◌, ◌≤◌, ◌&&◌, Bool, true, List, length, sym, subst, arith}
use Rattle.std.proofs.Common.{inl, inr, min, leb, ltb}
use Rattle.std.specs.Prelude.{slice_index, nat_le, nat_lt}
use Rattle.std.proofs.lemmas.Bool.{cases_Bool, and_parts, leb-true, ltb-true}
use Rattle.number_laws.specs.Tests.{count_below}
use Rattle.number_laws.proofs.CountLaws.{flag-of_true, flag-of_false, count_below-longer}
use Rattle.program_form.specs.Program.{ProgramDef}
use Rattle.program_form.specs.Certificate.{CertificateDef}
use Rattle.program_form.specs.Duals.{Covers, dual_value}
use Rattle.sporadic_model.specs.SetDef.{task_at}
use Rattle.sporadic_model.specs.Accepted.{IsFormed}
use Rattle.sporadic_model.proofs.Laws.{cost_of_formed}
use Rattle.schedule_model.specs.JobDef.{job_of, total_ticks}
use Rattle.schedule_model.specs.LawfulJobs.{IsLawfulJob}
use Rattle.schedule_model.specs.RowDef.{Trace}
use Rattle.schedule_model.specs.Activity.{task_of}
use Rattle.schedule_model.specs.BlockedTicks.{is_blocked}
use Rattle.schedule_model.specs.Keeping.{KeepsRow}
use Rattle.schedule_model.specs.ProtocolLaws.{IsOneOfThree, IsSoundRow}
use Rattle.schedule_model.specs.declared.rule.Rule.{Rule}
use Rattle.program_sources.specs.Recurrence.{SourceDef}
use Rattle.program_sources.specs.Fitting.{tasks_of}
use Rattle.program_sources.specs.Valid.{IsValid, dual_at, value_at}
use Rattle.charge_laws.specs.Windows.{bound_end, window_end, EndedWithin}
use Rattle.soundness_laws.specs.Sound.{IsLawfulSchedule, KeepsBounds, is_in_window, blocked_in_window, Sound}
use Rattle.soundness_laws.specs.Analyses.{AreValues, Analyses}
use Rattle.soundness_laws.proofs.FirstMiss.{AreEnough, Given, all_end_in_time}

-- Ticks before n that are before e too, if each that passes p passes q.
count_below-cut : (n e : ℕ) (p q : ℕ → Bool) → ((t : ℕ) → p t ≡ true → (t < e) × (q t ≡ true))
    → count_below n p ≤ count_below (min e n) q
count_below-cut zero e p q h = omega arith
count_below-cut (suc n) e p q h = elim (cases_Bool (p n)) [
  | inl passes ↦
      let here : (n < e) × (q n ≡ true) = h n passes in
      let before : min e n ≡ n = omega (arith, here.0) in
      let after : min e (suc n) ≡ suc n = omega (arith, here.0) in
      let most : count_below n p ≤ count_below n q =
      subst (λ k. count_below n p ≤ count_below k q) before (count_below-cut n e p q h) in
      let more : count_below (suc n) p ≤ count_below (suc n) q =
      omega (arith, most, flag-of_true (p n) passes, flag-of_true (q n) here.1) in
      subst (λ k. count_below (suc n) p ≤ count_below k q) (sym after) more
  | inr fails ↦
      omega (
        arith,
        flag-of_false (p n) fails,
        count_below-cut n e p q h,
        count_below-longer (min e n) (min e (suc n)) q (omega arith),
      )
]

-- A tick of a job's window is between its release and its bound's end.
in_window : (r e t : ℕ) (b : Bool) → ((nat_le r t && nat_lt t e) && b) ≡ true → (r ≤ t) × (t < e) × (b ≡ true)
in_window r e t b h =
    let parts : ((leb r t && ltb t e) ≡ true) × (b ≡ true) = and_parts _ _ h in
    let ends : (leb r t ≡ true) × (ltb t e ≡ true) = and_parts _ _ parts.0 in
    (leb-true _ _ ends.0, ltb-true _ _ ends.1, parts.1)

-- No job is blocked in its window for more than its value.
blocked_at_most : (interferes : Trace → ℕ → ℕ → Bool) (w : Trace) (n : ℕ) (own cost : ℕ → ℕ) (bounds : List ℕ) (value : ℕ → ℕ)
    (j : ℕ)
    → Given interferes w n own cost bounds value → j < length w.jobs → blocked_in_window interferes w n bounds j ≤ value (task_of w j)
blocked_at_most interferes w n own cost bounds value j given l =
    let ended : EndedWithin w (slice_index bounds) (bound_end w (slice_index bounds) j) n =
    λ k listed before within.
    all_end_in_time interferes w n own cost bounds value (suc n) given (omega arith) k listed (omega (arith, within)) in
    let cut : blocked_in_window interferes w n bounds j
    ≤ count_below (window_end w (slice_index bounds) n j) (λ t. is_blocked interferes w t j) =
    count_below-cut n (bound_end w (slice_index bounds) j) (λ t. is_in_window w bounds t j && is_blocked interferes w t j)
    (λ t. is_blocked interferes w t j)
    (λ t h. let inside : ((job_of w.jobs j).release ≤ t) × (t < bound_end w (slice_index bounds) j)
    × (is_blocked interferes w t j ≡ true) = in_window _ _ t _ h in (inside.1, inside.2)) in
    omega (arith, cut, given.blocked j l ended)

-- Some dual that covers the program is worth at most this value.
pub record HasDual (p : ProgramDef) (value : ℕ) : Type 0 where
  pub den : ℕ
  pub num : ℕ → ℕ
  pub covers : Covers p den num
  pub worth : dual_value p den num ≤ value

-- The bounds are shown for jobs that execute no more ticks than this. They are enough with these values, and each value is at least that of
-- a dual of its task's program.
pub record AreShown (f : SourceDef) (own : ℕ → ℕ) (bounds : List ℕ) (value : ℕ → ℕ) : Type 0 where
  pub enough : AreEnough f.set own f.interfering bounds value
  pub duals : (i : ℕ) → i < tasks_of f → HasDual (f.program i bounds) (value i)

-- No job of the schedule executes at more ticks than this.
abbrev pub AreShort : (ℕ → ℕ) → Trace → Type 0
AreShort own w = (j : ℕ) → j < length w.jobs → total_ticks (job_of w.jobs j).script ≤ own (task_of w j)

-- The premises of the induction.
given_of : (keeps : Rule → Trace → ℕ → Type 0) (interferes : Trace → ℕ → ℕ → Bool) (f : SourceDef) (own : ℕ → ℕ) (bounds : List ℕ)
    (value : ℕ → ℕ) (w : Trace) (n : ℕ)
    → ((t j : ℕ) → IsOneOfThree interferes w t j)
    → ((t : ℕ) → KeepsRow keeps w t → IsSoundRow interferes w t)
    → IsFormed f.set → Analyses keeps interferes f → AreShown f own bounds value → IsLawfulSchedule keeps f.set w n → AreShort own w
    → Given interferes w n own f.interfering bounds value
given_of keeps interferes f own bounds value w n three sound formed analyses shown s short = record {
  formed = subst IsFormed (sym s.set_is) formed;
  lawful = s.jobs;
  short = short;
  enough = subst (λ set. AreEnough set own f.interfering bounds value) (sym s.set_is) shown.enough;
  three = three;
  sound = λ t l. sound t (s.rows t l);
  most = subst (λ set. (h : ℕ) → h < length set.tasks → f.interfering h ≤ (task_at set h).cost) (sym s.set_is) analyses.most;
  interfering = λ m y b l. analyses.interfering w m y
      (record { set_is = s.set_is; jobs = s.jobs; rows = λ t k. s.rows t (omega arith) }) l;
  blocked = λ j l ended.
      let job : IsLawfulJob w.set (job_of w.jobs j) = s.jobs.each j l in
      let task : task_of w j < tasks_of f = subst (λ set. task_of w j < length set.tasks) s.set_is job.task in
      let dual : HasDual (f.program (task_of w j) bounds) (value (task_of w j)) = shown.duals (task_of w j) task in
      omega (arith, analyses.blocked w bounds n j dual.den dual.num s l ended dual.covers, dual.worth);
}

-- Bounds that are shown for jobs of some length hold in each lawful schedule of such jobs.
pub shown_sound : (keeps : Rule → Trace → ℕ → Type 0) (interferes : Trace → ℕ → ℕ → Bool) (f : SourceDef) (own : ℕ → ℕ) (bounds : List ℕ)
    (value : ℕ → ℕ) (values : List ℕ) (w : Trace) (n : ℕ)
    → ((w : Trace) (t j : ℕ) → w.set ≡ f.set → IsOneOfThree interferes w t j)
    → ((w : Trace) (t : ℕ) → w.set ≡ f.set → KeepsRow keeps w t → IsSoundRow interferes w t)
    → IsFormed f.set → Analyses keeps interferes f → AreShown f own bounds value
    → ((i : ℕ) → i < tasks_of f → value i ≤ slice_index values i)
    → IsLawfulSchedule keeps f.set w n → AreShort own w → KeepsBounds interferes w n bounds values
shown_sound keeps interferes f own bounds value values w n three sound formed analyses shown most s short = record {
  finished = λ j l due. all_end_in_time interferes w n own f.interfering bounds value (suc n) given (omega arith) j l (omega arith);
  blocked = λ j l.
      let job : IsLawfulJob w.set (job_of w.jobs j) = s.jobs.each j l in
      let task : task_of w j < tasks_of f = subst (λ set. task_of w j < length set.tasks) s.set_is job.task in
      omega (arith, blocked_at_most interferes w n own f.interfering bounds value j given l, most (task_of w j) task);
} where
  given : Given interferes w n own f.interfering bounds value
  given =
      given_of keeps interferes f own bounds value w n (λ t j. three w t j s.set_is) (λ t kept. sound w t s.set_is kept) formed analyses
      shown s short

-- The cost of each task of a source.
abbrev pub costs_of : SourceDef → ℕ → ℕ
costs_of f i = (task_at f.set i).cost

-- The bounds of a valid certificate are shown for jobs that keep their costs.
valid_shown : (keeps : Rule → Trace → ℕ → Type 0) (interferes : Trace → ℕ → ℕ → Bool) (f : SourceDef) (c : CertificateDef)
    → IsFormed f.set → Analyses keeps interferes f → IsValid f c → AreShown f (costs_of f) c.bounds (value_at f c)
valid_shown keeps interferes f c formed analyses valid = record {
  enough = record {
    from = λ i l. omega (arith, cost_of_formed f.set i formed l, (valid.proved i l).enough);
    within = λ i l. (valid.proved i l).within;
    less = λ i l. omega (arith, analyses.most i l, (valid.proved i l).enough);
    enough = λ i l. (valid.proved i l).enough;
  };
  duals = λ i l. record {
    den = (dual_at c.duals i).den;
    num = λ r. slice_index (dual_at c.duals i).num r;
    covers = (valid.proved i l).feasible.covers;
    worth = omega arith;
  };
}

-- A valid certificate is sound.
pub sound_of : (keeps : Rule → Trace → ℕ → Type 0) (interferes : Trace → ℕ → ℕ → Bool) (f : SourceDef) (c : CertificateDef)
    (values : List ℕ)
    → ((w : Trace) (t j : ℕ) → w.set ≡ f.set → IsOneOfThree interferes w t j)
    → ((w : Trace) (t : ℕ) → w.set ≡ f.set → KeepsRow keeps w t → IsSoundRow interferes w t)
    → IsFormed f.set → Analyses keeps interferes f → IsValid f c → AreValues f c values
    → Sound keeps interferes f.set c.bounds values
sound_of keeps interferes f c values three sound formed analyses valid are = λ w n s.
    shown_sound keeps interferes f (costs_of f) c.bounds (value_at f c) values w n three sound formed analyses
    (valid_shown keeps interferes f c formed analyses valid) (λ i l. omega (arith, are.each i l)) s
    (λ j l. let job : IsLawfulJob w.set (job_of w.jobs j) = s.jobs.each j l in
    subst (λ set. total_ticks (job_of w.jobs j).script ≤ (task_at set (task_of w j)).cost) s.set_is job.cost)
