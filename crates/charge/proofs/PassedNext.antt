-- Which jobs have passed their bounds, some ticks later: those before, and those that are due now. For the first of all it is enough to
-- look at the active jobs.
use Rattle.std.proofs.Common.{◌≡◌, ℕ, ◌+◌, ◌-◌, ◌<◌, ◌≤◌, ◌||◌, ◌&&◌, Bool, true, false, List, length, refl, sym, ap, ◌∙◌, subst, arith}
use Rattle.std.proofs.Common.{inl, inr, Option, Some, None}
use Rattle.std.specs.Prelude.{not, nat_le, nat_lt, slice_index}
use Rattle.std.proofs.lemmas.Bool.{cases_lt, cases_Bool, or_cases, or_left, or_right, and_parts, and_from, and_cases}
use Rattle.std.proofs.lemmas.Bool.{not-true, not-false, not_from_false, ltb-true, lt-ltb, le-ltb, lt-leb, le-leb, eqb-true, eq-eqb, both_ways}
use Rattle.number_laws.specs.Tests.{found_below}
use Rattle.number_laws.proofs.TestLaws.{found_below-agree, found_below-none_from}
use Rattle.sporadic_model.specs.Accepted.{TaskNumbers}
use Rattle.schedule_model.specs.JobDef.{JobsDef, job_of}
use Rattle.schedule_model.specs.declared.job.JobId.{JobId}
use Rattle.schedule_model.specs.Seen.{place_seen}
use Rattle.schedule_model.specs.LawfulJobs.{IsLawfulJob, AreLawfulJobs}
use Rattle.schedule_model.specs.RowDef.{RowDef, Trace, jobs_of}
use Rattle.schedule_model.specs.Phase.{is_finished, phase_of}
use Rattle.schedule_model.specs.Phase.Phase.{Finished}
use Rattle.schedule_model.specs.Activity.{task_of, is_active}
use Rattle.schedule_laws.proofs.Ticks.{finished_true, finished_stays}
use Rattle.schedule_laws.proofs.ActiveJobs.{Active, active_is, active_from}
use Rattle.phase_machine.specs.MachineDef.{MachineDef, under}
use Rattle.phase_machine.specs.Shows.{Shows}
use Rattle.phase_machine.proofs.Facts.{active_shown}
use Rattle.charge_laws.specs.Windows.{AreBounds, bound_end}
use Rattle.trace_walk.proofs.Reaching.{over}
use Rattle.charge.specs.Passed.{has_passed, first_passed}
use Rattle.charge.specs.Ledgers.{has_passed_before, first_passed_before}
use Rattle.charge.specs.Due.{is_due}
use Rattle.charge.proofs.Passing.{found_same}

abbrev HaveNumbers : Trace → Type 0
HaveNumbers w = (x : ℕ) → x < length w.set.tasks → TaskNumbers w.set x

-- A job that has passed its bound before tick n.
record Passed (w : Trace) (bound : ℕ → ℕ) (n j : ℕ) : Type 0 where
  within : bound_end w bound j < n
  unfinished : is_finished (phase_of w (bound_end w bound j) j) ≡ false

passed_is : (w : Trace) (bound : ℕ → ℕ) (n j : ℕ) → has_passed_before w bound n j ≡ true → Passed w bound n j
unfolding has_passed_before
passed_is w bound n j h =
    let parts : (nat_lt (bound_end w bound j) n ≡ true) × (_ ≡ true) = and_parts _ _ h in
    record { within = ltb-true _ _ parts.0; unfinished = not-true _ parts.1 }

passed_from : (w : Trace) (bound : ℕ → ℕ) (n j : ℕ) → Passed w bound n j → has_passed_before w bound n j ≡ true
unfolding has_passed_before
passed_from w bound n j p = and_from _ _ (lt-ltb _ _ p.within) (not_from_false _ p.unfinished)

-- One whose bound has come before tick n and that hasn't passed it was finished by then.
finished_before : (w : Trace) (bound : ℕ → ℕ) (n j : ℕ) → has_passed_before w bound n j ≡ false → bound_end w bound j < n
    → phase_of w (bound_end w bound j) j ≡ Finished
unfolding has_passed_before
finished_before w bound n j h within = elim (and_cases _ _ h) [
  | inl late ↦ absurd (both_ways _ late (lt-ltb _ _ within))
  | inr finished ↦ finished_true _ (not-false _ finished)
]

-- Before the first row none has.
pub none_before : (w : Trace) (bound : ℕ → ℕ) → first_passed_before w bound 0 ≡ None
none_before w bound = found_below-none_from (length w.jobs) (has_passed_before w bound 0) (λ j l. elim (cases_Bool (has_passed_before w bound 0 j)) [
  | inr off ↦ off
  | inl on ↦ let p : Passed w bound 0 j = passed_is w bound 0 j on in absurd (omega (arith, p.within))
])

-- To pass it within n rows is to pass it before tick n + 1.
within_before : (w : Trace) (bound : ℕ → ℕ) (n j : ℕ) → has_passed_before w bound (n + 1) j ≡ has_passed w bound n j
unfolding has_passed has_passed_before
within_before w bound n j = ap (λ b. b && not (is_finished (phase_of w (bound_end w bound j) j))) (same (bound_end w bound j)) where
  same : (e : ℕ) → nat_lt e (n + 1) ≡ nat_le e n
  same e = elim (cases_lt n e) [
    | inl late ↦ le-ltb e (n + 1) (omega (arith, late)) ∙ sym (lt-leb e n late)
    | inr early ↦ lt-ltb e (n + 1) (omega (arith, early)) ∙ sym (le-leb e n early)
  ]

-- One whose bound has come within n rows and that hasn't passed it was finished by then.
pub passed_not : (w : Trace) (bound : ℕ → ℕ) (n j : ℕ) → has_passed w bound n j ≡ false → bound_end w bound j ≤ n
    → phase_of w (bound_end w bound j) j ≡ Finished
passed_not w bound n j h within = finished_before w bound (n + 1) j (within_before w bound n j ∙ h) (omega (arith, within))

-- None has where each job whose bound has come was finished by then.
pub none_passed_by : (w : Trace) (bound : ℕ → ℕ) (n : ℕ)
    → ((j : ℕ) → j < length w.jobs → bound_end w bound j ≤ n → phase_of w (bound_end w bound j) j ≡ Finished)
    → first_passed w bound n ≡ None
none_passed_by w bound n finished = found_below-none_from (length w.jobs) (has_passed w bound n) (λ j l. elim (cases_Bool (has_passed w bound n j)) [
  | inr off ↦ off
  | inl on ↦
      let p : Passed w bound (n + 1) j = passed_is w bound (n + 1) j (within_before w bound n j ∙ on) in
      let done : is_finished (phase_of w (bound_end w bound j) j) ≡ true = ap is_finished (finished j l (omega (arith, p.within))) in
      absurd (both_ways _ p.unfinished done)
])

-- The bound of an earlier job of the task ends no later than the release of a job.
ends_before : (w : Trace) (bound : ℕ → ℕ) (e j : ℕ) → HaveNumbers w → AreLawfulJobs (jobs_of w) → AreBounds w.set bound → e < j
    → j < length w.jobs → task_of w e ≡ task_of w j → bound_end w bound e ≤ (job_of w.jobs j).release
ends_before w bound e j numbers lawful bounds l listed same =
    let task : task_of w e < length w.set.tasks = (lawful.each e (omega (arith, l, listed))).task in
    let number : TaskNumbers w.set (task_of w e) = numbers (task_of w e) task in
    let first : IsLawfulJob w.set (job_of w.jobs e) = lawful.each e (omega (arith, l, listed)) in
    let second : IsLawfulJob w.set (job_of w.jobs j) = lawful.each j listed in
    omega (
      arith,
      bounds.latest (task_of w e) task,
      number.jitter_to,
      number.deadline_to,
      lawful.apart e j l listed same,
      first.in_time,
      second.arrived,
    )

-- The first job that has passed its bound at the tick at which it ends is active then.
first_active : (w : Trace) (bound : ℕ → ℕ) (n j : ℕ) → HaveNumbers w → AreLawfulJobs (jobs_of w) → AreBounds w.set bound
    → j < length w.jobs → Passed w bound n j → ((i : ℕ) → i < j → has_passed_before w bound n i ≡ false)
    → is_active w (bound_end w bound j) j ≡ true
first_active w bound n j numbers lawful bounds l p first = active_from w (bound_end w bound j) j (record {
  released = omega arith;
  unfinished = p.unfinished;
  next = λ e before same.
      let ends : bound_end w bound e ≤ (job_of w.jobs j).release = ends_before w bound e j numbers lawful bounds before l same in
      finished_stays w (bound_end w bound e) (bound_end w bound j) e (omega (arith, ends))
      (finished_before w bound n e (first e before) (omega (arith, ends, p.within)));
})

-- So it was before the machine's tick, or is due there, or its bound ends in a later one of n ticks.
pub passed_on : (m : MachineDef) (rows : ℕ → RowDef) (bounds : List ℕ) (n : ℕ) → Shows m rows → 1 ≤ n
    → AreBounds m.list.set (slice_index bounds)
    → ((k i : ℕ) → 0 < i → i < n → is_active (under m rows) (m.tick + i) k ≡ true
    → bound_end (under m rows) (slice_index bounds) k ≡ m.tick + i → ⊥)
    → found_below (length m.list.jobs) (λ j. has_passed_before (under m rows) (slice_index bounds) m.tick j || is_due m bounds j)
    ≡ first_passed_before (under m rows) (slice_index bounds) (m.tick + n)
passed_on m rows bounds n shows some are none =
    found_same (length m.list.jobs) (λ j. has_passed_before w bound m.tick j || is_due m bounds j)
    (has_passed_before w bound (m.tick + n)) more first where
      w : Trace
      w = under m rows

      bound : ℕ → ℕ
      bound = slice_index bounds

      more : (k : ℕ) → k < length m.list.jobs → (has_passed_before w bound m.tick k || is_due m bounds k) ≡ true
          → has_passed_before w bound (m.tick + n) k ≡ true
      more k l h = elim (or_cases _ _ h) [
        | inl before ↦
            let p : Passed w bound m.tick k = passed_is w bound m.tick k before in
            passed_from w bound (m.tick + n) k (record { within = omega (arith, p.within); unfinished = p.unfinished })
        | inr due ↦
            let parts = and_parts _ _ due in
            let e : bound_end w bound k ≡ m.tick = eqb-true _ _ parts.0 in
            let a : Active w m.tick k = active_is w m.tick k (sym (active_shown m rows k shows) ∙ parts.1) in
            passed_from w bound (m.tick + n) k (record {
              within = omega (arith, e, some);
              unfinished = ap (λ u. is_finished (phase_of w u k)) e ∙ a.unfinished;
            })
      ]

      first : (k : ℕ) → k < length m.list.jobs → has_passed_before w bound (m.tick + n) k ≡ true
          → ((i : ℕ) → i < k → has_passed_before w bound (m.tick + n) i ≡ false)
          → (has_passed_before w bound m.tick k || is_due m bounds k) ≡ true
      first k l h earlier =
          let p : Passed w bound (m.tick + n) k = passed_is w bound (m.tick + n) k h in
          let active : is_active w (bound_end w bound k) k ≡ true =
          first_active w bound (m.tick + n) k shows.machine.numbers shows.machine.lawful are l p earlier in
          elim (cases_lt (bound_end w bound k) m.tick) [
            | inl past ↦ or_left _ _ (passed_from w bound m.tick k (record { within = past; unfinished = p.unfinished }))
            | inr later ↦ elim (cases_lt m.tick (bound_end w bound k)) [
              | inl between ↦
                  let at : bound_end w bound k ≡ m.tick + (bound_end w bound k - m.tick) = omega (arith, later) in
                  absurd (none k (bound_end w bound k - m.tick) (omega (arith, between)) (omega (arith, later, p.within))
                  (ap (λ u. is_active w u k) (sym at) ∙ active) at)
              | inr last ↦
                  let e : bound_end w bound k ≡ m.tick = omega (arith, last, later) in
                  let here : is_active w m.tick k ≡ true = ap (λ u. is_active w u k) (sym e) ∙ active in
                  or_right _ _ (and_from _ _ (eq-eqb _ _ e) (active_shown m rows k shows ∙ here))
            ]
          ]

-- The first that has passed its bound within all rows is the first of those before and of those that are due after the last row.
pub passed_at_end : (m : MachineDef) (rows : ℕ → RowDef) (bounds : List ℕ) (jobs : JobsDef) (n : ℕ) (o r : Option ℕ) → Shows m rows
    → m.list ≡ jobs → m.tick ≡ n → AreBounds jobs.set (slice_index bounds)
    → o ≡ first_passed_before (over jobs rows) (slice_index bounds) n
    → ((passes : ℕ → Bool) → o ≡ found_below (length m.list.jobs) passes
    → r ≡ found_below (length m.list.jobs) (λ j. passes j || is_due m bounds j))
    → r ≡ first_passed (over jobs rows) (slice_index bounds) n
passed_at_end m rows bounds jobs n o r shows list tick are noted found =
    let here : o ≡ first_passed_before (under m rows) (slice_index bounds) m.tick =
    subst (λ (t : ℕ). o ≡ first_passed_before (under m rows) (slice_index bounds) t) (sym tick)
    (subst (λ (l : JobsDef). o ≡ first_passed_before (over l rows) (slice_index bounds) n) (sym list) noted) in
    let bounded : AreBounds m.list.set (slice_index bounds) =
    subst (λ (l : JobsDef). AreBounds l.set (slice_index bounds)) (sym list) are in
    let now : r ≡ first_passed (under m rows) (slice_index bounds) m.tick =
    found (has_passed_before (under m rows) (slice_index bounds) m.tick) here
    ∙ passed_on m rows bounds 1 shows (omega arith) bounded (λ k i some less a e. absurd (omega (arith, some, less)))
    ∙ found_below-agree (length m.list.jobs) (has_passed_before (under m rows) (slice_index bounds) (m.tick + 1))
    (has_passed (under m rows) (slice_index bounds) m.tick) (λ j l. within_before (under m rows) (slice_index bounds) m.tick j) in
    subst (λ (l : JobsDef). r ≡ first_passed (over l rows) (slice_index bounds) n) list
    (subst (λ (t : ℕ). r ≡ first_passed (under m rows) (slice_index bounds) t) tick now)

-- A job that isn't there is none.
pub none_noted : (o : Option JobId) → ((j : JobId) → o ≡ Some j → ⊥) → place_seen o ≡ None
none_noted None h = refl
none_noted (Some j) h = absurd (h j refl)
