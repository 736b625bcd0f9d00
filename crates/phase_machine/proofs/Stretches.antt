-- The stretch of a machine's row is that of each schedule that the machine shows.
use Rattle.std.proofs.Common.{◌≡◌, ℕ, zero, suc, ◌+◌, ◌-◌, ◌<◌, ◌≤◌, true, List, length, get_or, refl, sym, ap, ◌∙◌}
use Rattle.std.proofs.Common.{subst, arith, inl, inr, Option, Some, None}
use Rattle.std.proofs.lemmas.Bool.{cases_lt}
use Rattle.std.proofs.lemmas.List.{get_or_past}
use Rattle.sporadic_model.specs.declared.limits.TheConstants.{MOST_TICKS}
use Rattle.sporadic_model.specs.Accepted.{TaskNumbers}
use Rattle.schedule_model.specs.JobDef.{job_of}
use Rattle.schedule_model.specs.RowDef.{RowDef, running_on, runs_in}
use Rattle.schedule_model.specs.Phase.{phase_of}
use Rattle.schedule_laws.proofs.Rows.{runs_where, runs_from}
use Rattle.schedule_laws.proofs.Spacing.{releases_rise}
use Rattle.schedule_laws.specs.Steady.{IsSteady, Changes}
use Rattle.phase_machine.specs.MachineDef.{MachineDef, IsMachine, IsComing, IsDue, place_of, coming_of, task_in, under}
use Rattle.phase_machine.specs.Shows.{Shows}
use Rattle.phase_machine.specs.Taking.{CanTake}
use Rattle.phase_machine.specs.Stretch.{left_at, left_now, ChangesAfter, IsQuiet, IsStretch}
use Rattle.phase_machine.specs.Least.{IsLeastOf, IsLeft, IsAhead}
use Rattle.phase_machine.proofs.Lawful.{task_listed}
use Rattle.phase_machine.proofs.GoingOn.{GoesOn, phase_goes_on}
use Rattle.phase_machine.proofs.PhaseEnds.{phase_ends}
use Rattle.phase_machine.proofs.Taking.{runs_listed, goes_on}

-- The next job to be released is due as long as nothing changes.
pub due_after : (m : MachineDef) (row : RowDef) (n x : ℕ) → IsMachine m → IsQuiet m row n → x < length m.list.set.tasks
    → IsDue m.list.jobs (m.tick + n) x (coming_of m x)
due_after m row n x machine quiet l = record {
  most = coming.most;
  own = coming.own;
  later = λ b. later b;
  earlier = λ e b same. omega (arith, coming.earlier e b same);
} where
  coming : IsComing m.list.jobs m.tick x (coming_of m x)
  coming = machine.coming x l

  later : coming_of m x < length m.list.jobs → m.tick + n ≤ (job_of m.list.jobs (coming_of m x)).release
  later b = elim (cases_lt (job_of m.list.jobs (coming_of m x)).release (m.tick + n)) [
    | inr most ↦ most
    | inl before ↦
        let ahead : m.tick < (job_of m.list.jobs (coming_of m x)).release = coming.later b in
        let at : (job_of m.list.jobs (coming_of m x)).release
        ≡ m.tick + ((job_of m.list.jobs (coming_of m x)).release - m.tick) = omega (arith, ahead) in
        absurd (quiet ((job_of m.list.jobs (coming_of m x)).release - m.tick) (omega (arith, ahead))
        (omega (arith, ahead, before)) (inr (coming_of m x, b, at)))
  ]

-- The next release of all is that of some task's next job.
ahead_of : (m : MachineDef) (least i j : ℕ) → IsMachine m
    → IsLeastOf MOST_TICKS (IsAhead m.list.jobs m.tick m.coming (length m.coming)) least → 0 < i
    → j < length m.list.jobs
    → (job_of m.list.jobs j).release ≡ m.tick + i → least ≤ i
ahead_of m least i j machine is some l e =
    omega (
      arith,
      is.each ((job_of m.list.jobs (coming_of m (task_in m.list.jobs j))).release - m.tick)
          (task_in m.list.jobs j, omega (arith, machine.coming_length, task), listed, at),
      before,
      e,
      coming.later listed,
    ) where
      task : task_in m.list.jobs j < length m.list.set.tasks
      task = task_listed m.list j machine.lawful l

      coming : IsComing m.list.jobs m.tick (task_in m.list.jobs j) (coming_of m (task_in m.list.jobs j))
      coming = machine.coming (task_in m.list.jobs j) task

      no_later : coming_of m (task_in m.list.jobs j) ≤ j
      no_later = elim (cases_lt j (coming_of m (task_in m.list.jobs j))) [
        | inl behind ↦ absurd (omega (arith, coming.earlier j behind refl, e, some))
        | inr most ↦ most
      ]

      listed : coming_of m (task_in m.list.jobs j) < length m.list.jobs
      listed = omega (arith, no_later, l)

      at : (job_of m.list.jobs (coming_of m (task_in m.list.jobs j))).release
          ≡ m.tick + ((job_of m.list.jobs (coming_of m (task_in m.list.jobs j))).release - m.tick)
      at = omega (arith, coming.later listed)

      before : (job_of m.list.jobs (coming_of m (task_in m.list.jobs j))).release ≤ (job_of m.list.jobs j).release
      before = elim (cases_lt (coming_of m (task_in m.list.jobs j)) j) [
        | inl less ↦ omega (
          arith,
          releases_rise m.list (coming_of m (task_in m.list.jobs j)) j machine.lawful
              (subst (TaskNumbers m.list.set) (sym (coming.own listed)) (machine.numbers (task_in m.list.jobs j) task))
              less l (coming.own listed),
        )
        | inr same ↦ let equal : coming_of m (task_in m.list.jobs j) ≡ j = omega (arith, no_later, same) in
            omega (arith, ap (λ k. (job_of m.list.jobs k).release) equal)
      ]

-- A place that names a job is within the list.
pub place_within : (names : List (Option ℕ)) (c j : ℕ) → get_or names c None ≡ Some j → c < length names
place_within names c j e = elim (cases_lt c (length names)) [
  | inl l ↦ l
  | inr past ↦ let x : None ≡ Some j = sym (get_or_past names c None past) ∙ e in absurd (cc)
]

left_of : (m : MachineDef) (row : RowDef) (most least i j : ℕ)
    → IsLeastOf most (IsLeft m.list.jobs m.places row.running (length row.running)) least → runs_in row j ≡ true
    → left_now m j ≡ i → least ≤ i
unfolding left_now
left_of m row most least i j is runs e = at (runs_where row j runs) where
  at : (k : ℕ) × (running_on row k ≡ Some j) → least ≤ i
  at (zero, h) = absurd (cc)
  at (suc c, h) = is.each i (c, j, place_within row.running c j h, h, e)

-- The least of what is left of the phases and of the ticks until the next release is the length of the stretch.
pub stretch_of : (m : MachineDef) (row : RowDef) (most least : ℕ) → IsMachine m
    → IsLeastOf MOST_TICKS (IsAhead m.list.jobs m.tick m.coming (length m.coming)) most
    → IsLeastOf most (IsLeft m.list.jobs m.places row.running (length row.running)) least → 1 ≤ least → IsStretch m row least
unfolding left_now
stretch_of m row most least machine ahead left some = record {
  some = some;
  most = omega (arith, ahead.at_most, left.at_most);
  quiet = λ i b l change. quiet i b l change;
  changes = λ l. changes l;
} where
  quiet : (i : ℕ) → 0 < i → i < least → ChangesAfter m row i → ⊥
  quiet i b l (inl (j, runs, e)) = absurd (omega (arith, left_of m row most least i j left runs e, l))
  quiet i b l (inr (j, listed, e)) = absurd (omega (arith, ahead_of m most i j machine ahead b listed e, left.at_most, l))

  changes : least < MOST_TICKS → ChangesAfter m row least
  changes l = elim (cases_lt least most) [
    | inl less ↦ ends (left.reached less)
    | inr equal ↦ released (ahead.reached (omega (arith, left.at_most, equal, l))) (omega (arith, left.at_most, equal))
  ] where
    ends : IsLeft m.list.jobs m.places row.running (length row.running) least → ChangesAfter m row least
    ends (c, j, within, e, v) = inl (j, runs_from row (suc c) j e, v)

    released : IsAhead m.list.jobs m.tick m.coming (length m.coming) most → most ≡ least → ChangesAfter m row least
    released (x, within, listed, e) same = inr (coming_of m x, listed, e ∙ ap (λ v. m.tick + v) same)

-- What is quiet is so sooner too.
pub quiet_sooner : (m : MachineDef) (row : RowDef) (n k : ℕ) → IsQuiet m row n → k ≤ n → IsQuiet m row k
quiet_sooner m row n k quiet l i some before = quiet i some (omega (arith, before, l))

-- In a schedule that the machine shows, and that has the row as often, the stretch is steady.
pub steady_of : (m : MachineDef) (rows : ℕ → RowDef) (row : RowDef) (n : ℕ) → Shows m rows → CanTake m row
    → IsQuiet m row n → ((i : ℕ) → i < n → rows (m.tick + i) ≡ row)
    → IsSteady (under m rows) m.tick n
steady_of m rows row n shows can quiet same = record {
  rows = λ i l. same i l ∙ sym (first (omega (arith, l)));
  phases = λ i j l runs. phases i j l (sym (ap (λ r. runs_in r j) (first (omega (arith, l)))) ∙ runs);
  releases = λ i j b l listed e. quiet i b l (inr (j, listed, e));
} where
  first : 0 < n → rows m.tick ≡ row
  first some = let here : m.tick ≡ m.tick + 0 = omega arith in ap rows here ∙ same 0 some

  phases : (i j : ℕ) → i < n → runs_in row j ≡ true → phase_of (under m rows) (m.tick + i) j ≡ phase_of (under m rows) m.tick j
  phases i j l runs =
      let own : (j < length m.list.jobs) × ((place_of m (task_in m.list.jobs j)).job ≡ j) = runs_listed m row j can runs in
      let goes : GoesOn (under m rows) m.tick (task_in m.list.jobs j) (place_of m (task_in m.list.jobs j)) n =
      goes_on m rows row n (task_in m.list.jobs j) shows can quiet same
      (task_listed m.list j shows.machine.lawful own.0) (ap (runs_in row) own.1 ∙ runs) in
      subst (λ k. phase_of (under m rows) (m.tick + i) k ≡ phase_of (under m rows) m.tick k) own.1
      (phase_goes_on (under m rows) m.tick (task_in m.list.jobs j) (place_of m (task_in m.list.jobs j)) n i goes l)

-- And where it is over, something changes there.
pub changes_of : (m : MachineDef) (rows : ℕ → RowDef) (row : RowDef) (n : ℕ) → Shows m rows → CanTake m row
    → IsStretch m row n → n < MOST_TICKS
    → ((i : ℕ) → i < n → rows (m.tick + i) ≡ row) → Changes (under m rows) m.tick n
unfolding left_now
changes_of m rows row n shows can stretch early same = go (stretch.changes early) where
  first : rows m.tick ≡ row
  first = let here : m.tick ≡ m.tick + 0 = omega arith in ap rows here ∙ same 0 (omega (arith, stretch.some))

  ends : (j : ℕ) → runs_in row j ≡ true → left_at m.list.jobs (place_of m (task_in m.list.jobs j)) ≡ n
      → phase_of (under m rows) (m.tick + n) j ≡ phase_of (under m rows) m.tick j → ⊥
  ends j runs e unchanged =
      let own : (j < length m.list.jobs) × ((place_of m (task_in m.list.jobs j)).job ≡ j) = runs_listed m row j can runs in
      let goes : GoesOn (under m rows) m.tick (task_in m.list.jobs j) (place_of m (task_in m.list.jobs j)) n =
      goes_on m rows row n (task_in m.list.jobs j) shows can stretch.quiet same
      (task_listed m.list j shows.machine.lawful own.0) (ap (runs_in row) own.1 ∙ runs) in
      phase_ends (under m rows) m.tick (task_in m.list.jobs j) (place_of m (task_in m.list.jobs j)) n goes (sym e)
      (subst (λ k. phase_of (under m rows) (m.tick + n) k ≡ phase_of (under m rows) m.tick k) (sym own.1) unchanged)

  go : ChangesAfter m row n → Changes (under m rows) m.tick n
  go (inl (j, runs, e)) = inl (j, ap (λ r. runs_in r j) first ∙ runs, λ unchanged. ends j runs e unchanged)
  go (inr change) = inr change
