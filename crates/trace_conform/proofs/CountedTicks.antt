-- Counting ticks of a steady stretch as its first: for the active job of each task in turn, and what the counts then say.
use Rattle.std.proofs.Common.{◌≡◌, ℕ, zero, suc, ◌+◌, ◌<◌, ◌≤◌, Bool, true, false, List, length, refl, ap, sym, ◌∙◌}
use Rattle.std.proofs.Common.{subst, arith, inl, inr, Some, None}
use Rattle.std.proofs.lemmas.Bool.{cases_lt, cases_eq, cases_Bool, both_ways}
use Rattle.number_laws.proofs.OnlyIfLaws.{only_if-nothing}
use Rattle.number_laws.specs.Sums.{flag, only_if}
use Rattle.schedule_model.specs.RowDef.{Trace, RowDef, runs_in}
use Rattle.schedule_model.specs.Phase.{is_finished, phase_of}
use Rattle.schedule_model.specs.Activity.{is_active}
use Rattle.schedule_model.specs.BlockedTicks.{is_delayed, is_blocked}
use Rattle.schedule_model.specs.Measures.{has_finished, finish_of, blocking_of}
use Rattle.schedule_model.specs.TakenRows.{CanBeTaken}
use Rattle.schedule_laws.proofs.Ticks.{phase_waits}
use Rattle.schedule_laws.proofs.Rows.{runs_where}
use Rattle.schedule_laws.proofs.ActiveJobs.{Active, active_is, active_listed}
use Rattle.schedule_laws.proofs.MeasureLaws.{finish_stays, finish_new, blocking_next}
use Rattle.schedule_laws.specs.Steady.{IsSteady}
use Rattle.schedule_laws.proofs.Alike.{phase_through}
use Rattle.phase_machine.specs.MachineDef.{MachineDef, task_in, under}
use Rattle.phase_machine.specs.Now.{current_now}
use Rattle.phase_machine.specs.Shows.{Shows}
use Rattle.phase_machine.proofs.Facts.{current_shown, not_current}
use Rattle.phase_machine.proofs.Lawful.{task_listed}
use Rattle.trace_conform.specs.declared.counts.JobCount.{JobCount}
use Rattle.trace_conform.specs.Counts.{count_at, counted_on, CountsTicks, AddsTicks, AreCounts}

-- How far the tick is counted: for the jobs of the tasks before x, and for no other.
pub record CountedBelow (interferes : Trace → ℕ → ℕ → Bool) (m : MachineDef) (rows : ℕ → RowDef) (n x : ℕ)
    (start now : List JobCount) : Type 0
  where
    pub done : (j : ℕ) → task_in m.list.jobs j < x → CountsTicks interferes (under m rows) m.tick n j (count_at start j) (count_at now j)
    pub rest : (j : ℕ) → x ≤ task_in m.list.jobs j → count_at now j ≡ count_at start j

pub none_counted : (interferes : Trace → ℕ → ℕ → Bool) (m : MachineDef) (rows : ℕ → RowDef) (n : ℕ)
    (start : List JobCount) → CountedBelow interferes m rows n 0 start start
none_counted interferes m rows n start = record { done = λ j l. absurd (omega (arith, l)); rest = λ j l. refl }

-- Where the job isn't active, and its count stays, the tick is counted for it.
idle_counted : (interferes : Trace → ℕ → ℕ → Bool) (w : Trace) (t n k : ℕ) (before after : JobCount)
    → (is_active w t k ≡ true → ⊥) → after ≡ before → CountsTicks interferes w t n k before after
idle_counted interferes w t n k before after idle e = record { active = λ h. absurd (idle h); other = λ h. e }

-- Task x has no active job.
pub none_more : (interferes : Trace → ℕ → ℕ → Bool) (m : MachineDef) (rows : ℕ → RowDef) (n x : ℕ)
    (start now : List JobCount) → Shows m rows → current_now m x ≡ None
    → CountedBelow interferes m rows n x start now → CountedBelow interferes m rows n (x + 1) start now
none_more interferes m rows n x start now shows e below = record {
  done = λ k l. elim (cases_lt (task_in m.list.jobs k) x) [
    | inl before ↦ below.done k before
    | inr here ↦
        idle_counted interferes (under m rows) m.tick n k (count_at start k) (count_at now k)
        (not_current m rows x k None shows e (λ (f : None ≡ Some k). cc) (omega (arith, l, here))) (below.rest k here)
  ];
  rest = λ k l. below.rest k (omega (arith, l));
}

-- Task x has one, and it was counted.
pub one_more : (interferes : Trace → ℕ → ℕ → Bool) (m : MachineDef) (rows : ℕ → RowDef) (n x j : ℕ)
    (start now next : List JobCount) → Shows m rows → x < length m.list.set.tasks → current_now m x ≡ Some j
    → CountedBelow interferes m rows n x start now
    → count_at next j ≡ counted_on (is_blocked interferes (under m rows) m.tick j) m.tick n (count_at now j)
    → ((k : ℕ) → (k ≡ j → ⊥) → count_at next k ≡ count_at now k)
    → CountedBelow interferes m rows n (x + 1) start next
one_more interferes m rows n x j start now next shows listed e below own others = record { done = done; rest = rest } where
  current : (is_active (under m rows) m.tick j ≡ true) × (task_in m.list.jobs j ≡ x)
  current = current_shown m rows x j shows listed e

  its_own : CountsTicks interferes (under m rows) m.tick n j (count_at start j) (count_at next j)
  its_own = record {
    active = λ h. own ∙ ap (counted_on (is_blocked interferes (under m rows) m.tick j) m.tick n) (below.rest j (omega (arith, current.1)));
    other = λ h. absurd (both_ways _ h current.0);
  }

  kept : (k : ℕ) → (k ≡ j → ⊥) → CountsTicks interferes (under m rows) m.tick n k (count_at start k) (count_at now k)
      → CountsTicks interferes (under m rows) m.tick n k (count_at start k) (count_at next k)
  kept k other c = record { active = λ h. others k other ∙ c.active h; other = λ h. others k other ∙ c.other h }

  done : (k : ℕ) → task_in m.list.jobs k < x + 1 → CountsTicks interferes (under m rows) m.tick n k (count_at start k) (count_at next k)
  done k l = elim (cases_eq k j) [
    | inl same ↦ subst (λ (k : ℕ). CountsTicks interferes (under m rows) m.tick n k (count_at start k) (count_at next k)) (sym same) its_own
    | inr other ↦ elim (cases_lt (task_in m.list.jobs k) x) [
      | inl before ↦ kept k other (below.done k before)
      | inr here ↦
          idle_counted interferes (under m rows) m.tick n k (count_at start k) (count_at next k)
          (not_current m rows x k (Some j) shows e (λ (f : Some j ≡ Some k). other (cc)) (omega (arith, l, here)))
          (others k other ∙ below.rest k here)
    ]
  ]

  rest : (k : ℕ) → x + 1 ≤ task_in m.list.jobs k → count_at next k ≡ count_at start k
  rest k l = others k (λ (same : k ≡ j). apart k l same) ∙ below.rest k (omega (arith, l)) where
    apart : (k : ℕ) → x + 1 ≤ task_in m.list.jobs k → k ≡ j → ⊥
    apart k l same = let own : task_in m.list.jobs k ≡ x = ap (task_in m.list.jobs) same ∙ current.1 in absurd (omega (arith, l, own))

-- After all tasks the tick is counted.
pub all_counted : (interferes : Trace → ℕ → ℕ → Bool) (m : MachineDef) (rows : ℕ → RowDef) (n x : ℕ)
    (start now : List JobCount) → Shows m rows → length m.list.set.tasks ≤ x
    → length now ≡ length start → CountedBelow interferes m rows n x start now → AddsTicks interferes (under m rows) m.tick n start now
all_counted interferes m rows n x start now shows e size below = record { size = size; each = each } where
  each : (j : ℕ) → CountsTicks interferes (under m rows) m.tick n j (count_at start j) (count_at now j)
  each j = elim (cases_lt (task_in m.list.jobs j) x) [
    | inl before ↦ below.done j before
    | inr past ↦ idle_counted interferes (under m rows) m.tick n j (count_at start j) (count_at now j) (idle past) (below.rest j past)
  ] where
    idle : x ≤ task_in m.list.jobs j → is_active (under m rows) m.tick j ≡ true → ⊥
    idle past h =
        let l : task_in m.list.jobs j < length m.list.set.tasks =
        task_listed m.list j shows.machine.lawful (active_listed (under m rows) m.tick j h) in
        absurd (omega (arith, past, l, e))

-- A job that isn't active isn't blocked, and doesn't run in a row that can be taken.
idle_unblocked : (interferes : Trace → ℕ → ℕ → Bool) (w : Trace) (t j : ℕ) → is_active w t j ≡ false → is_blocked interferes w t j ≡ false
unfolding is_blocked is_delayed
idle_unblocked interferes w t j h = rw h refl

idle_waits : (w : Trace) (t j : ℕ) → CanBeTaken w t → is_active w t j ≡ false → runs_in (w.row t) j ≡ false
idle_waits w t j can h = elim (cases_Bool (runs_in (w.row t) j)) [
  | inr waits ↦ waits
  | inl runs ↦ let at : (k : ℕ) × _ = runs_where (w.row t) j runs in absurd (both_ways _ h (can.active at.0 j at.1))
]

-- Where a job is blocked at each of the ticks as at the first, it is blocked at all or at none.
blocking_on : (interferes : Trace → ℕ → ℕ → Bool) (w : Trace) (t n j : ℕ)
    → ((i : ℕ) → i < n → is_blocked interferes w (t + i) j ≡ is_blocked interferes w t j)
    → blocking_of interferes w (t + n) j ≡ blocking_of interferes w t j + only_if (is_blocked interferes w t j) n
blocking_on interferes w t zero j same =
    let here : t + 0 ≡ t = omega arith in
    omega (arith, ap (λ u. blocking_of interferes w u j) here, only_if-nothing (is_blocked interferes w t j))
blocking_on interferes w t (suc n) j same =
    let next : t + suc n ≡ suc (t + n) = omega arith in
    omega (
      arith,
      ap (λ u. blocking_of interferes w u j) next,
      blocking_next interferes w (t + n) j,
      ap flag (same n (omega arith)),
      blocking_on interferes w t n j (λ i l. same i (omega (arith, l))),
      more (is_blocked interferes w t j),
    ) where
      more : (b : Bool) → only_if b (suc n) ≡ only_if b n + flag b
      more true = omega arith
      more false = refl

-- What the counts say after the ticks.
pub counts_on : (interferes : Trace → ℕ → ℕ → Bool) (w : Trace) (t n : ℕ) (before after : List JobCount) → 1 ≤ n
    → CanBeTaken w t → IsSteady w t n
    → ((i j : ℕ) → i < n → is_blocked interferes w (t + i) j ≡ is_blocked interferes w t j)
    → AreCounts interferes w t before → AddsTicks interferes w t n before after
    → AreCounts interferes w (t + n) after
unfolding has_finished
counts_on interferes w t zero before after some can steady same counts adds = absurd (omega (arith, some))
counts_on interferes w t (suc n) before after some can steady same counts adds =
    record { size = adds.size ∙ counts.size; blocked = blocked; end = ends }
  where
    next : t + suc n ≡ suc (t + n)
    next = omega arith

    last : n < suc n
    last = omega arith

    blocked : (j : ℕ) → j < length w.jobs → (count_at after j).blocked ≡ blocking_of interferes w (t + suc n) j
    blocked j l = elim (cases_Bool (is_active w t j)) [
      | inl active ↦
          ap (λ c. c.blocked) ((adds.each j).active active)
          ∙ ap (λ k. k + only_if (is_blocked interferes w t j) (suc n)) (counts.blocked j l)
          ∙ sym (blocking_on interferes w t (suc n) j (λ i b. same i j b))
      | inr idle ↦
          let none : only_if (is_blocked interferes w t j) (suc n) ≡ 0 =
          ap (λ b. only_if b (suc n)) (idle_unblocked interferes w t j idle) in
          let kept : (count_at after j).blocked ≡ (count_at before j).blocked = ap (λ c. c.blocked) ((adds.each j).other idle) in
          omega (arith, none, kept, counts.blocked j l, blocking_on interferes w t (suc n) j (λ i b. same i j b))
    ]

    waits : (j : ℕ) → is_active w t j ≡ false → runs_in (w.row (t + n)) j ≡ false
    waits j idle = ap (λ row. runs_in row j) (steady.rows n last) ∙ idle_waits w t j can idle

    new_end : (j : ℕ) → has_finished w (suc (t + n)) j ≡ true → has_finished w t j ≡ false
        → (count_at after j).end ≡ finish_of w (suc (t + n)) j
    new_end j h before_it = elim (cases_Bool (is_active w t j)) [
      | inl active ↦
          let e : (count_at after j).end ≡ t + suc n = ap (λ c. c.end) ((adds.each j).active active) in
          let open_still : has_finished w (t + n) j ≡ false = ap is_finished (phase_through w t (suc n) n j steady last) ∙ before_it in
          omega (arith, e, finish_new w (t + n) j open_still)
      | inr idle ↦
          let still : is_finished (phase_of w (suc (t + n)) j) ≡ is_finished (phase_of w t j) =
          ap is_finished (phase_waits w (t + n) j (waits j idle) ∙ phase_through w t (suc n) n j steady last) in
          absurd (both_ways _ before_it (sym still ∙ h))
    ]

    finished_idle : (j : ℕ) → has_finished w t j ≡ true → is_active w t j ≡ false
    finished_idle j h = elim (cases_Bool (is_active w t j)) [
      | inr idle ↦ idle
      | inl active ↦ let a : Active w t j = active_is w t j active in absurd (both_ways _ a.unfinished h)
    ]

    ends : (j : ℕ) → j < length w.jobs → has_finished w (t + suc n) j ≡ true → (count_at after j).end ≡ finish_of w (t + suc n) j
    ends j l h = elim (cases_Bool (has_finished w t j)) [
      | inl old ↦
          let stays : finish_of w (t + suc n) j ≡ finish_of w t j = finish_stays w t (t + suc n) j (omega arith) old in
          ap (λ c. c.end) ((adds.each j).other (finished_idle j old)) ∙ counts.end j l old ∙ sym stays
      | inr new ↦ new_end j (subst (λ u. has_finished w u j ≡ true) next h) new ∙ ap (λ u. finish_of w u j) (sym next)
    ]
