-- What a machine answers is what the definitions say of each schedule that it shows.
use Rattle.std.proofs.Common.{◌≡◌, ℕ, ◌+◌, ◌<◌, ◌≤◌, ◌&&◌, ◌||◌, Bool, true, false, List, length, take, refl, sym, ap}
use Rattle.std.proofs.Common.{◌∙◌, arith, inl, inr, Option, Some, None, leb, ltb}
use Rattle.std.proofs.lemmas.Bool.{cases_lt, cases_order, cases_Bool, and_parts, lt-ltb, le-ltb, ltb-true, leb-true}
use Rattle.std.proofs.lemmas.Bool.{le-leb, false_from_ne_true}
use Rattle.schedule_model.specs.JobDef.{JobDef, job_of, segment_ticks, total_ticks}
use Rattle.schedule_model.specs.RowDef.{RowDef, Trace, held_before}
use Rattle.schedule_model.specs.Phase.{Phase, is_local, is_finished, is_asking, executed, phase_of}
use Rattle.schedule_model.specs.Phase.Phase.{Local, Asking, Finished}
use Rattle.schedule_model.specs.Activity.{task_of, is_active, active_job_of, is_requester, issue_tick_of, holds_by}
use Rattle.schedule_model.specs.TakenRows.{CanBeTaken}
use Rattle.schedule_laws.specs.Agreement.{AgreeBefore}
use Rattle.schedule_laws.proofs.Agreement.{executed_agree, phase_agree, issue_agree, held_before_agree}
use Rattle.schedule_laws.proofs.Ticks.{finished_true, finished_executed}
use Rattle.schedule_laws.proofs.ActiveJobs.{Active, active_is, active_from, active_listed, active_job_from, active_job_missing}
use Rattle.schedule_laws.proofs.Rows.{job_named, named_job}
use Rattle.schedule_laws.proofs.DpcpAgreement.{holds_agree}
use Rattle.phase_machine.specs.declared.place.ScriptPlace.{ScriptPlace}
use Rattle.phase_machine.specs.MachineDef.{MachineDef, IsMachine, IsPlace, place_of, task_in, segment_in, under}
use Rattle.phase_machine.specs.Now.{phase_in, phase_at_place, phase_now, current_in, current_now, active_now}
use Rattle.phase_machine.specs.Now.{holder_now, ready_now, waiting_now, requester_now, issued_in, issued_now}
use Rattle.phase_machine.specs.Now.{is_ready_before, is_waiting_before, issue_of}
use Rattle.phase_machine.specs.Shows.{Shows, ShowsPlace}
use Rattle.phase_machine.specs.Taking.{CanTake}
use Rattle.phase_machine.proofs.ScriptPlaces.{phase_after, phase_in_local, ticks_left}
use Rattle.phase_machine.proofs.Lawful.{script_of, task_listed, unstarted_local}

-- The phase of a job by its place in order: before the place's job, after it, or that job itself.
pub phase_before_place : (jobs : List JobDef) (j : ℕ) (p : ScriptPlace) → j < p.job → phase_at_place jobs j p ≡ Finished
phase_before_place jobs j p l = rw (lt-ltb j p.job l) refl

pub phase_behind_place : (jobs : List JobDef) (j : ℕ) (p : ScriptPlace) → p.job < j → phase_at_place jobs j p ≡ Local
phase_behind_place jobs j p l = let past : p.job ≤ j = omega arith in rw (le-ltb j p.job past, lt-ltb p.job j l) refl

pub phase_of_place : (jobs : List JobDef) (j : ℕ) (p : ScriptPlace) → p.job ≡ j
    → phase_at_place jobs j p ≡ phase_in p.segment (segment_in jobs p.job p.segment) p.ticks
phase_of_place jobs j p e =
    let a : p.job ≤ j = omega arith in let b : j ≤ p.job = omega arith in rw (le-ltb j p.job a, le-ltb p.job j b) refl

-- The place of a listed job's task, and what it says of the schedule.
pub place_kept : (m : MachineDef) (rows : ℕ → RowDef) (j : ℕ) → Shows m rows → j < length m.list.jobs
    → IsPlace m.list.jobs (task_in m.list.jobs j) (place_of m (task_in m.list.jobs j))
place_kept m rows j shows l = shows.machine.place (task_in m.list.jobs j) (task_listed m.list j shows.machine.lawful l)

pub place_shown : (m : MachineDef) (rows : ℕ → RowDef) (j : ℕ) → Shows m rows → j < length m.list.jobs
    → ShowsPlace (under m rows) m.tick (task_in m.list.jobs j) (place_of m (task_in m.list.jobs j))
place_shown m rows j shows l = shows.places (task_in m.list.jobs j) (task_listed m.list j shows.machine.lawful l)

-- The phase of a job that has executed the segments before number n, and i ticks of that one.
pub phase_standing : (w : Trace) (t j n i : ℕ) → executed w t j ≡ total_ticks (take n (job_of w.jobs j).script) + i
    → n < length (job_of w.jobs j).script
    → i < segment_ticks (segment_in w.jobs j n) → phase_of w t j ≡ phase_in n (segment_in w.jobs j n) i
unfolding phase_of
phase_standing w t j n i stands l h =
    let number : 0 + n ≡ n = omega arith in
    rw stands (phase_after 0 (job_of w.jobs j).script n i l h) ∙ ap (λ k. phase_in k (segment_in w.jobs j n) i) number

-- The phase of a place's own job.
pub own_phase : (w : Trace) (t x : ℕ) (p : ScriptPlace) → ShowsPlace w t x p → IsPlace w.jobs x p → p.job < length w.jobs
    → phase_of w t p.job ≡ phase_in p.segment (segment_in w.jobs p.job p.segment) p.ticks
own_phase w t x p shows place l = phase_standing w t p.job p.segment p.ticks (shows.stands l) (place.segment l) (place.ticks l)

-- It isn't finished.
pub own_unfinished : (w : Trace) (t x : ℕ) (p : ScriptPlace) → ShowsPlace w t x p → IsPlace w.jobs x p → p.job < length w.jobs
    → is_finished (phase_of w t p.job) ≡ false
own_unfinished w t x p shows place l = elim (cases_Bool (is_finished (phase_of w t p.job))) [
  | inr fails ↦ fails
  | inl finished ↦
      let done : total_ticks (job_of w.jobs p.job).script ≤ executed w t p.job = finished_executed w t p.job (finished_true _ finished) in
      let left : total_ticks (take p.segment (job_of w.jobs p.job).script) + p.ticks < total_ticks (job_of w.jobs p.job).script =
      ticks_left (job_of w.jobs p.job).script p.segment p.ticks (place.segment l) (place.ticks l) in
      absurd (omega (arith, shows.stands l))
]

-- Phases.
pub phase_shown : (m : MachineDef) (rows : ℕ → RowDef) (j : ℕ) → Shows m rows → j < length m.list.jobs
    → phase_now m j ≡ phase_of (under m rows) m.tick j
unfolding phase_now
phase_shown m rows j shows l =
    let p : ScriptPlace = place_of m (task_in m.list.jobs j) in
    let s : ShowsPlace (under m rows) m.tick (task_in m.list.jobs j) p = place_shown m rows j shows l in
    let k : IsPlace m.list.jobs (task_in m.list.jobs j) p = place_kept m rows j shows l in
    elim (cases_order p.job j) [
      | inl same ↦
          phase_of_place m.list.jobs j p same
          ∙ sym (own_phase (under m rows) m.tick (task_in m.list.jobs j) p s k (omega arith))
          ∙ ap (phase_of (under m rows) m.tick) same
      | inr other ↦ elim other [
        | inl behind ↦ phase_behind_place m.list.jobs j p behind ∙ sym (unstarted_local (under m rows) m.tick j
            (script_of m.list j shows.machine.lawful l) (s.after j behind l refl))
        | inr before ↦ phase_before_place m.list.jobs j p before ∙ sym (s.before j before refl)
      ]
    ]

-- The place's job is the current one where it is listed and released.
pub current_some : (jobs : List JobDef) (tick : ℕ) (p : ScriptPlace) (j : ℕ) → current_in jobs tick p ≡ Some j
    → (p.job ≡ j) × (p.job < length jobs) × ((job_of jobs p.job).release ≤ tick)
current_some jobs tick p j h = elim (cases_Bool (ltb p.job (length jobs) && leb (job_of jobs p.job).release tick)) [
  | inl passes ↦
      let parts : (ltb p.job (length jobs) ≡ true) × (leb (job_of jobs p.job).release tick ≡ true) = and_parts _ _ passes in
      let e : Some p.job ≡ Some j = rw passes at h in
      (cc, ltb-true _ _ parts.0, leb-true _ _ parts.1)
  | inr fails ↦ let e : None ≡ Some j = rw fails at h in absurd (cc)
]

-- The active job of a task is of that task.
pub current_own : (m : MachineDef) (x j : ℕ) → IsMachine m → x < length m.list.set.tasks → current_now m x ≡ Some j
    → task_in m.list.jobs j ≡ x
unfolding current_now
current_own m x j machine l e =
    let parts : ((place_of m x).job ≡ j) × ((place_of m x).job < length m.list.jobs)
    × ((job_of m.list.jobs (place_of m x).job).release ≤ m.tick) = current_some m.list.jobs m.tick (place_of m x) j e in
    rw (← parts.0) ((machine.place x l).own parts.1)

current_in_from : (jobs : List JobDef) (tick : ℕ) (p : ScriptPlace) (j : ℕ) → p.job ≡ j → j < length jobs
    → (job_of jobs j).release ≤ tick → current_in jobs tick p ≡ Some j
current_in_from jobs tick p j e l r =
    let listed : p.job < length jobs = rw e l in
    let released : (job_of jobs p.job).release ≤ tick = rw e r in
    rw (lt-ltb _ _ listed, le-leb _ _ released) (ap (λ k. Some k) e)

-- The current job of a task is active and of the task.
pub current_shown : (m : MachineDef) (rows : ℕ → RowDef) (x j : ℕ) → Shows m rows → x < length m.list.set.tasks → current_now m x ≡ Some j
    → (is_active (under m rows) m.tick j ≡ true) × (task_of (under m rows) j ≡ x)
unfolding current_now
current_shown m rows x j shows l h =
    let p : ScriptPlace = place_of m x in
    let parts : (p.job ≡ j) × (p.job < length m.list.jobs) × ((job_of m.list.jobs p.job).release ≤ m.tick) =
    current_some m.list.jobs m.tick p j h in
    let s : ShowsPlace (under m rows) m.tick x p = shows.places x l in
    let k : IsPlace m.list.jobs x p = shows.machine.place x l in
    let own : task_in m.list.jobs p.job ≡ x = k.own parts.1 in
    let active : is_active (under m rows) m.tick p.job ≡ true =
    active_from (under m rows) m.tick p.job (record {
      released = parts.2;
      unfinished = own_unfinished (under m rows) m.tick x p s k parts.1;
      next = λ e before same. s.before e before (same ∙ own);
    }) in
    (rw (← parts.0) active, rw (← parts.0) own)

-- An active job is the current one of its task.
pub current_from : (m : MachineDef) (rows : ℕ → RowDef) (j : ℕ) → Shows m rows
    → is_active (under m rows) m.tick j ≡ true → current_now m (task_in m.list.jobs j) ≡ Some j
unfolding current_now
current_from m rows j shows h =
    let l : j < length m.list.jobs = active_listed (under m rows) m.tick j h in
    let a : Active (under m rows) m.tick j = active_is (under m rows) m.tick j h in
    let p : ScriptPlace = place_of m (task_in m.list.jobs j) in
    let s : ShowsPlace (under m rows) m.tick (task_in m.list.jobs j) p = place_shown m rows j shows l in
    let k : IsPlace m.list.jobs (task_in m.list.jobs j) p = place_kept m rows j shows l in
    elim (cases_order p.job j) [
      | inl same ↦ current_in_from m.list.jobs m.tick p j same l a.released
      | inr other ↦ elim other [
        | inl behind ↦
            let listed : p.job < length m.list.jobs = omega arith in
            let done : phase_of (under m rows) m.tick p.job ≡ Finished = a.next p.job behind (k.own listed) in
            let unfinished : is_finished (phase_of (under m rows) m.tick p.job) ≡ false =
            own_unfinished (under m rows) m.tick (task_in m.list.jobs j) p s k listed in
            let finished : is_finished (phase_of (under m rows) m.tick p.job) ≡ true = rw done refl in
            absurd (cc)
        | inr before ↦
            let done : phase_of (under m rows) m.tick j ≡ Finished = s.before j before refl in
            let finished : is_finished (phase_of (under m rows) m.tick j) ≡ true = rw done refl in
            let unfinished : is_finished (phase_of (under m rows) m.tick j) ≡ false = a.unfinished in
            absurd (cc)
      ]
    ]

-- A job of task x that isn't its current one isn't active.
pub not_current : (m : MachineDef) (rows : ℕ → RowDef) (x k : ℕ) (o : Option ℕ) → Shows m rows → current_now m x ≡ o
    → (o ≡ Some k → ⊥) → task_in m.list.jobs k ≡ x → is_active (under m rows) m.tick k ≡ true → ⊥
not_current m rows x k o shows e other own h =
    other (sym e ∙ ap (current_now m) (sym own) ∙ current_from m rows k shows h)

none_active : (m : MachineDef) (rows : ℕ → RowDef) (x j : ℕ) → Shows m rows → current_now m x ≡ None
    → task_of (under m rows) j ≡ x → is_active (under m rows) m.tick j ≡ false
none_active m rows x j shows e own =
    false_from_ne_true (is_active (under m rows) m.tick j) (not_current m rows x j None shows e (λ (f : None ≡ Some j). cc) own)

-- So the current job is the active job of the task.
pub current_is : (m : MachineDef) (rows : ℕ → RowDef) (x : ℕ) → Shows m rows → x < length m.list.set.tasks
    → current_now m x ≡ active_job_of (under m rows) m.tick x
current_is m rows x shows l = go (current_now m x) refl where
  go : (o : Option ℕ) → current_now m x ≡ o → current_now m x ≡ active_job_of (under m rows) m.tick x
  go (Some j) e = let a : (is_active (under m rows) m.tick j ≡ true) × (task_of (under m rows) j ≡ x) =
      current_shown m rows x j shows l e in
      e ∙ sym (active_job_from (under m rows) m.tick x j a.0 a.1)
  go None e = e ∙ sym (active_job_missing (under m rows) m.tick x (λ j own. none_active m rows x j shows e own))

-- A job that the machine calls active is listed, and the current one of its task.
pub active_current : (m : MachineDef) (j : ℕ) → active_now m j ≡ true → current_now m (task_in m.list.jobs j) ≡ Some j
unfolding active_now
active_current m j h = job_named j (current_now m (task_in m.list.jobs j)) h

pub active_now_listed : (m : MachineDef) (j : ℕ) → active_now m j ≡ true → j < length m.list.jobs
unfolding current_now
active_now_listed m j h =
    let parts = current_some m.list.jobs m.tick (place_of m (task_in m.list.jobs j)) j (active_current m j h) in
    omega (arith, parts.0, parts.1)

pub active_true : (m : MachineDef) (rows : ℕ → RowDef) (j : ℕ) → Shows m rows → active_now m j ≡ true → is_active (under m rows) m.tick j ≡ true
active_true m rows j shows h =
    (current_shown m rows (task_in m.list.jobs j) j shows
    (task_listed m.list j shows.machine.lawful (active_now_listed m j h)) (active_current m j h)).0

pub active_back : (m : MachineDef) (rows : ℕ → RowDef) (j : ℕ) → Shows m rows → is_active (under m rows) m.tick j ≡ true → active_now m j ≡ true
unfolding active_now
active_back m rows j shows h = named_job j (current_now m (task_in m.list.jobs j)) (current_from m rows j shows h)

pub same_bool : (a b : Bool) → (a ≡ true → b ≡ true) → (b ≡ true → a ≡ true) → a ≡ b
same_bool true b f g = sym (f refl)
same_bool false true f g = g refl
same_bool false false f g = refl

pub active_shown : (m : MachineDef) (rows : ℕ → RowDef) (j : ℕ) → Shows m rows → active_now m j ≡ is_active (under m rows) m.tick j
active_shown m rows j shows = same_bool (active_now m j) (is_active (under m rows) m.tick j)
    (active_true m rows j shows) (active_back m rows j shows)

-- Two tests that ask for an active job agree where they do for a listed one.
pub same_where_active : (a b : Bool) (c d : Bool) → a ≡ b → (b ≡ true → c ≡ d) → (a && c) ≡ (b && d)
same_where_active a true c d e h = rw e (h refl)
same_where_active a false c d e h = rw e refl

pub requester_shown : (m : MachineDef) (rows : ℕ → RowDef) (q j : ℕ) → Shows m rows
    → requester_now m q j ≡ is_requester (under m rows) m.tick q j
unfolding requester_now is_requester
requester_shown m rows q j shows =
    same_where_active (active_now m j) (is_active (under m rows) m.tick j) (is_asking q (phase_now m j))
    (is_asking q (phase_of (under m rows) m.tick j))
    (active_shown m rows j shows) (λ h. ap (is_asking q) (phase_shown m rows j shows (active_listed (under m rows) m.tick j h)))

-- Holders.
pub holder_shown : (m : MachineDef) (rows : ℕ → RowDef) (q : ℕ) → Shows m rows → holder_now m q ≡ held_before (under m rows) m.tick q
holder_shown m rows q shows = shows.holders q

pub ready_shown : (m : MachineDef) (rows : ℕ → RowDef) (j : ℕ) → Shows m rows → ready_now m j ≡ is_ready_before (under m rows) m.tick j
unfolding ready_now is_ready_before
ready_shown m rows j shows =
    same_where_active (active_now m j) (is_active (under m rows) m.tick j)
    (is_local (phase_now m j) || holds_by (holder_now m) j (phase_now m j))
    (is_local (phase_of (under m rows) m.tick j) || holds_by (held_before (under m rows) m.tick) j (phase_of (under m rows) m.tick j))
    (active_shown m rows j shows)
    (λ h. ap (λ p. is_local p || holds_by (holder_now m) j p) (phase_shown m rows j shows (active_listed (under m rows) m.tick j h))
    ∙ ap (λ b. is_local (phase_of (under m rows) m.tick j) || b)
    (holds_agree (holder_now m) (held_before (under m rows) m.tick) j shows.holders (phase_of (under m rows) m.tick j)))

pub waiting_shown : (m : MachineDef) (rows : ℕ → RowDef) (j : ℕ) → Shows m rows
    → waiting_now m j ≡ is_waiting_before (under m rows) m.tick j
unfolding waiting_now is_waiting_before
waiting_shown m rows j shows = rw (active_shown m rows j shows, ready_shown m rows j shows) refl

-- Issue ticks.
issued_same : (p : Phase) (a b : ℕ) → ((n q : ℕ) → p ≡ Asking n q → a ≡ b) → issued_in p a ≡ issued_in p b
issued_same (Asking n q) a b h = ap (λ k. Some k) (h n q refl)
issued_same Local a b h = refl
issued_same Finished a b h = refl

-- A job in a request is its place's own, past the local ticks of the segment.
asking_own : (jobs : List JobDef) (j : ℕ) (p : ScriptPlace) (n q : ℕ) → phase_at_place jobs j p ≡ Asking n q
    → (p.job ≡ j) × ((segment_in jobs p.job p.segment).local ≤ p.ticks)
asking_own jobs j p n q h = elim (cases_order p.job j) [
  | inl same ↦ elim (cases_lt p.ticks (segment_in jobs p.job p.segment).local) [
    | inl local ↦
        let x : Local ≡ Asking n q = sym (phase_in_local p.segment (segment_in jobs p.job p.segment) p.ticks local)
        ∙ sym (phase_of_place jobs j p same) ∙ h in
        absurd (cc)
    | inr past ↦ (same, past)
  ]
  | inr other ↦ elim other [
    | inl behind ↦ let x : Local ≡ Asking n q = sym (phase_behind_place jobs j p behind) ∙ h in absurd (cc)
    | inr before ↦ let x : Finished ≡ Asking n q = sym (phase_before_place jobs j p before) ∙ h in absurd (cc)
  ]
]

-- The issue tick of a job that is in a request.
pub issue_shown : (m : MachineDef) (rows : ℕ → RowDef) (j n q : ℕ) → Shows m rows → j < length m.list.jobs → phase_now m j ≡ Asking n q
    → (place_of m (task_in m.list.jobs j)).issued ≡ issue_tick_of (under m rows) m.tick j
unfolding phase_now
issue_shown m rows j n q shows l h =
    let p : ScriptPlace = place_of m (task_in m.list.jobs j) in
    let own : (p.job ≡ j) × ((segment_in m.list.jobs p.job p.segment).local ≤ p.ticks) = asking_own m.list.jobs j p n q h in
    let listed : p.job < length m.list.jobs = omega (arith, own.0) in
    (place_shown m rows j shows l).issued listed own.1 ∙ ap (issue_tick_of (under m rows) m.tick) own.0

pub issued_shown : (m : MachineDef) (rows : ℕ → RowDef) (j : ℕ) → Shows m rows → j < length m.list.jobs
    → issued_now m j ≡ issue_of (under m rows) m.tick j
unfolding issued_now issue_of
issued_shown m rows j shows l =
    issued_same (phase_now m j) (place_of m (task_in m.list.jobs j)).issued (issue_tick_of (under m rows) m.tick j)
    (λ n q h. issue_shown m rows j n q shows l h)
    ∙ ap (λ p. issued_in p (issue_tick_of (under m rows) m.tick j)) (phase_shown m rows j shows l)

-- A row can be taken exactly if it is possible at this tick of the schedule.
pub can_take : (m : MachineDef) (rows : ℕ → RowDef) → Shows m rows → CanBeTaken (under m rows) m.tick → CanTake m (rows m.tick)
can_take m rows shows can = record {
  fits = record { sized = can.fits.sized; running = can.fits.running; holders = can.fits.holders };
  active = λ k j e. active_shown m rows j shows ∙ can.active k j e;
  one_column = can.one_column;
}

pub took_can : (m : MachineDef) (rows : ℕ → RowDef) → Shows m rows → CanTake m (rows m.tick) → CanBeTaken (under m rows) m.tick
took_can m rows shows can = record {
  fits = record { sized = can.fits.sized; running = can.fits.running; holders = can.fits.holders };
  active = λ k j e. sym (active_shown m rows j shows) ∙ can.active k j e;
  one_column = can.one_column;
}

-- What a machine shows reads the rows before its tick alone.
pub reads_before : (m : MachineDef) (rows more : ℕ → RowDef) → ((t : ℕ) → t < m.tick → rows t ≡ more t) → Shows m rows → Shows m more
reads_before m rows more same shows = record {
  machine = shows.machine;
  places = λ x l. place x (shows.places x l);
  holders = λ q. shows.holders q ∙ held_before_agree (under m rows) (under m more) m.tick m.tick q agree (omega arith);
} where
  agree : AgreeBefore (under m rows) (under m more) m.tick
  agree = record { set = refl; jobs = refl; rows = same }

  executed_same : (j : ℕ) → executed (under m more) m.tick j ≡ executed (under m rows) m.tick j
  executed_same j = sym (executed_agree (under m rows) (under m more) m.tick m.tick j agree (omega arith))

  place : (x : ℕ) → ShowsPlace (under m rows) m.tick x (place_of m x) → ShowsPlace (under m more) m.tick x (place_of m x)
  place x s = record {
    before = λ e l own. sym (phase_agree (under m rows) (under m more) m.tick m.tick e agree (omega arith)) ∙ s.before e l own;
    after = λ e l b own. executed_same e ∙ s.after e l b own;
    stands = λ l. executed_same (place_of m x).job ∙ s.stands l;
    issued = λ l past. s.issued l past ∙ issue_agree (under m rows) (under m more) m.tick m.tick (place_of m x).job agree (omega arith);
  }
