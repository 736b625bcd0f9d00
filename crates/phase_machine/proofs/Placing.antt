-- How the place of a task moves with a row, and that it still shows the schedule then.
use Rattle.std.proofs.Common.{◌≡◌, ℕ, suc, ◌+◌, ◌<◌, ◌≤◌, ◌==◌, true, false, length, take, refl, sym, ap, ◌∙◌, arith}
use Rattle.std.proofs.Common.{add-one, inl, inr, cond}
use Rattle.std.proofs.lemmas.Bool.{cases_lt, cases_order, cases_eq, eq-eqb, ne_eqb}
use Rattle.schedule_model.specs.JobDef.{JobsDef, job_of, segment_ticks, total_ticks}
use Rattle.schedule_model.specs.LawfulJobs.{AreLawfulJobs}
use Rattle.schedule_model.specs.RowDef.{Trace, runs_in}
use Rattle.schedule_model.specs.Phase.{is_same_request, executed, phase_of}
use Rattle.schedule_model.specs.Phase.Phase.{Local, Asking, Finished}
use Rattle.schedule_model.specs.Activity.{task_of, issue_tick_of}
use Rattle.schedule_laws.proofs.Ticks.{executed_runs, executed_waits, phase_waits, finished_stays, finished_at, same_from}
use Rattle.schedule_laws.proofs.Issues.{issue_kept, issue_new}
use Rattle.phase_machine.specs.declared.place.ScriptPlace.{ScriptPlace}
use Rattle.phase_machine.specs.MachineDef.{IsPlace, IsNext, segment_in}
use Rattle.phase_machine.specs.Now.{phase_in}
use Rattle.phase_machine.specs.Shows.{ShowsPlace}
use Rattle.phase_machine.specs.Steps.{StepsTo}
use Rattle.phase_machine.proofs.ScriptPlaces.{segment_more, script_ends, asking_inside, phase_in_local}
use Rattle.phase_machine.proofs.Lawful.{script_of, script_some, local_some}
use Rattle.phase_machine.proofs.Facts.{own_phase, phase_standing}

-- A place that steps is a place.
pub stepped_place : (list : JobsDef) (after more x : ℕ) (p n : ScriptPlace) → AreLawfulJobs list → p.job < length list.jobs
    → IsPlace list.jobs x p → StepsTo list.jobs after more x p n
    → IsPlace list.jobs x n
stepped_place list after more x p n lawful l place steps =
    elim (cases_lt (p.ticks + more) (segment_ticks (segment_in list.jobs p.job p.segment))) [
      | inl further ↦ rw (steps.further further)
          (record { most = place.most; own = place.own; segment = place.segment; ticks = λ _. further })
      | inr ends ↦ elim (cases_lt (p.segment + 1) (length (job_of list.jobs p.job).script)) [
        | inl next ↦
            let some : 0 < (segment_in list.jobs p.job (p.segment + 1)).local = local_some list p.job (p.segment + 1) lawful l next in
            rw (steps.next ends next) (record { most = place.most; own = place.own; segment = λ _. next; ticks = λ _. omega arith })
        | inr last ↦
            let next = steps.over ends last in
            record {
              most = next.0.most;
              own = next.0.own;
              segment = λ b. rw next.1 (script_some (job_of list.jobs n.job).script (script_of list n.job lawful b));
              ticks = λ b. rw (next.2, next.1) (first_tick b);
            }
      ]
    ] where
      first_tick : n.job < length list.jobs → 0 < segment_ticks (segment_in list.jobs n.job 0)
      first_tick b =
          let some : 0 < (segment_in list.jobs n.job 0).local =
          local_some list n.job 0 lawful b (script_some (job_of list.jobs n.job).script (script_of list n.job lawful b)) in
          omega arith

-- In a row in which no job of the task runs, its place shows the next tick too.
pub stayed_shows : (w : Trace) (t x : ℕ) (p : ScriptPlace) → IsPlace w.jobs x p
    → ((e : ℕ) → task_of w e ≡ x → runs_in (w.row t) e ≡ false) → ShowsPlace w t x p → ShowsPlace w (suc t) x p
stayed_shows w t x p place idle shows = record {
  before = λ e l same. finished_stays w t (suc t) e (omega arith) (shows.before e l same);
  after = λ e l b same. executed_waits w t e (idle e same) ∙ shows.after e l b same;
  stands = λ l. executed_waits w t p.job (idle p.job (place.own l)) ∙ shows.stands l;
  issued = λ l past. shows.issued l past ∙ sym (issue_kept w t p.job (still l past));
} where
  still : (l : p.job < length w.jobs) → (segment_in w.jobs p.job p.segment).local ≤ p.ticks
      → is_same_request (phase_of w t p.job) (phase_of w (suc t) p.job) ≡ true
  still l past =
      let asks : (q : ℕ) × (phase_in p.segment (segment_in w.jobs p.job p.segment) p.ticks ≡ Asking p.segment q) =
      asking_inside p.segment (segment_in w.jobs p.job p.segment) p.ticks past (place.ticks l) in
      let now : phase_of w t p.job ≡ Asking p.segment asks.0 = own_phase w t x p shows place l ∙ asks.1 in
      same_from (phase_of w t p.job) (phase_of w (suc t) p.job) p.segment asks.0 asks.0 now
      (phase_waits w t p.job (idle p.job (place.own l)) ∙ now)

-- A row in which the place's job runs, and no other of the task.
pub record Turn (w : Trace) (t x : ℕ) (p : ScriptPlace) : Type 0 where
  pub lawful : AreLawfulJobs (record { set = w.set; jobs = w.jobs })
  pub listed : p.job < length w.jobs
  pub place : IsPlace w.jobs x p
  pub shows : ShowsPlace w t x p
  pub runs : runs_in (w.row t) p.job ≡ true
  pub others : (e : ℕ) → task_of w e ≡ x → (e ≡ p.job → ⊥) → runs_in (w.row t) e ≡ false

-- The job goes on in its segment, and its request's issue tick is the one that it was, or this one.
further_issued : (w : Trace) (t x : ℕ) (p : ScriptPlace) → Turn w t x p → p.ticks + 1 < segment_ticks (segment_in w.jobs p.job p.segment)
    → executed w (suc t) p.job ≡ total_ticks (take p.segment (job_of w.jobs p.job).script) + (p.ticks + 1)
    → (segment_in w.jobs p.job p.segment).local ≤ p.ticks + 1
    → cond (p.ticks + 1 == (segment_in w.jobs p.job p.segment).local) (suc t) p.issued ≡ issue_tick_of w (suc t) p.job
further_issued w t x p turn further stands past = elim (cases_eq (p.ticks + 1) (segment_in w.jobs p.job p.segment).local) [
  | inl begins ↦
      let local : phase_of w t p.job ≡ Local = own_phase w t x p turn.shows turn.place turn.listed
      ∙ phase_in_local p.segment (segment_in w.jobs p.job p.segment) p.ticks (omega arith) in
      let new : is_same_request (phase_of w t p.job) (phase_of w (suc t) p.job) ≡ false = rw local refl in
      rw (eq-eqb (p.ticks + 1) (segment_in w.jobs p.job p.segment).local begins) (sym (issue_new w t p.job new))
  | inr goes_on ↦
      let before : (segment_in w.jobs p.job p.segment).local ≤ p.ticks = omega arith in
      let asks : (q : ℕ) × (phase_in p.segment (segment_in w.jobs p.job p.segment) p.ticks ≡ Asking p.segment q) =
      asking_inside p.segment (segment_in w.jobs p.job p.segment) p.ticks before (turn.place.ticks turn.listed) in
      let still : (q : ℕ) × (phase_in p.segment (segment_in w.jobs p.job p.segment) (p.ticks + 1) ≡ Asking p.segment q) =
      asking_inside p.segment (segment_in w.jobs p.job p.segment) (p.ticks + 1) past further in
      let same : is_same_request (phase_of w t p.job) (phase_of w (suc t) p.job) ≡ true =
      same_from (phase_of w t p.job) (phase_of w (suc t) p.job) p.segment asks.0 still.0
      (own_phase w t x p turn.shows turn.place turn.listed ∙ asks.1)
      (phase_standing w (suc t) p.job p.segment (p.ticks + 1) stands (turn.place.segment turn.listed) further ∙ still.1) in
      rw (ne_eqb (p.ticks + 1) (segment_in w.jobs p.job p.segment).local goes_on)
      (turn.shows.issued turn.listed before ∙ sym (issue_kept w t p.job same))
]

-- So its place goes on there.
pub further_shows : (w : Trace) (t x : ℕ) (p : ScriptPlace) → Turn w t x p → p.ticks + 1 < segment_ticks (segment_in w.jobs p.job p.segment)
    → ShowsPlace w (suc t) x (record {
      job = p.job;
      segment = p.segment;
      ticks = p.ticks + 1;
      issued = cond (p.ticks + 1 == (segment_in w.jobs p.job p.segment).local) (suc t) p.issued;
    })
further_shows w t x p turn further = record {
  before = λ e l same. finished_stays w t (suc t) e (omega arith) (turn.shows.before e l same);
  after = λ e l b same. executed_waits w t e (turn.others e same (λ is. omega arith)) ∙ turn.shows.after e l b same;
  stands = λ l. more;
  issued = λ l past. further_issued w t x p turn further more past;
} where
  more : executed w (suc t) p.job ≡ total_ticks (take p.segment (job_of w.jobs p.job).script) + (p.ticks + 1)
  more = omega (arith, executed_runs w t p.job turn.runs, turn.shows.stands turn.listed)

-- It comes to its next segment.
next_shows : (w : Trace) (t x : ℕ) (p : ScriptPlace) → Turn w t x p → segment_ticks (segment_in w.jobs p.job p.segment) ≤ p.ticks + 1
    → p.segment + 1 < length (job_of w.jobs p.job).script
    → ShowsPlace w (suc t) x (record { job = p.job; segment = p.segment + 1; ticks = 0; issued = p.issued })
next_shows w t x p turn ends more = record {
  before = λ e l same. finished_stays w t (suc t) e (omega arith) (turn.shows.before e l same);
  after = λ e l b same. executed_waits w t e (turn.others e same (λ is. omega arith)) ∙ turn.shows.after e l b same;
  stands = λ l. stands;
  issued = λ l past. absurd (omega
      (arith, local_some (record { set = w.set; jobs = w.jobs }) p.job (p.segment + 1) turn.lawful turn.listed more));
} where
  stands : executed w (suc t) p.job ≡ total_ticks (take (p.segment + 1) (job_of w.jobs p.job).script) + 0
  stands =
      let one : total_ticks (take (suc p.segment) (job_of w.jobs p.job).script)
      ≡ total_ticks (take p.segment (job_of w.jobs p.job).script) + segment_ticks (segment_in w.jobs p.job p.segment) =
      segment_more (job_of w.jobs p.job).script p.segment (turn.place.segment turn.listed) in
      let number : total_ticks (take (p.segment + 1) (job_of w.jobs p.job).script)
      ≡ total_ticks (take (suc p.segment) (job_of w.jobs p.job).script) =
      ap (λ k. total_ticks (take k (job_of w.jobs p.job).script)) (add-one p.segment) in
      omega (arith, executed_runs w t p.job turn.runs, turn.shows.stands turn.listed, turn.place.ticks turn.listed)

-- It is finished, and the task's next job comes.
over_shows : (w : Trace) (t x : ℕ) (p n : ScriptPlace) → Turn w t x p → segment_ticks (segment_in w.jobs p.job p.segment) ≤ p.ticks + 1
    → length (job_of w.jobs p.job).script ≤ p.segment + 1 → IsNext w.jobs x (p.job + 1) n.job → n.segment ≡ 0
    → n.ticks ≡ 0 → ShowsPlace w (suc t) x n
over_shows w t x p n turn ends last next first none = record {
  before = λ e l same. finished e l same;
  after = λ e l b same. unstarted e (omega (arith, next.from_on)) b same;
  stands = λ l. stands l;
  issued = λ l past. absurd (local_past l past);
} where
  done : phase_of w (suc t) p.job ≡ Finished
  done =
      let total : total_ticks (job_of w.jobs p.job).script
      ≡ total_ticks (take p.segment (job_of w.jobs p.job).script) + segment_ticks (segment_in w.jobs p.job p.segment) =
      script_ends (job_of w.jobs p.job).script p.segment (turn.place.segment turn.listed) (omega arith) in
      finished_at w (suc t) p.job (omega (arith, executed_runs w t p.job turn.runs, turn.shows.stands turn.listed))

  finished : (e : ℕ) → e < n.job → task_of w e ≡ x → phase_of w (suc t) e ≡ Finished
  finished e l same = elim (cases_order e p.job) [
    | inl own ↦ rw own done
    | inr other ↦ elim other [
      | inl before ↦ finished_stays w t (suc t) e (omega arith) (turn.shows.before e before same)
      | inr behind ↦ absurd (next.first e (omega arith) l same)
    ]
  ]

  unstarted : (e : ℕ) → p.job < e → e < length w.jobs → task_of w e ≡ x → executed w (suc t) e ≡ 0
  unstarted e l b same = executed_waits w t e (turn.others e same (λ is. omega arith)) ∙ turn.shows.after e l b same

  stands : n.job < length w.jobs → executed w (suc t) n.job ≡ total_ticks (take n.segment (job_of w.jobs n.job).script) + n.ticks
  stands l =
      let zero : total_ticks (take n.segment (job_of w.jobs n.job).script) ≡ 0 =
      ap (λ k. total_ticks (take k (job_of w.jobs n.job).script)) first in
      omega (arith, unstarted n.job (omega (arith, next.from_on)) l (next.own l))

  local_past : n.job < length w.jobs → (segment_in w.jobs n.job n.segment).local ≤ n.ticks → ⊥
  local_past l past =
      let some : 0 < (segment_in w.jobs n.job 0).local =
      local_some (record { set = w.set; jobs = w.jobs }) n.job 0 turn.lawful l (script_some (job_of w.jobs n.job).script
      (script_of (record { set = w.set; jobs = w.jobs }) n.job turn.lawful l)) in
      let here : (segment_in w.jobs n.job n.segment).local ≡ (segment_in w.jobs n.job 0).local =
      ap (λ k. (segment_in w.jobs n.job k).local) first in
      omega arith

-- After a row in which its job runs, the stepped place shows the schedule.
pub stepped_shows : (w : Trace) (t x : ℕ) (p n : ScriptPlace) → Turn w t x p → StepsTo w.jobs (suc t) 1 x p n → ShowsPlace w (suc t) x n
stepped_shows w t x p n turn steps = elim (cases_lt (p.ticks + 1) (segment_ticks (segment_in w.jobs p.job p.segment))) [
  | inl further ↦ rw (steps.further further) (further_shows w t x p turn further)
  | inr ends ↦ elim (cases_lt (p.segment + 1) (length (job_of w.jobs p.job).script)) [
    | inl more ↦ rw (steps.next ends more) (next_shows w t x p turn ends more)
    | inr last ↦ let next = steps.over ends last in over_shows w t x p n turn ends last next.0 next.1 next.2
  ]
]
