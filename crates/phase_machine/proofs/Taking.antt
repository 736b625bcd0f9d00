-- A machine that takes a row, and one that takes none yet.
use Rattle.std.proofs.Common.{◌≡◌, ℕ, zero, suc, ◌+◌, ◌<◌, ◌≤◌, true, false, List, length, get_or, take, replicate}
use Rattle.std.proofs.Common.{refl, sym, ap, subst, ◌∙◌, arith, inl, inr, Option, Some, None}
use Rattle.std.specs.List.{list_any}
use Rattle.std.proofs.lemmas.List.{length-replicate}
use Rattle.std.proofs.lemmas.Bool.{cases_lt, cases_eq, cases_Bool, false_from_ne_true}
use Rattle.sporadic_model.specs.Accepted.{TaskNumbers}
use Rattle.schedule_model.specs.JobDef.{JobsDef, job_of, segment_ticks, total_ticks}
use Rattle.schedule_model.specs.LawfulJobs.{AreLawfulJobs}
use Rattle.schedule_model.specs.RowDef.{RowDef, is_job, running_on, holder_in, held_before, runs_in}
use Rattle.schedule_model.specs.Phase.{executed}
use Rattle.schedule_laws.proofs.Rows.{runs_from, runs_where}
use Rattle.schedule_laws.proofs.Ticks.{executed_none}
use Rattle.phase_machine.specs.declared.place.ScriptPlace.{ScriptPlace}
use Rattle.phase_machine.specs.MachineDef.{MachineDef, IsMachine, IsPlace, IsNext, IsComing, place_of, coming_of}
use Rattle.phase_machine.specs.MachineDef.{task_in, segment_in, no_place, under}
use Rattle.phase_machine.specs.Now.{current_now, active_now}
use Rattle.phase_machine.specs.Shows.{Shows, ShowsPlace, ArePlacesAtFirst}
use Rattle.phase_machine.specs.Taking.{CanTake}
use Rattle.phase_machine.specs.Steps.{MovesTo, ArePlaces, AreCurrent}
use Rattle.phase_machine.specs.Stretch.{left_at, left_now, IsQuiet}
use Rattle.phase_machine.specs.Given.{RunFromPlaces}
use Rattle.phase_machine.proofs.Lawful.{script_of, script_some, local_some, task_listed}
use Rattle.phase_machine.proofs.Facts.{active_current, current_some}
use Rattle.phase_machine.proofs.Placing.{stepped_place}
use Rattle.phase_machine.proofs.GoingOn.{GoesOn, left_some, stayed_on, stepped_on}

-- The places of a machine.
places_kept : (m : MachineDef) → IsMachine m → ArePlaces m.list m.places
places_kept m machine = record { size = machine.places_length; each = machine.place }

-- An active job is the one at its task's place.
pub active_place : (m : MachineDef) (j : ℕ) → active_now m j ≡ true → (place_of m (task_in m.list.jobs j)).job ≡ j
unfolding current_now
active_place m j h = (current_some m.list.jobs m.tick (place_of m (task_in m.list.jobs j)) j (active_current m j h)).0

-- The running jobs of a row that the machine can take.
row_current : (m : MachineDef) (row : RowDef) → CanTake m row → AreCurrent m.list.jobs m.places row.running
row_current m row can = record {
  listed = λ c j e. can.fits.running (suc c) j e;
  current = λ c j e. active_place m j (can.active (suc c) j e);
  one_column = λ c d j e f. same c d (can.one_column (suc c) (suc d) j e f);
} where
  same : (c d : ℕ) → suc c ≡ suc d → c ≡ d
  same c d e = omega arith

-- So they run from the places.
pub row_from_places : (m : MachineDef) (row : RowDef) → IsMachine m → CanTake m row → RunFromPlaces m.list m.places row.running
row_from_places m row machine can = record { places = places_kept m machine; running = row_current m row can }

-- What a machine is after it took a row a number of times.
pub record Took (m : MachineDef) (row : RowDef) (more : ℕ) (n : MachineDef) : Type 0 where
  pub list : n.list ≡ m.list
  pub tick : n.tick ≡ m.tick + more
  pub holders : n.holders ≡ row.holders
  pub size : length n.places ≡ length m.places
  pub moved : (x : ℕ) → x < length m.list.set.tasks
      → MovesTo m.list.jobs (m.tick + more) more row.running x (get_or m.places x no_place) (get_or n.places x no_place)
  pub coming_size : length n.coming ≡ length m.coming
  pub coming : (x : ℕ) → x < length m.list.set.tasks → IsComing m.list.jobs (m.tick + more) x (get_or n.coming x 0)

-- From the parts that the machine's fields were made of.
pub took_from : (m : MachineDef) (row : RowDef) (more : ℕ) (old moved kept : List ScriptPlace) (before come held : List ℕ)
    (running holders : List (Option ℕ))
    → kept ≡ moved → old ≡ m.places → running ≡ row.running → holders ≡ row.holders → held ≡ come → before ≡ m.coming
    → length moved ≡ length old
    → ((x : ℕ) → x < length m.list.set.tasks
    → MovesTo m.list.jobs (m.tick + more) more running x (get_or old x no_place) (get_or moved x no_place))
    → length come ≡ length before → ((x : ℕ) → x < length m.list.set.tasks → IsComing m.list.jobs (m.tick + more) x (get_or come x 0))
    → Took m row more (record { list = m.list; tick = m.tick + more; places = kept; holders = holders; coming = held })
took_from m row more old moved kept before come held running holders a b c d e f size moves coming_size coming = record {
  list = refl;
  tick = refl;
  holders = d;
  size = rw (a, ← b) size;
  moved = λ x l. rw (a, ← b, ← c) (moves x l);
  coming_size = rw (e, ← f) coming_size;
  coming = λ x l. rw e (coming x l);
}

-- A place whose job runs is one of a listed job.
pub runs_listed : (m : MachineDef) (row : RowDef) (j : ℕ) → CanTake m row → runs_in row j ≡ true
    → (j < length m.list.jobs) × ((place_of m (task_in m.list.jobs j)).job ≡ j)
runs_listed m row j can h = at (runs_where row j h) where
  at : (k : ℕ) × (running_on row k ≡ Some j) → (j < length m.list.jobs) × ((place_of m (task_in m.list.jobs j)).job ≡ j)
  at (k, e) = (can.fits.running k j e, active_place m j (can.active k j e))

-- Its task's place is one.
taken_place : (m : MachineDef) (row : RowDef) (more : ℕ) (n : MachineDef) (x : ℕ) → IsMachine m → CanTake m row
    → Took m row more n → x < length m.list.set.tasks
    → IsPlace m.list.jobs x (get_or n.places x no_place)
unfolding runs_in
taken_place m row more n x machine can took l =
    let p : ScriptPlace = place_of m x in
    let moves : MovesTo m.list.jobs (m.tick + more) more row.running x p (get_or n.places x no_place) = took.moved x l in
    elim (cases_Bool (list_any (is_job p.job) row.running)) [
      | inl runs ↦ stepped_place m.list (m.tick + more) more x p (get_or n.places x no_place) machine.lawful
          (runs_listed m row p.job can runs).0 (machine.place x l) (moves.runs runs)
      | inr waits ↦ rw (moves.stays waits) (machine.place x l)
    ]

-- A machine with these parts is the one.
rebuilt : (n : MachineDef) (P : MachineDef → Type 0) (list : JobsDef) (tick : ℕ) → n.list ≡ list → n.tick ≡ tick
    → P (record { list = list; tick = tick; places = n.places; holders = n.holders; coming = n.coming }) → P n
rebuilt n P list tick e f h =
    let one : P (record { list = n.list; tick = tick; places = n.places; holders = n.holders; coming = n.coming }) =
    subst (λ l. P (record { list = l; tick = tick; places = n.places; holders = n.holders; coming = n.coming })) (sym e) h in
    subst (λ t. P (record { list = n.list; tick = t; places = n.places; holders = n.holders; coming = n.coming })) (sym f) one

-- The machine stays one.
kept_after : (m : MachineDef) (row : RowDef) (more : ℕ) (n : MachineDef) → IsMachine m → CanTake m row → Took m row more n
    → IsMachine (record { list = m.list; tick = m.tick + more; places = n.places; holders = n.holders; coming = n.coming })
kept_after m row more n machine can took = record {
  lawful = machine.lawful;
  numbers = machine.numbers;
  places_length = took.size ∙ machine.places_length;
  holders_length = ap (λ (holders : List (Option ℕ)). length holders) took.holders ∙ can.fits.sized.resources;
  coming_length = took.coming_size ∙ machine.coming_length;
  place = λ x l. taken_place m row more n x machine can took l;
  coming = λ x l. took.coming x l;
  named = λ q j e. can.fits.holders q j (sym (ap (λ holders. get_or holders q None) took.holders) ∙ e);
}

pub taken_machine : (m : MachineDef) (row : RowDef) (more : ℕ) (n : MachineDef) → IsMachine m → CanTake m row
    → Took m row more n → IsMachine n
taken_machine m row more n machine can took =
    rebuilt n IsMachine m.list (m.tick + more) took.list took.tick (kept_after m row more n machine can took)

-- Of a task's jobs the one at its place alone runs.
others_wait : (m : MachineDef) (row : RowDef) (x e : ℕ) → CanTake m row → task_in m.list.jobs e ≡ x
    → (e ≡ (place_of m x).job → ⊥) → runs_in row e ≡ false
others_wait m row x e can same other = false_from_ne_true (runs_in row e) (λ h. other (own h)) where
  own : runs_in row e ≡ true → e ≡ (place_of m x).job
  own h = sym (runs_listed m row e can h).1 ∙ ap (λ y. (place_of m y).job) same

-- What is left of the phase of a place's job that runs is at most what the machine takes before something changes.
pub left_enough : (m : MachineDef) (row : RowDef) (more x : ℕ) → IsMachine m → CanTake m row → IsQuiet m row more
    → x < length m.list.set.tasks → runs_in row (place_of m x).job ≡ true
    → more ≤ left_at m.list.jobs (place_of m x)
unfolding left_now
left_enough m row more x machine can quiet l runs = elim (cases_lt (left_at m.list.jobs (place_of m x)) more) [
  | inr most ↦ most
  | inl less ↦ absurd (quiet (left_at m.list.jobs (place_of m x)) some less (inl ((place_of m x).job, runs, own)))
] where
  listed : (place_of m x).job < length m.list.jobs
  listed = (runs_listed m row (place_of m x).job can runs).0

  place : IsPlace m.list.jobs x (place_of m x)
  place = machine.place x l

  some : 0 < left_at m.list.jobs (place_of m x)
  some = left_some (segment_in m.list.jobs (place_of m x).job (place_of m x).segment) (place_of m x).ticks (place.ticks listed)

  own : left_at m.list.jobs (place_of m (task_in m.list.jobs (place_of m x).job)) ≡ left_at m.list.jobs (place_of m x)
  own = ap (λ y. left_at m.list.jobs (place_of m y)) (place.own listed)

-- A task's place whose job runs in rows from the machine's tick on.
pub goes_on : (m : MachineDef) (rows : ℕ → RowDef) (row : RowDef) (more x : ℕ) → Shows m rows → CanTake m row
    → IsQuiet m row more → ((i : ℕ) → i < more → rows (m.tick + i) ≡ row)
    → x < length m.list.set.tasks → runs_in row (place_of m x).job ≡ true → GoesOn (under m rows) m.tick x (place_of m x) more
goes_on m rows row more x shows can quiet same l runs = record {
  lawful = shows.machine.lawful;
  listed = (runs_listed m row (place_of m x).job can runs).0;
  place = shows.machine.place x l;
  shows = shows.places x l;
  runs = λ i b. ap (λ r. runs_in r (place_of m x).job) (same i b) ∙ runs;
  others = λ i e b own other. ap (λ r. runs_in r e) (same i b) ∙ others_wait m row x e can own other;
  left = left_enough m row more x shows.machine can quiet l runs;
}

idle : (m : MachineDef) (row : RowDef) (x e : ℕ) → CanTake m row → runs_in row (place_of m x).job ≡ false
    → task_in m.list.jobs e ≡ x → runs_in row e ≡ false
idle m row x e can waits same = elim (cases_eq e (place_of m x).job) [
  | inl own ↦ rw own waits
  | inr other ↦ others_wait m row x e can same other
]

-- A task's place shows the schedule after the rows.
taken_shows_place : (m : MachineDef) (rows : ℕ → RowDef) (row : RowDef) (more : ℕ) (n : MachineDef) (x : ℕ)
    → Shows m rows → CanTake m row → IsQuiet m row more → 1 ≤ more
    → Took m row more n → ((i : ℕ) → i < more → rows (m.tick + i) ≡ row) → x < length m.list.set.tasks
    → ShowsPlace (under m rows) (m.tick + more) x (get_or n.places x no_place)
unfolding runs_in
taken_shows_place m rows row more n x shows can quiet some took same l =
    let p : ScriptPlace = place_of m x in
    let moves : MovesTo m.list.jobs (m.tick + more) more row.running x p (get_or n.places x no_place) = took.moved x l in
    elim (cases_Bool (runs_in row p.job)) [
      | inl runs ↦ stepped_on (under m rows) m.tick x p (get_or n.places x no_place) more some
          (goes_on m rows row more x shows can quiet same l runs) (moves.runs runs)
      | inr waits ↦ rw (moves.stays waits) (stayed_on (under m rows) m.tick x p more (shows.machine.place x l)
          (λ i e b own. ap (λ r. runs_in r e) (same i b) ∙ idle m row x e can waits own) (shows.places x l))
    ]

-- The holders are those of the row.
held_after : (m : MachineDef) (rows : ℕ → RowDef) (row : RowDef) (more q : ℕ) → 1 ≤ more
    → ((i : ℕ) → i < more → rows (m.tick + i) ≡ row) → holder_in row q ≡ held_before (under m rows) (m.tick + more) q
held_after m rows row zero q some same = absurd (omega (arith, some))
held_after m rows row (suc k) q some same =
    let next : suc (m.tick + k) ≡ m.tick + suc k = omega arith in
    ap (λ r. holder_in r q) (sym (same k (omega arith))) ∙ ap (λ u. held_before (under m rows) u q) next

shown_after : (m : MachineDef) (rows : ℕ → RowDef) (row : RowDef) (more : ℕ) (n : MachineDef) → Shows m rows
    → CanTake m row → IsQuiet m row more → 1 ≤ more → Took m row more n
    → ((i : ℕ) → i < more → rows (m.tick + i) ≡ row) → Shows
    (record { list = m.list; tick = m.tick + more; places = n.places; holders = n.holders; coming = n.coming }) rows
shown_after m rows row more n shows can quiet some took same = record {
  machine = kept_after m row more n shows.machine can took;
  places = λ x l. taken_shows_place m rows row more n x shows can quiet some took same l;
  holders = λ q. ap (λ holders. get_or holders q None) took.holders ∙ held_after m rows row more q some same;
}

-- So it shows each schedule that it showed and that has the row as often from its tick on.
pub taken_shows : (m : MachineDef) (row : RowDef) (more : ℕ) (n : MachineDef) → CanTake m row → IsQuiet m row more
    → 1 ≤ more → Took m row more n → (rows : ℕ → RowDef) → Shows m rows
    → ((i : ℕ) → i < more → rows (m.tick + i) ≡ row) → Shows n rows
taken_shows m row more n can quiet some took rows shows same =
    rebuilt n (λ n. Shows n rows) m.list (m.tick + more) took.list took.tick (shown_after m rows row more n shows can quiet some took same)

-- The running jobs' phases last as long as the machine takes the row.
pub phases_last : (m : MachineDef) (row : RowDef) (more c j : ℕ) → IsMachine m → CanTake m row → IsQuiet m row more
    → get_or row.running c None ≡ Some j
    → more ≤ left_at m.list.jobs (get_or m.places (task_in m.list.jobs j) no_place)
phases_last m row more c j machine can quiet e =
    left_enough m row more (task_in m.list.jobs j) machine can quiet
    (task_listed m.list j machine.lawful (can.fits.running (suc c) j e)) (runs_from row (suc c)
    (place_of m (task_in m.list.jobs j)).job (e ∙ ap (λ k. Some k) (sym (active_place m j (can.active (suc c) j e)))))

no_holder : (n q : ℕ) → get_or {A = Option ℕ} (replicate n None) q None ≡ None
no_holder zero q = refl
no_holder (suc n) zero = refl
no_holder (suc n) (suc q) = no_holder n q

-- At the start of its first job each task has a place.
place_at_first : (list : JobsDef) (x : ℕ) (p : ScriptPlace) → AreLawfulJobs list → IsNext list.jobs x 0 p.job → p.segment ≡ 0
    → p.ticks ≡ 0 → IsPlace list.jobs x p
place_at_first list x p lawful next first none = record {
  most = next.most;
  own = next.own;
  segment = λ l. rw first (script_some (job_of list.jobs p.job).script (script_of list p.job lawful l));
  ticks = λ l. ticks l;
} where
  ticks : p.job < length list.jobs → p.ticks < segment_ticks (segment_in list.jobs p.job p.segment)
  ticks l =
      let some : 0 < (segment_in list.jobs p.job 0).local =
      local_some list p.job 0 lawful l (script_some (job_of list.jobs p.job).script (script_of list p.job lawful l)) in
      let here : segment_ticks (segment_in list.jobs p.job p.segment) ≡ segment_ticks (segment_in list.jobs p.job 0) =
      ap (λ n. segment_ticks (segment_in list.jobs p.job n)) first in
      omega arith

-- So a machine is made.
pub machine_at_first : (m : MachineDef) → m.tick ≡ 0 → AreLawfulJobs m.list
    → ((x : ℕ) → x < length m.list.set.tasks → TaskNumbers m.list.set x)
    → length m.places ≡ length m.list.set.tasks → ArePlacesAtFirst m.list.jobs (length m.list.set.tasks) m.places
    → m.holders ≡ replicate (length m.list.set.resources) None
    → length m.coming ≡ length m.list.set.tasks
    → ((x : ℕ) → x < length m.list.set.tasks → IsComing m.list.jobs 0 x (coming_of m x)) → IsMachine m
machine_at_first m e lawful numbers size places none coming_size coming = record {
  lawful = lawful;
  numbers = numbers;
  places_length = size;
  holders_length = ap (λ (holders : List (Option ℕ)). length holders) none ∙ length-replicate (length m.list.set.resources) None;
  coming_length = coming_size;
  place = λ x l. let first = places x l in place_at_first m.list x (place_of m x) lawful first.0 first.1 first.2;
  coming = λ x l. rw e (coming x l);
  named = λ q j h. absurd (nobody q j h);
} where
  nobody : (q j : ℕ) → get_or m.holders q None ≡ Some j → ⊥
  nobody q j h =
      let x : None ≡ Some j = sym (ap (λ holders. get_or holders q None) none ∙ no_holder (length m.list.set.resources) q) ∙ h in
      cc

-- Before any row a machine shows every schedule.
pub shows_at_first : (m : MachineDef) (rows : ℕ → RowDef) → IsMachine m → m.tick ≡ 0
    → ArePlacesAtFirst m.list.jobs (length m.list.set.tasks) m.places
    → m.holders ≡ replicate (length m.list.set.resources) None → Shows m rows
shows_at_first m rows machine e places none = rebuilt m (λ n. Shows n rows) m.list 0 refl e (record {
  machine = subst
      (λ t. IsMachine (record { list = m.list; tick = t; places = m.places; holders = m.holders; coming = m.coming })) e
      machine;
  places = λ x l. at_first x l;
  holders = λ q. ap (λ holders. get_or holders q None) none ∙ no_holder (length m.list.set.resources) q;
}) where
  at_first : (x : ℕ) → x < length m.list.set.tasks → ShowsPlace (under m rows) 0 x (place_of m x)
  at_first x l =
      let p : ScriptPlace = place_of m x in
      let first = places x l in
      record {
        before = λ e b same. absurd (first.0.first e (omega arith) b same);
        after = λ e b c same. executed_none (under m rows) e;
        stands = λ b. stands b;
        issued = λ b past. absurd (local_past b past);
      } where
        stands : (place_of m x).job < length m.list.jobs → executed (under m rows) 0 (place_of m x).job ≡ total_ticks
            (take (place_of m x).segment (job_of m.list.jobs (place_of m x).job).script) + (place_of m x).ticks
        stands b =
            let zero : total_ticks (take (place_of m x).segment (job_of m.list.jobs (place_of m x).job).script) ≡ 0 =
            ap (λ k. total_ticks (take k (job_of m.list.jobs (place_of m x).job).script)) (places x l).1 in
            omega (arith, executed_none (under m rows) (place_of m x).job, (places x l).2)

        local_past : (place_of m x).job < length m.list.jobs
            → (segment_in m.list.jobs (place_of m x).job (place_of m x).segment).local ≤ (place_of m x).ticks → ⊥
        local_past b past =
            let some : 0 < (segment_in m.list.jobs (place_of m x).job (place_of m x).segment).local = local_some m.list
            (place_of m x).job (place_of m x).segment machine.lawful b ((machine.place x l).segment b) in
            omega (arith, (places x l).2)
