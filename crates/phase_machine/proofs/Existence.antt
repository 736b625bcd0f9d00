-- Each schedule whose rows can be taken is shown by some machine.
use Rattle.std.proofs.Common.{◌≡◌, ◌⊎◌, ℕ, zero, suc, ◌+◌, ◌<◌, ◌≤◌, ◌==◌, ◌&&◌, Bool, List, [], ◌∷◌, ◌++◌, length}
use Rattle.std.proofs.Common.{get_or, replicate, refl, sym, ap, subst, ◌∙◌, arith, add-one, length-append, inl, inr}
use Rattle.std.proofs.Common.{None, leb, cond}
use Rattle.std.specs.List.{list_any}
use Rattle.std.proofs.lemmas.Bool.{cases_lt, cases_Bool, and_parts, and_from, leb-true, le-leb, eqb-true, eq-eqb}
use Rattle.number_laws.specs.Tests.{first_below}
use Rattle.number_laws.proofs.TestLaws.{first_below-at_most, first_below-passes, first_below-least}
use Rattle.sporadic_model.specs.Accepted.{TaskNumbers}
use Rattle.schedule_model.specs.JobDef.{JobDef, JobsDef, job_of, segment_ticks}
use Rattle.schedule_model.specs.LawfulJobs.{AreLawfulJobs}
use Rattle.schedule_model.specs.RowDef.{RowDef, Trace, jobs_of, is_job, runs_in}
use Rattle.schedule_model.specs.TakenRows.{CanBeTakenBefore}
use Rattle.phase_machine.specs.declared.place.ScriptPlace.{ScriptPlace}
use Rattle.phase_machine.specs.MachineDef.{MachineDef, IsNext, IsComing, IsDue, place_of, coming_of, task_in, segment_in, no_place}
use Rattle.phase_machine.specs.Shows.{Shows, Shown, ArePlacesAtFirst}
use Rattle.phase_machine.specs.Taking.{CanTake}
use Rattle.phase_machine.specs.Steps.{StepsTo, MovesTo}
use Rattle.phase_machine.proofs.Coming.{due_later, due_at_first, coming_here, coming_next}
use Rattle.phase_machine.proofs.Facts.{can_take}
use Rattle.phase_machine.proofs.Pushed.{one_pushed}
use Rattle.phase_machine.proofs.Taking.{runs_listed, machine_at_first, shows_at_first, taken_shows}

-- A list with an element for each number below n that has one.
pub listed_each : {A : Type 0} (d : A) (P : ℕ → A → Type 0) (n : ℕ) → ((x : ℕ) → x < n → (a : A) × P x a)
    → (l : List A) × (length l ≡ n) × ((x : ℕ) → x < n → P x (get_or l x d))
listed_each d P zero each = ([], refl, λ x l. absurd (omega arith))
listed_each {A = A} d P (suc n) each =
    let before : (l : List A) × (length l ≡ n) × ((x : ℕ) → x < n → P x (get_or l x d)) = listed_each d P n (λ x l. each x (omega arith)) in
    let last : (a : A) × P n a = each n (omega arith) in (
      before.0 ++ last.0 ∷ [],
      length-append before.0 (last.0 ∷ []) ∙ more n (length before.0) before.1,
      λ x l. one_pushed P before.0 last.0 d n before.1 before.2 last.1 x l,
    ) where
      more : (n k : ℕ) → k ≡ n → k + 1 ≡ suc n
      more n k e = omega arith

-- The task's first job from a number on.
pub next_exists : (jobs : List JobDef) (x from : ℕ) → from ≤ length jobs → (j : ℕ) × IsNext jobs x from j
next_exists jobs x from l = (
  first,
  record {
    from_on = from_on (cases_lt first (length jobs));
    most = first_below-at_most (length jobs) passes;
    own = λ b. eqb-true (task_in jobs first) x
        (and_parts (leb from first) (task_in jobs first == x) (first_below-passes (length jobs) passes b)).1;
    first = λ e a b same. absurd (omega (
      arith,
      first_below-least (length jobs) passes e
          (and_from (leb from e) (task_in jobs e == x) (le-leb from e a) (eq-eqb (task_in jobs e) x same)),
    ));
  },
) where
  passes : ℕ → Bool
  passes e = leb from e && (task_in jobs e == x)

  first : ℕ
  first = first_below (length jobs) passes

  from_on : (first < length jobs) ⊎ (length jobs ≤ first) → from ≤ first
  from_on (inl b) = leb-true from first (and_parts (leb from first) (task_in jobs first == x) (first_below-passes (length jobs) passes b)).0
  from_on (inr past) = omega arith

-- The task's next job to be released, where one is due.
coming_exists : (list : JobsDef) (t x due : ℕ) → AreLawfulJobs list → TaskNumbers list.set x → IsDue list.jobs t x due
    → (j : ℕ) × IsComing list.jobs t x j
coming_exists list t x due lawful numbers is = elim (cases_lt due (length list.jobs)) [
  | inr past ↦ (due, coming_here list.jobs t x due is (λ l. absurd (omega arith)))
  | inl listed ↦ elim (cases_lt t (job_of list.jobs due).release) [
    | inl later ↦ (due, coming_here list.jobs t x due is (λ l. later))
    | inr released ↦
        let next : (j : ℕ) × IsNext list.jobs x (due + 1) j = next_exists list.jobs x (due + 1) (omega arith) in
        (next.0, coming_next list t x due next.0 lawful numbers is listed released next.1)
  ]
]

-- The place after the row.
step_exists : (jobs : List JobDef) (after x : ℕ) (p : ScriptPlace) → p.job < length jobs → (n : ScriptPlace) × StepsTo jobs after 1 x p n
step_exists jobs after x p l = elim (cases_lt (p.ticks + 1) (segment_ticks (segment_in jobs p.job p.segment))) [
  | inl further ↦ (
    record {
      job = p.job;
      segment = p.segment;
      ticks = p.ticks + 1;
      issued = cond (p.ticks + 1 == (segment_in jobs p.job p.segment).local) after p.issued;
    },
    record { further = λ _. refl; next = λ ends. absurd (omega arith); over = λ ends. absurd (omega arith) },
  )
  | inr ends ↦ elim (cases_lt (p.segment + 1) (length (job_of jobs p.job).script)) [
    | inl more ↦ (
      record { job = p.job; segment = p.segment + 1; ticks = 0; issued = p.issued },
      record { further = λ further. absurd (omega arith); next = λ _ _. refl; over = λ _ last. absurd (omega arith) },
    )
    | inr last ↦
        let next : (j : ℕ) × IsNext jobs x (p.job + 1) j = next_exists jobs x (p.job + 1) (omega arith) in (
          record { job = next.0; segment = 0; ticks = 0; issued = p.issued },
          record { further = λ further. absurd (omega arith); next = λ _ more. absurd (omega arith); over = λ _ _. (next.1, refl, refl) },
        )
  ]
]

move_exists : (m : MachineDef) (row : RowDef) (x : ℕ) → CanTake m row
    → (n : ScriptPlace) × MovesTo m.list.jobs (m.tick + 1) 1 row.running x (place_of m x) n
unfolding runs_in
move_exists m row x can = elim (cases_Bool (list_any (is_job (place_of m x).job) row.running)) [
  | inl runs ↦
      let step : (n : ScriptPlace) × StepsTo m.list.jobs (m.tick + 1) 1 x (place_of m x) n =
      step_exists m.list.jobs (m.tick + 1) x (place_of m x) (runs_listed m row (place_of m x).job can runs).0 in
      (step.0, record { runs = λ _. step.1; stays = λ waits. absurd (cc) })
  | inr waits ↦ (place_of m x, record { runs = λ runs. absurd (cc); stays = λ _. refl })
]

-- Before any row.
at_first : (w : Trace) → AreLawfulJobs (jobs_of w) → ((x : ℕ) → x < length w.set.tasks → TaskNumbers w.set x) → Shown w 0
at_first w lawful numbers =
    let places : (l : List ScriptPlace) × (length l ≡ length w.set.tasks) × ArePlacesAtFirst w.jobs (length w.set.tasks) l =
    listed_each no_place (λ x p. IsNext w.jobs x 0 p.job × (p.segment ≡ 0) × (p.ticks ≡ 0)) (length w.set.tasks)
    (λ x l. let next : (j : ℕ) × IsNext w.jobs x 0 j = next_exists w.jobs x 0 (omega arith) in
    (record { job = next.0; segment = 0; ticks = 0; issued = 0 }, (next.1, refl, refl))) in
    let coming : (l : List ℕ) × (length l ≡ length w.set.tasks) × ((x : ℕ) → x < length w.set.tasks → IsComing w.jobs 0 x (get_or l x 0)) =
    listed_each 0 (λ x j. IsComing w.jobs 0 x j) (length w.set.tasks)
    (λ x l. let next : (j : ℕ) × IsNext w.jobs x 0 j = next_exists w.jobs x 0 (omega arith) in
    coming_exists (jobs_of w) 0 x next.0 lawful (numbers x l) (due_at_first w.jobs x next.0 next.1)) in
    let m : MachineDef = record {
      list = jobs_of w;
      tick = 0;
      places = places.0;
      holders = replicate (length w.set.resources) None;
      coming = coming.0;
    } in
    record {
      places = places.0;
      holders = replicate (length w.set.resources) None;
      coming = coming.0;
      shows = shows_at_first m w.row (machine_at_first m refl lawful numbers places.1 places.2 refl coming.1 coming.2) refl places.2 refl;
    }

-- After one row more.
one_more : (w : Trace) (m : MachineDef) → m.list ≡ jobs_of w → Shows m w.row → CanTake m (w.row m.tick) → Shown w (m.tick + 1)
one_more w m list shows can =
    let places : (l : List ScriptPlace) × (length l ≡ length m.list.set.tasks)
    × ((x : ℕ) → x < length m.list.set.tasks
    → MovesTo m.list.jobs (m.tick + 1) 1 (w.row m.tick).running x (place_of m x) (get_or l x no_place)) =
    listed_each no_place (λ x p. MovesTo m.list.jobs (m.tick + 1) 1 (w.row m.tick).running x (place_of m x) p)
    (length m.list.set.tasks) (λ x l. move_exists m (w.row m.tick) x can) in
    let coming : (l : List ℕ) × (length l ≡ length m.list.set.tasks)
    × ((x : ℕ) → x < length m.list.set.tasks → IsComing m.list.jobs (m.tick + 1) x (get_or l x 0)) =
    listed_each 0 (λ x j. IsComing m.list.jobs (m.tick + 1) x j) (length m.list.set.tasks)
    (λ x l. coming_exists m.list (m.tick + 1) x (coming_of m x) shows.machine.lawful (shows.machine.numbers x l)
    (due_later m.list.jobs m.tick x (coming_of m x) (shows.machine.coming x l))) in
    let n : MachineDef = record {
      list = jobs_of w;
      tick = m.tick + 1;
      places = places.0;
      holders = (w.row m.tick).holders;
      coming = coming.0;
    } in
    record {
      places = places.0;
      holders = (w.row m.tick).holders;
      coming = coming.0;
      shows = taken_shows m (w.row m.tick) 1 n can (λ i some l. absurd (omega (arith, some, l))) (omega arith) (record {
        list = sym list;
        tick = refl;
        holders = refl;
        size = places.1 ∙ sym shows.machine.places_length;
        moved = places.2;
        coming_size = coming.1 ∙ sym shows.machine.coming_length;
        coming = coming.2;
      }) w.row shows (λ i l. ap w.row (omega (arith, l)));
    }

-- So each schedule is shown, as far as its rows can be taken.
pub shown : (w : Trace) (n : ℕ) → AreLawfulJobs (jobs_of w) → ((x : ℕ) → x < length w.set.tasks → TaskNumbers w.set x)
    → CanBeTakenBefore w n → Shown w n
shown w zero lawful numbers taken = at_first w lawful numbers
shown w (suc n) lawful numbers taken =
    let before : Shown w n = shown w n lawful numbers (λ t l. taken t (omega arith)) in
    let m : MachineDef = record { list = jobs_of w; tick = n; places = before.places; holders = before.holders; coming = before.coming } in
    subst (λ t. Shown w t) (add-one n) (one_more w m refl before.shows (can_take m w.row before.shows (taken n (omega arith))))
