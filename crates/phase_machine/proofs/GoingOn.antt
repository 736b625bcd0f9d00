-- A place through rows in which its job goes on inside one phase, or waits.
use Rattle.std.proofs.Common.{◌≡◌, ℕ, zero, suc, ◌+◌, ◌-◌, ◌<◌, ◌≤◌, ◌==◌, true, false, List, length, refl, sym, ap}
use Rattle.std.proofs.Common.{◌∙◌, subst, arith, inl, inr, cond}
use Rattle.std.proofs.lemmas.Bool.{cases_lt, lt-ltb, le-ltb, ne_eqb}
use Rattle.schedule_model.specs.JobDef.{SegmentDef, JobDef, segment_ticks}
use Rattle.schedule_model.specs.LawfulJobs.{AreLawfulJobs}
use Rattle.schedule_model.specs.RowDef.{Trace, runs_in}
use Rattle.schedule_model.specs.Phase.{phase_of}
use Rattle.schedule_model.specs.Activity.{task_of}
use Rattle.phase_machine.specs.declared.place.ScriptPlace.{ScriptPlace}
use Rattle.phase_machine.specs.MachineDef.{IsPlace, segment_in}
use Rattle.phase_machine.specs.Now.{phase_in}
use Rattle.phase_machine.specs.Shows.{ShowsPlace}
use Rattle.phase_machine.specs.Steps.{StepsTo}
use Rattle.phase_machine.specs.Stretch.{left_in, left_at}
use Rattle.phase_machine.proofs.ScriptPlaces.{phase_in_local, phase_in_request}
use Rattle.phase_machine.proofs.Facts.{own_phase}
use Rattle.phase_machine.proofs.Placing.{Turn, stayed_shows, further_shows, stepped_shows}

-- What is left of a phase: of the local ticks before they are done, else of the segment's.
pub left_local : (s : SegmentDef) (ticks : ℕ) → ticks < s.local → left_in s ticks ≡ s.local - ticks
left_local s ticks l = rw (lt-ltb ticks s.local l) refl

pub left_request : (s : SegmentDef) (ticks : ℕ) → s.local ≤ ticks → left_in s ticks ≡ segment_ticks s - ticks
left_request s ticks l = rw (le-ltb ticks s.local l) refl

pub left_some : (s : SegmentDef) (ticks : ℕ) → ticks < segment_ticks s → 0 < left_in s ticks
left_some s ticks l = elim (cases_lt ticks s.local) [
  | inl local ↦ omega (arith, left_local s ticks local, local)
  | inr request ↦ omega (arith, left_request s ticks request, l)
]

-- It ends within the segment.
pub left_within : (s : SegmentDef) (ticks : ℕ) → ticks < segment_ticks s → ticks + left_in s ticks ≤ segment_ticks s
left_within s ticks l = elim (cases_lt ticks s.local) [
  | inl local ↦ omega (arith, left_local s ticks local, local)
  | inr request ↦ omega (arith, left_request s ticks request, l)
]

-- Before it is over the phase is the same, and no request begins.
pub same_phase : (n : ℕ) (s : SegmentDef) (ticks i : ℕ) → i < left_in s ticks → phase_in n s (ticks + i) ≡ phase_in n s ticks
same_phase n s ticks i l = elim (cases_lt ticks s.local) [
  | inl local ↦ phase_in_local n s (ticks + i) (omega (arith, left_local s ticks local, local, l)) ∙ sym (phase_in_local n s ticks local)
  | inr request ↦ phase_in_request n s (ticks + i) (omega (arith, request)) ∙ sym (phase_in_request n s ticks request)
]

none_begins : (s : SegmentDef) (ticks i : ℕ) → suc i < left_in s ticks → ticks + i + 1 ≡ s.local → ⊥
none_begins s ticks i l e = elim (cases_lt ticks s.local) [
  | inl local ↦ absurd (omega (arith, left_local s ticks local, local, l, e))
  | inr request ↦ absurd (omega (arith, request, e))
]

-- Rows in which the place's job runs, and no other of the task, no longer than its phase lasts.
pub record GoesOn (w : Trace) (t x : ℕ) (p : ScriptPlace) (n : ℕ) : Type 0 where
  pub lawful : AreLawfulJobs (record { set = w.set; jobs = w.jobs })
  pub listed : p.job < length w.jobs
  pub place : IsPlace w.jobs x p
  pub shows : ShowsPlace w t x p
  pub runs : (i : ℕ) → i < n → runs_in (w.row (t + i)) p.job ≡ true
  pub others : (i e : ℕ) → i < n → task_of w e ≡ x → (e ≡ p.job → ⊥) → runs_in (w.row (t + i)) e ≡ false
  pub left : n ≤ left_at w.jobs p

-- The place this many ticks further in its phase.
abbrev pub further_on : ScriptPlace → ℕ → ScriptPlace
further_on p i = record { job = p.job; segment = p.segment; ticks = p.ticks + i; issued = p.issued }

pub further_place : (jobs : List JobDef) (x : ℕ) (p : ScriptPlace) (i : ℕ) → p.job < length jobs → IsPlace jobs x p
    → i < left_at jobs p → IsPlace jobs x (further_on p i)
further_place jobs x p i listed place l = record {
  most = place.most;
  own = place.own;
  segment = place.segment;
  ticks = λ b. omega (arith, left_within (segment_in jobs p.job p.segment) p.ticks (place.ticks listed), l);
}

-- It shows the schedule.
pub further_on_shows : (w : Trace) (t x : ℕ) (p : ScriptPlace) (n : ℕ) → GoesOn w t x p n → (i : ℕ) → i < n
    → ShowsPlace w (t + i) x (further_on p i)
further_on_shows w t x p n goes zero l =
    let tick : t ≡ t + 0 = omega arith in
    let ticks : p.ticks ≡ p.ticks + 0 = omega arith in
    subst (λ k. ShowsPlace w (t + 0) x (record { job = p.job; segment = p.segment; ticks = k; issued = p.issued }))
    ticks (subst (λ u. ShowsPlace w u x p) tick goes.shows)
further_on_shows w t x p n goes (suc i) l =
    let early : i < n = omega (arith, l) in
    let inside : i < left_at w.jobs p = omega (arith, l, goes.left) in
    let before : ShowsPlace w (t + i) x (further_on p i) = further_on_shows w t x p n goes i early in
    let turn : Turn w (t + i) x (further_on p i) = record {
      lawful = goes.lawful;
      listed = goes.listed;
      place = further_place w.jobs x p i goes.listed goes.place inside;
      shows = before;
      runs = goes.runs i early;
      others = λ e same other. goes.others i e early same other;
    } in
    let room : p.ticks + i + 1 < segment_ticks (segment_in w.jobs p.job p.segment) =
    omega (arith, left_within (segment_in w.jobs p.job p.segment) p.ticks (goes.place.ticks goes.listed), l, goes.left) in
    let next : ShowsPlace w (suc (t + i)) x (record {
      job = p.job;
      segment = p.segment;
      ticks = p.ticks + i + 1;
      issued = cond (p.ticks + i + 1 == (segment_in w.jobs p.job p.segment).local) (suc (t + i)) p.issued;
    }) =
    further_shows w (t + i) x (further_on p i) turn room in
    let none : (p.ticks + i + 1 == (segment_in w.jobs p.job p.segment).local) ≡ false =
    ne_eqb (p.ticks + i + 1) (segment_in w.jobs p.job p.segment).local
    (none_begins (segment_in w.jobs p.job p.segment) p.ticks i (omega (arith, l, goes.left))) in
    let plain : ShowsPlace w (suc (t + i)) x (record { job = p.job; segment = p.segment; ticks = p.ticks + i + 1; issued = p.issued }) =
    subst (λ b. ShowsPlace w (suc (t + i)) x
    (record { job = p.job; segment = p.segment; ticks = p.ticks + i + 1; issued = cond b (suc (t + i)) p.issued })) none
    next in
    let tick : suc (t + i) ≡ t + suc i = omega arith in
    let ticks : p.ticks + i + 1 ≡ p.ticks + suc i = omega arith in
    subst (λ k. ShowsPlace w (t + suc i) x (record { job = p.job; segment = p.segment; ticks = k; issued = p.issued })) ticks
    (subst (λ u. ShowsPlace w u x (record { job = p.job; segment = p.segment; ticks = p.ticks + i + 1; issued = p.issued })) tick plain)

-- So the job's phase stays.
pub phase_goes_on : (w : Trace) (t x : ℕ) (p : ScriptPlace) (n i : ℕ) → GoesOn w t x p n → i < n → phase_of w (t + i) p.job ≡ phase_of w t p.job
phase_goes_on w t x p n i goes l =
    let inside : i < left_at w.jobs p = omega (arith, l, goes.left) in
    own_phase w (t + i) x (further_on p i) (further_on_shows w t x p n goes i l)
    (further_place w.jobs x p i goes.listed goes.place inside) goes.listed
    ∙ same_phase p.segment (segment_in w.jobs p.job p.segment) p.ticks i inside
    ∙ sym (own_phase w t x p goes.shows goes.place goes.listed)

-- A step of all the ticks is one from the last place before.
last_step : (jobs : List JobDef) (after x k : ℕ) (p q : ScriptPlace) → StepsTo jobs after (suc k) x p q
    → StepsTo jobs after 1 x (further_on p k) q
last_step jobs after x k p q steps = record {
  further = λ l. steps.further (omega (arith, l))
      ∙ ap (λ s. record {
        job = p.job;
        segment = p.segment;
        ticks = s;
        issued = cond (s == (segment_in jobs p.job p.segment).local) after p.issued;
      }) sum;
  next = λ ends more. steps.next (omega (arith, ends)) more;
  over = λ ends last. steps.over (omega (arith, ends)) last;
} where
  sum : p.ticks + suc k ≡ p.ticks + k + 1
  sum = omega arith

-- After the rows the stepped place shows the schedule.
pub stepped_on : (w : Trace) (t x : ℕ) (p q : ScriptPlace) (n : ℕ) → 1 ≤ n → GoesOn w t x p n → StepsTo w.jobs (t + n) n x p q
    → ShowsPlace w (t + n) x q
stepped_on w t x p q zero some goes steps = absurd (omega (arith, some))
stepped_on w t x p q (suc k) some goes steps =
    let inside : k < left_at w.jobs p = omega (arith, goes.left) in
    let turn : Turn w (t + k) x (further_on p k) = record {
      lawful = goes.lawful;
      listed = goes.listed;
      place = further_place w.jobs x p k goes.listed goes.place inside;
      shows = further_on_shows w t x p (suc k) goes k (omega arith);
      runs = goes.runs k (omega arith);
      others = λ e same other. goes.others k e (omega arith) same other;
    } in
    let tick : t + suc k ≡ suc (t + k) = omega arith in
    let step : StepsTo w.jobs (suc (t + k)) 1 x (further_on p k) q =
    subst (λ u. StepsTo w.jobs u 1 x (further_on p k) q) tick (last_step w.jobs (t + suc k) x k p q steps) in
    subst (λ u. ShowsPlace w u x q) (sym tick) (stepped_shows w (t + k) x (further_on p k) q turn step)

-- Through rows in which no job of the task runs, its place shows the schedule on.
pub stayed_on : (w : Trace) (t x : ℕ) (p : ScriptPlace) (n : ℕ) → IsPlace w.jobs x p
    → ((i e : ℕ) → i < n → task_of w e ≡ x → runs_in (w.row (t + i)) e ≡ false) → ShowsPlace w t x p
    → ShowsPlace w (t + n) x p
stayed_on w t x p zero place idle shows = let tick : t ≡ t + 0 = omega arith in subst (λ u. ShowsPlace w u x p) tick shows
stayed_on w t x p (suc n) place idle shows =
    let before : ShowsPlace w (t + n) x p = stayed_on w t x p n place (λ i e l same. idle i e (omega (arith, l)) same) shows in
    let tick : suc (t + n) ≡ t + suc n = omega arith in
    subst (λ u. ShowsPlace w u x p) tick (stayed_shows w (t + n) x p place (λ e same. idle n e (omega arith) same) before)
