-- Ticks of a steady stretch are alike: the same jobs are active, in the same phases, and after the first tick the row's holders
-- are those of the row before.
use Rattle.std.proofs.Common.{◌≡◌, ℕ, zero, suc, ◌+◌, ◌-◌, ◌<◌, ◌≤◌, ◌==◌, ◌&&◌, ◌||◌, not, false, length, refl, sym}
use Rattle.std.proofs.Common.{ap, ◌∙◌, arith, inl, inr, Option, Some, None, leb}
use Rattle.std.specs.Option.{option_map_or}
use Rattle.std.proofs.lemmas.Bool.{cases_lt, cases_Bool, le-leb, lt-leb}
use Rattle.std.proofs.lemmas.List.{get_or_past}
use Rattle.number_laws.specs.Tests.{all_below}
use Rattle.number_laws.proofs.TestLaws.{all_below-agree}
use Rattle.sporadic_model.specs.SetDef.{is_higher_local}
use Rattle.schedule_model.specs.JobDef.{no_job, job_of}
use Rattle.schedule_model.specs.RowDef.{Trace, running_on, holder_in, held_before, runs_in}
use Rattle.schedule_model.specs.Phase.{is_local, is_finished, executed, phase_of}
use Rattle.schedule_model.specs.Activity.{task_of, processor_of, is_pending, is_next, is_active, is_requester}
use Rattle.schedule_model.specs.Activity.{is_active_local, is_ready_holder, is_ready}
use Rattle.schedule_model.specs.BlockedTicks.{is_delayed, runs_higher, runs_higher_local, is_shared_interference}
use Rattle.schedule_model.specs.BlockedTicks.{is_dpcp_interference, is_blocked}
use Rattle.schedule_laws.proofs.Ticks.{executed_waits, phase_same}
use Rattle.schedule_laws.specs.Steady.{IsSteady}

-- A later tick with the same row, at which each job is in the same phase and no other job is released, and before which the
-- row's holders were in place.
pub record IsAlike (w : Trace) (t u : ℕ) : Type 0 where
  pub later : t ≤ u
  pub row : w.row u ≡ w.row t
  pub phase : (j : ℕ) → phase_of w u j ≡ phase_of w t j
  pub released : (j : ℕ) → leb (job_of w.jobs j).release u ≡ leb (job_of w.jobs j).release t
  pub held : (q : ℕ) → held_before w u q ≡ holder_in (w.row t) q

-- A job that doesn't run in the stretch executes nothing in it.
waits_through : (w : Trace) (t n j i : ℕ) → IsSteady w t n → runs_in (w.row t) j ≡ false → i < n → executed w (t + i) j ≡ executed w t j
waits_through w t n j zero steady waits l = ap (λ u. executed w u j) (omega arith)
waits_through w t n j (suc i) steady waits l =
    let here : runs_in (w.row (t + i)) j ≡ false = ap (λ row. runs_in row j) (steady.rows i (omega arith)) ∙ waits in
    let next : t + suc i ≡ suc (t + i) = omega arith in
    ap (λ u. executed w u j) next ∙ executed_waits w (t + i) j here ∙ waits_through w t n j i steady waits (omega arith)

pub phase_through : (w : Trace) (t n i j : ℕ) → IsSteady w t n → i < n → phase_of w (t + i) j ≡ phase_of w t j
phase_through w t n i j steady l = elim (cases_Bool (runs_in (w.row t) j)) [
  | inl runs ↦ steady.phases i j l runs
  | inr waits ↦ phase_same w (t + i) t j (waits_through w t n j i steady waits l)
]

released_through : (w : Trace) (t n i j : ℕ) → IsSteady w t n → i < n
    → leb (job_of w.jobs j).release (t + i) ≡ leb (job_of w.jobs j).release t
released_through w t n i j steady l = elim (cases_lt t (job_of w.jobs j).release) [
  | inr early ↦
      let there : (job_of w.jobs j).release ≤ t + i = omega (arith, early) in
      le-leb (job_of w.jobs j).release (t + i) there ∙ sym (le-leb (job_of w.jobs j).release t early)
  | inl coming ↦ lt-leb (job_of w.jobs j).release (t + i) (later coming) ∙ sym (lt-leb (job_of w.jobs j).release t coming)
] where
  listed : t < (job_of w.jobs j).release → j < length w.jobs
  listed coming = elim (cases_lt j (length w.jobs)) [
    | inl there ↦ there
    | inr past ↦
        let none : (job_of w.jobs j).release ≡ 0 = ap (λ job. job.release) (get_or_past w.jobs j no_job past) in
        absurd (omega (arith, none, coming))
  ]

  later : t < (job_of w.jobs j).release → t + i < (job_of w.jobs j).release
  later coming = elim (cases_lt (t + i) (job_of w.jobs j).release) [
    | inl behind ↦ behind
    | inr passed ↦
        let same : (job_of w.jobs j).release ≡ t + ((job_of w.jobs j).release - t) = omega (arith, coming) in
        absurd (steady.releases ((job_of w.jobs j).release - t) j (omega (arith, coming))
        (omega (arith, coming, passed, l)) (listed coming) same)
  ]

held_through : (w : Trace) (t n i q : ℕ) → IsSteady w t n → 0 < i → i < n → held_before w (t + i) q ≡ holder_in (w.row t) q
held_through w t n zero q steady some l = absurd (omega (arith, some))
held_through w t n (suc i) q steady some l =
    let next : t + suc i ≡ suc (t + i) = omega arith in
    ap (λ u. held_before w u q) next ∙ ap (λ row. holder_in row q) (steady.rows i (omega (arith, l)))

-- Each tick of a steady stretch is like its first.
pub alike_through : (w : Trace) (t n i : ℕ) → IsSteady w t n → 0 < i → i < n → IsAlike w t (t + i)
alike_through w t n i steady some l = record {
  later = omega arith;
  row = steady.rows i l;
  phase = λ j. phase_through w t n i j steady l;
  released = λ j. released_through w t n i j steady l;
  held = λ q. held_through w t n i q steady some l;
}

-- At such a tick the same jobs are active, request, are ready and run.
pub active_alike : (w : Trace) (t u j : ℕ) → IsAlike w t u → is_active w u j ≡ is_active w t j
unfolding is_active is_pending is_next
active_alike w t u j a =
    ap
    (λ b. (b && not (is_finished (phase_of w u j)))
    && all_below j (λ e. not (task_of w e == task_of w j) || is_finished (phase_of w u e))) (a.released j)
    ∙ ap
    (λ p. (leb (job_of w.jobs j).release t && not (is_finished p))
    && all_below j (λ e. not (task_of w e == task_of w j) || is_finished (phase_of w u e))) (a.phase j)
    ∙ ap (λ b. (leb (job_of w.jobs j).release t && not (is_finished (phase_of w t j))) && b)
    (all_below-agree j (λ e. not (task_of w e == task_of w j) || is_finished (phase_of w u e))
    (λ e. not (task_of w e == task_of w j) || is_finished (phase_of w t e))
    (λ e b. ap (λ p. not (task_of w e == task_of w j) || is_finished p) (a.phase e)))

pub requester_alike : (w : Trace) (t u q j : ℕ) → IsAlike w t u → is_requester w u q j ≡ is_requester w t q j
unfolding is_requester
requester_alike w t u q j a = rw (active_alike w t u j a, a.phase j) refl

pub active_local_alike : (w : Trace) (t u j : ℕ) → IsAlike w t u → is_active_local w u j ≡ is_active_local w t j
unfolding is_active_local
active_local_alike w t u j a = rw (active_alike w t u j a, a.phase j) refl

pub ready_holder_alike : (w : Trace) (t u j : ℕ) → IsAlike w t u → is_ready_holder w u j ≡ is_ready_holder w t j
unfolding is_ready_holder
ready_holder_alike w t u j a = rw (active_alike w t u j a, a.phase j, a.row) refl

pub ready_alike : (w : Trace) (t u j : ℕ) → IsAlike w t u → is_ready w u j ≡ is_ready w t j
unfolding is_ready
ready_alike w t u j a = rw (active_local_alike w t u j a, ready_holder_alike w t u j a) refl

pub running_alike : (w : Trace) (t u k : ℕ) → IsAlike w t u → running_on (w.row u) k ≡ running_on (w.row t) k
running_alike w t u k a = ap (λ row. running_on row k) a.row

pub holder_alike : (w : Trace) (t u q : ℕ) → IsAlike w t u → holder_in (w.row u) q ≡ holder_in (w.row t) q
holder_alike w t u q a = ap (λ row. holder_in row q) a.row

-- And the tick is the same for each job.
pub delayed_alike : (w : Trace) (t u j : ℕ) → IsAlike w t u → is_delayed w u j ≡ is_delayed w t j
unfolding is_delayed
delayed_alike w t u j a = rw (active_alike w t u j a, a.row) refl

pub shared_interference_alike : (w : Trace) (t u j : ℕ) → IsAlike w t u → is_shared_interference w u j ≡ is_shared_interference w t j
unfolding is_shared_interference runs_higher
shared_interference_alike w t u j a = rw (delayed_alike w t u j a, a.row) refl

pub dpcp_interference_alike : (w : Trace) (t u j : ℕ) → IsAlike w t u → is_dpcp_interference w u j ≡ is_dpcp_interference w t j
unfolding is_dpcp_interference runs_higher_local
dpcp_interference_alike w t u j a =
    ap
    (λ b. b && option_map_or (λ r. is_higher_local w.set (task_of w j) (task_of w r) && is_local (phase_of w u r))
    (running_on (w.row u) (processor_of w j)) false) (delayed_alike w t u j a)
    ∙ ap
    (λ row. is_delayed w t j
    && option_map_or (λ r. is_higher_local w.set (task_of w j) (task_of w r) && is_local (phase_of w u r))
    (running_on row (processor_of w j)) false) a.row
    ∙ ap (λ b. is_delayed w t j && b) (go (running_on (w.row t) (processor_of w j))) where
      go : (o : Option ℕ) → option_map_or (λ r. is_higher_local w.set (task_of w j) (task_of w r) && is_local (phase_of w u r)) o false
          ≡ option_map_or (λ r. is_higher_local w.set (task_of w j) (task_of w r) && is_local (phase_of w t r)) o false
      go None = refl
      go (Some r) = ap (λ p. is_higher_local w.set (task_of w j) (task_of w r) && is_local p) (a.phase r)

pub shared_blocked_alike : (w : Trace) (t u j : ℕ) → IsAlike w t u
    → is_blocked is_shared_interference w u j ≡ is_blocked is_shared_interference w t j
unfolding is_blocked
shared_blocked_alike w t u j a = rw (delayed_alike w t u j a, shared_interference_alike w t u j a) refl

pub dpcp_blocked_alike : (w : Trace) (t u j : ℕ) → IsAlike w t u
    → is_blocked is_dpcp_interference w u j ≡ is_blocked is_dpcp_interference w t j
unfolding is_blocked
dpcp_blocked_alike w t u j a = rw (delayed_alike w t u j a, dpcp_interference_alike w t u j a) refl
