-- What a tick is for a job, executing, interference or blocked, depends on the rows up to it alone.
use Rattle.std.proofs.Common.{◌≡◌, ℕ, ◌<◌, ◌&&◌, Bool, false, length, refl, sym, ap, ◌∙◌, subst, arith, Option, Some, None}
use Rattle.std.specs.Option.{option_map_or}
use Rattle.sporadic_model.specs.SetDef.{is_higher_local}
use Rattle.schedule_model.specs.RowDef.{Trace, is_job, running_on, runs_in}
use Rattle.schedule_model.specs.Phase.{is_local, phase_of}
use Rattle.schedule_model.specs.Activity.{task_of, processor_of}
use Rattle.schedule_model.specs.BlockedTicks.{is_executing, is_delayed, runs_higher, runs_higher_local}
use Rattle.schedule_model.specs.BlockedTicks.{is_shared_interference, is_dpcp_interference, is_interferer, is_blocked}
use Rattle.schedule_model.specs.TakenRows.{CanBeTaken}
use Rattle.schedule_laws.specs.Agreement.{AgreeBefore, TicksReadUpTo}
use Rattle.schedule_laws.proofs.Agreement.{listed_agree, task_agree, processor_agree, phase_agree, active_agree}
use Rattle.schedule_laws.proofs.Agreement.{running_agree, holder_agree}

pub runs_in_agree : (v w : Trace) (n t j : ℕ) → AgreeBefore v w n → t < n → runs_in (v.row t) j ≡ runs_in (w.row t) j
runs_in_agree v w n t j a l = ap (λ row. runs_in row j) (a.rows t l)

pub executing_agree : (v w : Trace) (n t j : ℕ) → AgreeBefore v w n → t < n → is_executing v t j ≡ is_executing w t j
unfolding is_executing
executing_agree v w n t j a l = rw (active_agree v w n t j a (omega arith), runs_in_agree v w n t j a l) refl

pub delayed_agree : (v w : Trace) (n t j : ℕ) → AgreeBefore v w n → t < n → is_delayed v t j ≡ is_delayed w t j
unfolding is_delayed
delayed_agree v w n t j a l = rw (active_agree v w n t j a (omega arith), runs_in_agree v w n t j a l) refl

pub higher_agree : (v w : Trace) (n j r : ℕ) → AgreeBefore v w n
    → is_higher_local v.set (task_of v j) (task_of v r) ≡ is_higher_local w.set (task_of w j) (task_of w r)
higher_agree v w n j r a =
    ap (λ set. is_higher_local set (task_of v j) (task_of v r)) a.set
    ∙ ap (λ x. is_higher_local w.set x (task_of v r)) (task_agree v w n j a)
    ∙ ap (λ x. is_higher_local w.set (task_of w j) x) (task_agree v w n r a)

column_agree : (v w : Trace) (n t j : ℕ) → AgreeBefore v w n → t < n
    → running_on (v.row t) (processor_of v j) ≡ running_on (w.row t) (processor_of w j)
column_agree v w n t j a l = running_agree v w n t (processor_of v j) a l ∙ ap (λ k. running_on (w.row t) k) (processor_agree v w n j a)

pub runs_higher_agree : (v w : Trace) (n t j : ℕ) → AgreeBefore v w n → t < n → runs_higher v t j ≡ runs_higher w t j
unfolding runs_higher
runs_higher_agree v w n t j a l =
    go (running_on (v.row t) (processor_of v j))
    ∙ ap (λ o. option_map_or (λ r. is_higher_local w.set (task_of w j) (task_of w r)) o false)
    (column_agree v w n t j a l) where
      go : (o : Option ℕ) → option_map_or (λ r. is_higher_local v.set (task_of v j) (task_of v r)) o false
          ≡ option_map_or (λ r. is_higher_local w.set (task_of w j) (task_of w r)) o false
      go None = refl
      go (Some r) = higher_agree v w n j r a

pub runs_higher_local_agree : (v w : Trace) (n t j : ℕ) → AgreeBefore v w n → t < n → runs_higher_local v t j ≡ runs_higher_local w t j
unfolding runs_higher_local
runs_higher_local_agree v w n t j a l =
    go (running_on (v.row t) (processor_of v j))
    ∙ ap
    (λ o. option_map_or (λ r. is_higher_local w.set (task_of w j) (task_of w r) && is_local (phase_of w t r)) o false)
    (column_agree v w n t j a l) where
      go : (o : Option ℕ) → option_map_or (λ r. is_higher_local v.set (task_of v j) (task_of v r) && is_local (phase_of v t r)) o false
          ≡ option_map_or (λ r. is_higher_local w.set (task_of w j) (task_of w r) && is_local (phase_of w t r)) o false
      go None = refl
      go (Some r) =
          ap (λ b. b && is_local (phase_of v t r)) (higher_agree v w n j r a)
          ∙ ap (λ p. is_higher_local w.set (task_of w j) (task_of w r) && is_local p) (phase_agree v w n t r a (omega arith))

pub shared_interference_agree : (v w : Trace) (n t j : ℕ) → AgreeBefore v w n → t < n
    → is_shared_interference v t j ≡ is_shared_interference w t j
unfolding is_shared_interference
shared_interference_agree v w n t j a l = rw (delayed_agree v w n t j a l, runs_higher_agree v w n t j a l) refl

pub dpcp_interference_agree : (v w : Trace) (n t j : ℕ) → AgreeBefore v w n → t < n
    → is_dpcp_interference v t j ≡ is_dpcp_interference w t j
unfolding is_dpcp_interference
dpcp_interference_agree v w n t j a l = rw (delayed_agree v w n t j a l, runs_higher_local_agree v w n t j a l) refl

-- Blocked, where what interferes agrees.
pub blocked_agree : (interferes : Trace → ℕ → ℕ → Bool) (v w : Trace) (n t j : ℕ) → AgreeBefore v w n → t < n
    → interferes v t j ≡ interferes w t j
    → is_blocked interferes v t j ≡ is_blocked interferes w t j
unfolding is_blocked
blocked_agree interferes v w n t j a l same = rw (delayed_agree v w n t j a l, same) refl

pub blocked_reads : (interferes : Trace → ℕ → ℕ → Bool) → TicksReadUpTo interferes → TicksReadUpTo (is_blocked interferes)
blocked_reads interferes reads v w n t j a l = blocked_agree interferes v w n t j a l (reads v w n t j a l)

-- So does which job makes a tick interference,
pub interferer_reads : (interferes : Trace → ℕ → ℕ → Bool) → TicksReadUpTo interferes → (v w : Trace) (n t j y : ℕ)
    → AgreeBefore v w n → t < n → is_interferer interferes v t j y ≡ is_interferer interferes w t j y
unfolding is_interferer
interferer_reads interferes reads v w n t j y a l =
    ap (λ b. b && is_job y (running_on (v.row t) (processor_of v j))) (reads v w n t j a l)
    ∙ ap (λ o. interferes w t j && is_job y o) (column_agree v w n t j a l)

-- and whether the row can be taken.
pub taken_reads : (v w : Trace) (n t : ℕ) → AgreeBefore v w n → t < n → CanBeTaken v t → CanBeTaken w t
taken_reads v w n t a l taken = record {
  fits = record {
    sized = record {
      processors = sym (ap (λ r. length r.running) (a.rows t l)) ∙ taken.fits.sized.processors ∙ ap (λ s. s.processors) a.set;
      resources = sym (ap (λ r. length r.holders) (a.rows t l)) ∙ taken.fits.sized.resources ∙ ap (λ s. length s.resources) a.set;
    };
    running = λ k j e. subst (λ m. j < m) (listed_agree v w n a) (taken.fits.running k j (running_agree v w n t k a l ∙ e));
    holders = λ q j e. subst (λ m. j < m) (listed_agree v w n a) (taken.fits.holders q j (holder_agree v w n t q a l ∙ e));
  };
  active = λ k j e. sym (active_agree v w n t j a (omega arith)) ∙ taken.active k j (running_agree v w n t k a l ∙ e);
  one_column = λ k m j e f. taken.one_column k m j (running_agree v w n t k a l ∙ e) (running_agree v w n t m a l ∙ f);
}
