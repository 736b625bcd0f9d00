-- How the recurrence of a source depends on its bounds: interference and what programs reach never fall when bounds rise.
use Rattle.std.proofs.Common.{◌≡◌, ℕ, zero, suc, ◌+◌, ◌-◌, ◌*◌, ◌<◌, ◌≤◌, List, length, refl, arith, inl, inr}
use Rattle.std.proofs.Math.Nat.{div-zero, mod-zero, mul-le-mul_right}
use Rattle.std.proofs.lemmas.Bool.{cases_lt}
use Rattle.std.proofs.lemmas.Grind.{div_ceil_times}
use Rattle.std.specs.Int.{div_ceil}
use Rattle.std.specs.Prelude.{slice_index}
use Rattle.number_laws.proofs.SumLaws.{sum_below-monotone}
use Rattle.number_laws.proofs.OnlyIfLaws.{only_if-rises}
use Rattle.program_form.specs.Certificate.{CertificateDef}
use Rattle.program_form.specs.Limits.{HasLimitsAtMost}
use Rattle.program_form.proofs.Points.{zero_reached, greater_limits_reach, greater_limits_greatest}
use Rattle.program_form.proofs.Duality.{dual_bounds, one_greatest}
use Rattle.sporadic_model.specs.SetDef.{SetDef, task_at, is_higher_local, jobs_within}
use Rattle.sporadic_model.specs.Bounds.{AtMost}
use Rattle.program_sources.specs.Recurrence.{SourceDef, interference_by, interference_of, response_with, ComesUp, IsResponse}
use Rattle.program_sources.specs.Fitting.{AreFitting, NeverFalls, ComesUpAbove, tasks_of}
use Rattle.program_sources.specs.Valid.{IsValid, value_at, dual_at}

-- A quotient that is rounded up doesn't fall when its dividend rises.
pub div_ceil_rises : (a b n : ℕ) → a ≤ b → div_ceil a n ≤ div_ceil b n
div_ceil_rises a b zero h = rw (div-zero, div-zero, mod-zero, mod-zero) (omega arith)
div_ceil_rises a b (suc n) h =
    let low = div_ceil_times a (suc n) (omega arith) in
    let high = div_ceil_times b (suc n) (omega arith) in
    elim (cases_lt (div_ceil b (suc n)) (div_ceil a (suc n))) [
      | inl less ↦
          let more : (div_ceil b (suc n) + 1) * suc n ≤ div_ceil a (suc n) * suc n = mul-le-mul_right (suc n) (omega arith) in
          absurd (omega (arith, low.1, high.0, more))
      | inr least ↦ least
    ]

interference_by_rises : (g : ℕ → ℕ) (set : SetDef) (r s : List ℕ) (i h : ℕ) → slice_index r i ≤ slice_index s i
    → slice_index r h ≤ slice_index s h → interference_by g set r i h ≤ interference_by g set s i h
interference_by_rises g set r s i h own other =
    let jobs : jobs_within (slice_index r i) (slice_index r h + (task_at set h).jitter - g h) (task_at set h).period
    ≤ jobs_within (slice_index s i) (slice_index s h + (task_at set h).jitter - g h) (task_at set h).period =
    div_ceil_rises _ _ _ (omega arith) in
    mul-le-mul_right (g h) jobs

-- Interference never falls when bounds rise.
pub interference_rises : (g : ℕ → ℕ) (set : SetDef) (r s : List ℕ) (i : ℕ) → i < length set.tasks
    → AtMost (length set.tasks) r s → interference_of g set r i ≤ interference_of g set s i
interference_rises g set r s i here h = sum_below-monotone i _ _ (λ k below.
    only_if-rises (is_higher_local set i k) (interference_by g set r i k) (interference_by g set s i k)
    (λ counts. interference_by_rises g set r s i k (h i here) (h k (omega arith))))

-- The law of sources on which their recurrences rest: only the limits depend on the bounds, and no limit falls when bounds rise.
abbrev pub LimitsRise : SourceDef → Type 0
LimitsRise f = (i : ℕ) (r s : List ℕ) → i < tasks_of f → AtMost (tasks_of f) r s → HasLimitsAtMost (f.program i r) (f.program i s)

pub comes_up_above : (f : SourceDef) → LimitsRise f → ComesUpAbove f
comes_up_above f rise r s i v here h up =
    let more = interference_rises f.interfering f.set r s i here h in
    let least : v ≤ response_with f s i up.blocking = omega (arith, more, up.response) in (
      response_with f s i up.blocking,
      record {
        blocking = up.blocking;
        reached = greater_limits_reach (f.program i r) (f.program i s) up.blocking (rise i r s here h) up.reached;
        response = refl;
      },
      least,
    )

pub never_falls : (f : SourceDef) → LimitsRise f → NeverFalls f
never_falls f rise r s i v w here h low high =
    let more = interference_rises f.interfering f.set r s i here h in
    let blocked = greater_limits_greatest (f.program i r) (f.program i s) low.blocking high.blocking (rise i r s here h)
    low.greatest high.greatest in
    omega (arith, more, blocked, low.response, high.response)

pub one_response : (f : SourceDef) (r : List ℕ) (i v w : ℕ) → IsResponse f r i v → IsResponse f r i w → v ≡ w
one_response f r i v w a b = omega (arith, one_greatest (f.program i r) a.blocking b.blocking a.greatest b.greatest, a.response, b.response)

pub response_comes_up : (f : SourceDef) (r : List ℕ) (i v : ℕ) → IsResponse f r i v → ComesUp f r i v
response_comes_up f r i v a = record { blocking = a.blocking; reached = a.greatest.reached; response = a.response }

pub response_is_greatest : (f : SourceDef) (r : List ℕ) (i v w : ℕ) → IsResponse f r i v → ComesUp f r i w → w ≤ v
response_is_greatest f r i v w a up = omega (arith, a.greatest.greatest up.blocking up.reached, a.response, up.response)

pub cost_below_fitting : (f : SourceDef) (s : List ℕ) (i : ℕ) → AreFitting f s → i < tasks_of f → (task_at f.set i).cost ≤ slice_index s i
cost_below_fitting f s i fits here =
    let kept : response_with f s i 0 ≤ slice_index s i = fits.kept i (response_with f s i 0) here
    (record { blocking = 0; reached = zero_reached (f.program i s); response = refl }) in
    omega (arith, kept)

pub valid_fits : (f : SourceDef) (c : CertificateDef) → IsValid f c → AreFitting f c.bounds
valid_fits f c valid = record {
  one_each = valid.bound_each;
  kept = λ i v here up.
      let shown = valid.proved i here in
      let blocked = dual_bounds (f.program i c.bounds) (dual_at c.duals i).den
      (λ r. slice_index (dual_at c.duals i).num r) up.blocking shown.feasible.covers up.reached in
      let least : up.blocking ≤ value_at f c i = blocked in
      let enough : response_with f c.bounds i (value_at f c i) ≤ slice_index c.bounds i = shown.enough in
      omega (arith, least, enough, up.response);
  within = λ i here. (valid.proved i here).within;
}
