-- What is held and what runs while a request waits under MPCP.
use Rattle.std.proofs.Common.{◌≡◌, ℕ, ◌<◌, ◌≤◌, true, false, length, refl, sym, ap, ◌∙◌, arith, inl, inr, Some}
use Rattle.std.specs.Option.{option_map_or}
use Rattle.std.proofs.lemmas.Bool.{cases_Bool, both_ways}
use Rattle.sporadic_model.specs.SetDef.{task_at}
use Rattle.schedule_model.specs.declared.rule.Rule.TheVariants as rule
use Rattle.schedule_model.specs.LawfulJobs.{AreLawfulJobs}
use Rattle.schedule_model.specs.RowDef.{Trace, jobs_of, holder_in}
use Rattle.schedule_model.specs.Phase.{phase_of}
use Rattle.schedule_model.specs.Phase.Phase.{Local, Asking}
use Rattle.schedule_model.specs.Activity.{task_of, is_active, is_ready_holder, is_ready}
use Rattle.schedule_model.specs.Ranks.{mpcp}
use Rattle.schedule_model.specs.Protocols.{shared_rule}
use Rattle.schedule_model.specs.Keeping.{KeepsBefore}
use Rattle.schedule_laws.proofs.Ticks.{open_between}
use Rattle.schedule_laws.proofs.ActiveJobs.{active_stays, ActiveLocal, active_local_is}
use Rattle.schedule_laws.proofs.Holders.{shared_holder_stays}
use Rattle.schedule_laws.proofs.Rows.{ReadyHolder, ready_holder_is, ready_holder_from, ready_is, ready_holding}
use Rattle.charge_laws.specs.Windows.{EndedBy}
use Rattle.charge_laws.proofs.SharedCharging.{WaitsFor, waits_for}
use Rattle.closer_laws.proofs.Waits.{waits_other}

-- Job j waits for its request number m, of resource q, from tick u to tick v of n rows; and each job whose bound has passed by u has ended.
pub record Waiting (w : Trace) (bound : ℕ → ℕ) (n u v j m q : ℕ) : Type 0 where
  pub lawful : AreLawfulJobs (jobs_of w)
  pub keeps : KeepsBefore (shared_rule mpcp) w n
  pub periods : (x : ℕ) → x < length w.set.tasks → 0 < (task_at w.set x).period
  pub ended : EndedBy w bound u
  pub order : u ≤ v
  pub within : v < n
  pub active : is_active w u j ≡ true
  pub early : phase_of w u j ≡ Asking m q
  pub late : phase_of w v j ≡ Asking m q
  pub waits : is_ready w v j ≡ false

pub waiting_asks : (w : Trace) (bound : ℕ → ℕ) (n u v j m q t : ℕ) → Waiting w bound n u v j m q → u ≤ t → t ≤ v
    → phase_of w t j ≡ Asking m q
waiting_asks w bound n u v j m q t a from to = open_between w u t v j m q q a.early a.late from to

pub waiting_active : (w : Trace) (bound : ℕ → ℕ) (n u v j m q t : ℕ) → Waiting w bound n u v j m q → u ≤ t → t ≤ v
    → is_active w t j ≡ true
waiting_active w bound n u v j m q t a from to =
    active_stays w u t j a.active from (rw (waiting_asks w bound n u v j m q t a from to) refl)

-- A job that held the resource earlier would hold it still. So it waits all the while.
pub waiting_unready : (w : Trace) (bound : ℕ → ℕ) (n u v j m q t : ℕ) → Waiting w bound n u v j m q → u ≤ t → t ≤ v
    → is_ready w t j ≡ false
waiting_unready w bound n u v j m q t a from to = elim (cases_Bool (is_ready w t j)) [
  | inr waits ↦ waits
  | inl ready ↦ elim (ready_is w t j ready) [
    | inl local ↦
        let l : ActiveLocal w t j = active_local_is w t j local in
        let x : Local ≡ Asking m q = sym l.phase ∙ asks in
        absurd (cc)
    | inr holds ↦ absurd (both_ways (is_ready w v j) a.waits (ready_holding w v j (still (ready_holder_is w t j holds))))
  ]
] where
  asks : phase_of w t j ≡ Asking m q
  asks = waiting_asks w bound n u v j m q t a from to

  still : ReadyHolder w t j → is_ready_holder w v j ≡ true
  still h =
      let x : Asking h.number h.resource ≡ Asking m q = sym h.phase ∙ asks in
      let same : h.resource ≡ q = cc in
      let holder : holder_in (w.row t) q ≡ Some j = rw (← same) h.holds in
      ready_holder_from w v j m q (active_stays w u v j a.active a.order (rw a.late refl)) a.late
      (shared_holder_stays mpcp w n t v q j m q a.keeps to a.within asks a.late holder)

-- The job that holds resource q; 0 where none does.
abbrev pub holder_of : Trace → ℕ → ℕ → ℕ
holder_of w q t = option_map_or (λ y. y) (holder_in (w.row t) q) 0

-- A job of another task than j's holds q, in its request of that number.
pub record HeldByOther (w : Trace) (t j q : ℕ) : Type 0 where
  pub holder : holder_in (w.row t) q ≡ Some (holder_of w q t)
  pub active : is_active w t (holder_of w q t) ≡ true
  pub number : ℕ
  pub asks : phase_of w t (holder_of w q t) ≡ Asking number q
  pub other : (task_of w (holder_of w q t) ≡ task_of w j) → ⊥

-- So it is at each tick of the wait.
pub held_by_other : (w : Trace) (bound : ℕ → ℕ) (n u v j m q t : ℕ) → Waiting w bound n u v j m q → u ≤ t → t ≤ v → HeldByOther w t j q
held_by_other w bound n u v j m q t a from to = record {
  holder = held ∙ ap (λ y. Some y) (sym first);
  active = let h : ReadyHolder w t y = ready_holder_is w t y waits.holds in rw first h.active;
  number = waits.holding;
  asks = ap (phase_of w t) first ∙ waits.held ∙ ap (Asking waits.holding) resource;
  other = λ e. waits_other w t j y waits (ap (task_of w) (sym first) ∙ e);
} where
  some : (y : ℕ) × WaitsFor w t j y
  some = waits_for mpcp w t j (a.keeps t (omega (arith, a.within, to)) rule.Grant) (waiting_active w bound n u v j m q t a from to)
      (waiting_unready w bound n u v j m q t a from to)

  y : ℕ
  y = some.0

  waits : WaitsFor w t j y
  waits = some.1

  resource : waits.resource ≡ q
  resource =
      let x : Asking waits.number waits.resource ≡ Asking m q = sym waits.request ∙ waiting_asks w bound n u v j m q t a from to in cc

  held : holder_in (w.row t) q ≡ Some y
  held = ap (holder_in (w.row t)) (sym resource) ∙ waits.holder

  first : holder_of w q t ≡ y
  first = ap (λ o. option_map_or (λ z. z) o 0) held
