-- The rows of the job's own spinning.
use Rattle.std.proofs.Common.{◌≡◌, ℕ, ◌<◌, ◌==◌, ◌&&◌, Bool, true, sym, subst, ◌∙◌}
use Rattle.std.proofs.lemmas.Bool.{and_parts, eqb-true, eq-eqb}
use Rattle.schedule_model.specs.RowDef.{Trace}
use Rattle.schedule_model.specs.Phase.{phase_of}
use Rattle.schedule_model.specs.Phase.Phase.{Asking}
use Rattle.schedule_model.specs.Activity.{task_of, processor_of}
use Rattle.schedule_model.specs.Keeping.{KeepsBefore}
use Rattle.schedule_laws.proofs.ActiveJobs.{Requester}
use Rattle.blocking_columns.specs.declared.columns.Class.{Class}
use Rattle.blocking_columns.specs.declared.columns.Class.TheVariants.{Direct}
use Rattle.blocking_columns.specs.ColumnDef.{ColumnDef, is_direct}
use Rattle.charge_laws.specs.Charges.{Charge}
use Rattle.row_laws.specs.Meeting.{TicksMeet}
use Rattle.row_laws.proofs.Brings.{Window, column_with, Counted}
use Rattle.row_laws.proofs.Requests.{direct_is}
use Rattle.row_laws.proofs.Fifo.{InTurn, turns_of_met}
use Rattle.spin_rules.specs.SpinRules.{spin_rule}
use Rattle.spin_charging.specs.SpinCharges.{spin_charge}
use Rattle.spin_charging.specs.SpinPrograms.{is_from, own_spinning_row}
use Rattle.spin_charging.proofs.SpinCharging.{SpunBy, SpinReason, spin_reason}
use Rattle.spin_charging.proofs.OneSpin.{holder_asks, processors_ask_alone, spun_earlier}

-- Why ticks are charged directly.
own_by : (w : Trace) (t j y : ℕ) (c : Class) → c ≡ Direct → SpinReason w t j c y → SpunBy w t (processor_of w j) j y
own_by w t j y c e why = subst (λ (d : Class). SpinReason w t j d y) e why

-- What is held is what the holder's request is of.
pub spun_resource : (w : Trace) (n t k s y m q : ℕ) → KeepsBefore spin_rule w n → t < n → (a : SpunBy w t k s y)
    → phase_of w t y ≡ Asking m q → a.resource ≡ q
spun_resource w n t k s y m q keeps l a e =
    let r : Requester w t a.resource y = holder_asks w n t a.resource y keeps l a.holder in
    let x : Asking r.number a.resource ≡ Asking m q = sym r.phase ∙ e in
    cc

-- A charge whose column is of q, and of a task of processor k.
pub record FromColumn (w : Trace) (k q : ℕ) (charge : Charge) (resource : ℕ) : Type 0 where
  pub processor : processor_of w charge.job ≡ k
  pub same : resource ≡ q

pub from_column : (w : Trace) (k q : ℕ) (charge : Charge) (resource : ℕ)
    → is_from w.set k q (record { task = task_of w charge.job; resource = resource; class = charge.class }) ≡ true
    → FromColumn w k q charge resource
from_column w k q charge resource h =
    let parts : ((processor_of w charge.job == k) ≡ true) × ((resource == q) ≡ true) = and_parts _ _ h in
    record { processor = eqb-true _ _ parts.0; same = eqb-true _ _ parts.1 }

-- Row of own spinning: each request of q by the job pays for one request of processor k.
pub own_spinning_row_met : (w : Trace) (bound : ℕ → ℕ) (n j k q : ℕ) → Window spin_charge w bound n j → KeepsBefore spin_rule w n
    → TicksMeet spin_charge w bound n j (own_spinning_row w.set (task_of w j) k q)
own_spinning_row_met w bound n j k q window keeps s share fair =
    turns_of_met spin_charge w bound n j k q s share counts (processor_of w) window (processors_ask_alone w n window.lawful keeps) turns
    fair where
      counts : ColumnDef → Bool
      counts = λ c. is_from w.set k q c && is_direct c.class

      turns : (t : ℕ) → t < n → (c : Counted spin_charge w counts j t)
          → (processor_of w c.charge.job ≡ k) × InTurn w t j c.charge.job (λ r. r == q)
      turns t l c =
          let y : ℕ = c.charge.job in
          let parts : (is_from w.set k q (column_with w c.charge c.resource) ≡ true) × (is_direct c.charge.class ≡ true) =
          and_parts _ _ c.passes in
          let from : FromColumn w k q c.charge c.resource = from_column w k q c.charge c.resource parts.0 in
          let a : SpunBy w t (processor_of w j) j y =
          own_by w t j y c.charge.class (direct_is c.charge.class parts.1)
          (spin_reason w t j c.charge window.lawful (keeps t l) c.is_it) in
          let resource : a.resource ≡ q =
          spun_resource w n t (processor_of w j) j y c.number c.resource keeps l a c.request ∙ from.same in (
            from.processor,
            record {
              own = record { number = a.number; resource = a.resource; request = a.request; passes = eq-eqb a.resource q resource };
              earlier = spun_earlier w n t (processor_of w j) j y window.lawful keeps l a;
            },
          )
