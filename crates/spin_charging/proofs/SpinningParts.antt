-- What the ticks of a window bring to a row of requests that are spun for, and of lower requests that run. They are parted by the job
-- of the analysed job's processor that is in a request: the analysed job, a job of a higher task, one of a lower task. What one job
-- spins for is paid by its requests.
use Rattle.std.proofs.Common.{◌≡◌, ◌⊎◌, ℕ, ◌*◌, ◌<◌, ◌≤◌, ◌==◌, ◌&&◌, ◌||◌, Bool, true, false, length, sym, refl}
use Rattle.std.proofs.Common.{ap, subst, ◌∙◌, arith, Option, Some, inl, inr, if◌then◌else◌}
use Rattle.std.specs.Option.{option_map_or}
use Rattle.std.proofs.lemmas.Bool.{and_parts, eqb-true}
use Rattle.number_laws.specs.Sums.{sum_below, flag, only_if}
use Rattle.number_laws.proofs.SumLaws.{only_if-at_most}
use Rattle.sporadic_model.specs.SetDef.{SetDef, task_at}
use Rattle.sporadic_model.specs.Users.{count_of, length_of}
use Rattle.schedule_model.specs.declared.rule.Rule.TheVariants as rule
use Rattle.schedule_model.specs.RowDef.{Trace}
use Rattle.schedule_model.specs.Phase.{phase_of}
use Rattle.schedule_model.specs.Phase.Phase.{Asking}
use Rattle.schedule_model.specs.Activity.{task_of, processor_of, is_active}
use Rattle.schedule_model.specs.SharedRules.{KeepsRun}
use Rattle.schedule_model.specs.Keeping.{KeepsBefore}
use Rattle.schedule_laws.proofs.Rows.{ReadyHolder, ready_holder_is}
use Rattle.blocking_columns.specs.declared.columns.Class.{Class}
use Rattle.blocking_columns.specs.declared.columns.Class.TheVariants.{Direct, Indirect, Preemption}
use Rattle.blocking_columns.specs.ColumnDef.{ColumnDef, is_preemption}
use Rattle.charge_laws.specs.Charges.{Charge}
use Rattle.charge_laws.specs.Windows.{window_end}
use Rattle.row_laws.specs.Meeting.{brings}
use Rattle.row_laws.proofs.Brings.{Window, Hit, column_with, flag_times-at_most, flag_times-passes, only_if-parts}
use Rattle.row_laws.proofs.SlotRow.{OneRequest, Shares}
use Rattle.row_laws.proofs.Numbers.{paid_by}
use Rattle.spin_rules.specs.SpinRules.{spin_rule}
use Rattle.spin_rules.proofs.InRequests.{InRequest}
use Rattle.spin_charging.specs.SpinCharges.{spinner_on, spin_charge}
use Rattle.spin_charging.proofs.SpinCharging.{RunsBelow, SpunBy, SpinReason, spin_reason}
use Rattle.spin_charging.proofs.OneSpin.{spun_one}
use Rattle.spin_charging.proofs.OwnSpinning.{spun_resource}

-- What such a row counts: requests from one processor that are spun for, of the resources that pass the first test, and lower requests
-- that run, of those that pass the second.
pub record Kinds : Type 0 where
  pub processor : ℕ
  pub spun : ℕ → Bool
  pub runs : ℕ → Bool

abbrev pub is_counted : SetDef → Kinds → ColumnDef → Bool
is_counted set k c = if is_preemption c.class then k.runs c.resource else (((task_at set c.task).processor == k.processor) && k.spun c.resource)

-- What is known of the row that is met. No resource passes both tests.
pub record Spins (w : Trace) (bound : ℕ → ℕ) (n j : ℕ) (k : Kinds) (s : ℕ) (share : ℕ → ℕ → ℕ) : Type 0 where
  pub window : Window spin_charge w bound n j
  pub keeps : KeepsBefore spin_rule w n
  pub apart : (q : ℕ) → k.spun q ≡ true → k.runs q ≡ true → ⊥
  pub fair : (y q : ℕ) → share y q * length_of w.set y q ≤ s

-- What the row counts of a column, and what a tick brings.
abbrev pub counted_share : Trace → Kinds → (ℕ → ℕ → ℕ) → ColumnDef → ℕ
counted_share w k share c = flag (is_counted w.set k c) * share c.task c.resource

abbrev pub amount : Trace → ℕ → Kinds → (ℕ → ℕ → ℕ) → ℕ → ℕ
amount w j k share t = brings spin_charge w (counted_share w k share) j t

-- The job of j's processor that is in a request: the charged job where that preempts, else the one that spins; 0 where there is none.
abbrev spinner_at : Trace → ℕ → ℕ → ℕ
spinner_at w j t = option_map_or (λ s. s) (spinner_on w t (processor_of w j)) 0

abbrev asker_where : Trace → ℕ → ℕ → Charge → ℕ
asker_where w j t c = if is_preemption c.class then c.job else spinner_at w j t

abbrev pub asker_at : Trace → ℕ → ℕ → ℕ
asker_at w j t = option_map_or (asker_where w j t) (spin_charge w t j) 0

asker_is : (w : Trace) (j t : ℕ) (c : Charge) → spin_charge w t j ≡ Some c → asker_at w j t ≡ asker_where w j t c
asker_is w j t c e = ap (λ (o : Option Charge). option_map_or (asker_where w j t) o 0) e

pub shares_of : (w : Trace) (bound : ℕ → ℕ) (n j : ℕ) (k : Kinds) (s : ℕ) (share : ℕ → ℕ → ℕ) → Spins w bound n j k s share
    → Shares w s share (counted_share w k share)
shares_of w bound n j k s share c = record {
  fair = c.fair;
  small = λ d. flag_times-at_most (is_counted w.set k d) (share d.task d.resource);
}

-- What a tick that brings something says: a job spins for a request of the processor, or a lower request runs.
pub record SpunTick (w : Trace) (j : ℕ) (k : Kinds) (t y : ℕ) : Type 0 where
  pub spun : SpunBy w t (processor_of w j) (asker_at w j t) y
  pub passes : k.spun spun.resource ≡ true
  pub processor : processor_of w y ≡ k.processor

pub record LowerTick (w : Trace) (j : ℕ) (k : Kinds) (t y : ℕ) : Type 0 where
  pub below : RunsBelow w t j y
  pub asker : asker_at w j t ≡ y
  pub holder : ReadyHolder w t y
  pub passes : k.runs holder.resource ≡ true
  pub place : processor_of w y ≡ processor_of w j

spun_tick : (w : Trace) (n t j s y m q : ℕ) (k : Kinds) (c : Class) → is_preemption c ≡ false → KeepsBefore spin_rule w n → t < n
    → spin_charge w t j ≡ Some (record { job = y; class = c }) → phase_of w t y ≡ Asking m q
    → (((task_at w.set (task_of w y)).processor == k.processor) && k.spun q) ≡ true → SpunBy w t (processor_of w j) s y
    → SpunTick w j k t y
spun_tick w n t j s y m q k c off keeps l e asks passes a = record {
  spun = spun;
  passes = ap k.spun (spun_resource w n t (processor_of w j) (asker_at w j t) y m q keeps l spun asks) ∙ parts.1;
  processor = eqb-true _ _ parts.0;
} where
  parts : (((task_at w.set (task_of w y)).processor == k.processor) ≡ true) × (k.spun q ≡ true)
  parts = and_parts _ _ passes

  by_class : asker_where w j t (record { job = y; class = c }) ≡ spinner_at w j t
  by_class = rw off refl

  same : s ≡ asker_at w j t
  same = sym (asker_is w j t (record { job = y; class = c }) e ∙ by_class ∙ ap (λ (o : Option ℕ). option_map_or (λ i. i) o 0) a.found)

  spun : SpunBy w t (processor_of w j) (asker_at w j t) y
  spun = subst (λ i. SpunBy w t (processor_of w j) i y) same a

tick_by : (w : Trace) (n t j y m q : ℕ) (k : Kinds) (c : Class) → KeepsBefore spin_rule w n → t < n
    → spin_charge w t j ≡ Some (record { job = y; class = c }) → phase_of w t y ≡ Asking m q
    → is_counted w.set k (record { task = task_of w y; resource = q; class = c }) ≡ true → SpinReason w t j c y
    → SpunTick w j k t y ⊎ LowerTick w j k t y
tick_by w n t j y m q k Direct keeps l e asks passes why = inl (spun_tick w n t j j y m q k Direct refl keeps l e asks passes why)
tick_by w n t j y m q k Indirect keeps l e asks passes why =
    inl (spun_tick w n t j why.0 y m q k Indirect refl keeps l e asks passes why.2)
tick_by w n t j y m q k Preemption keeps l e asks passes why = inr (record {
  below = why;
  asker = asker_is w j t (record { job = y; class = Preemption }) e;
  holder = holder;
  passes = ap k.runs own ∙ passes;
  place = sym (run.column (processor_of w j) y why.runs);
}) where
  run : KeepsRun w t
  run = keeps t l rule.Run

  holder : ReadyHolder w t y
  holder = ready_holder_is w t y why.holds

  own : holder.resource ≡ q
  own = let x : Asking holder.number holder.resource ≡ Asking m q = sym holder.phase ∙ asks in cc

pub tick_is : (w : Trace) (bound : ℕ → ℕ) (n j : ℕ) (k : Kinds) (s : ℕ) (share : ℕ → ℕ → ℕ) (t : ℕ) → Spins w bound n j k s share
    → t < n → (h : Hit spin_charge w (counted_share w k share) j t) → SpunTick w j k t h.charge.job ⊎ LowerTick w j k t h.charge.job
tick_is w bound n j k s share t c l h =
    tick_by w n t j h.charge.job h.number h.resource k h.charge.class c.keeps l h.is_it h.request
    (flag_times-passes (is_counted w.set k (column_with w h.charge h.resource)) (share (task_of w h.charge.job) h.resource) h.some)
    (spin_reason w t j h.charge c.window.lawful (c.keeps t l) h.is_it)

-- In either case a job of j's processor is in a request of a resource that passes a test.
pub record Asks (w : Trace) (j : ℕ) (k : Kinds) (t : ℕ) : Type 0 where
  pub request : InRequest w t (asker_at w j t)
  pub place : processor_of w (asker_at w j t) ≡ processor_of w j
  pub passes : (k.spun request.resource || k.runs request.resource) ≡ true

either_first : (a b : Bool) → a ≡ true → (a || b) ≡ true
either_first true b h = refl
either_first false b h = absurd (cc)

either_second : (a b : Bool) → b ≡ true → (a || b) ≡ true
either_second true b h = refl
either_second false b h = h

pub asks_where : (w : Trace) (j : ℕ) (k : Kinds) (t y : ℕ) → SpunTick w j k t y ⊎ LowerTick w j k t y → Asks w j k t
asks_where w j k t y (inl a) = record {
  request = record { active = a.spun.active; number = a.spun.number; resource = a.spun.resource; phase = a.spun.request };
  place = a.spun.processor;
  passes = either_first _ _ a.passes;
}
asks_where w j k t y (inr a) = record {
  request = record {
    active = ap (is_active w t) a.asker ∙ a.holder.active;
    number = a.holder.number;
    resource = a.holder.resource;
    phase = ap (phase_of w t) a.asker ∙ a.holder.phase;
  };
  place = ap (processor_of w) a.asker ∙ a.place;
  passes = either_second _ _ a.passes;
}

-- Two ticks in one request of one job that spins are charged to one request.
pub one_spin : (w : Trace) (bound : ℕ → ℕ) (n j : ℕ) (k : Kinds) (s : ℕ) (share : ℕ → ℕ → ℕ) (u v y z m q r : ℕ)
    → Spins w bound n j k s share → u ≤ v → v < n → (a : SpunTick w j k u y) → (b : SpunTick w j k v z) → asker_at w j u ≡ asker_at w j v
    → phase_of w u (asker_at w j v) ≡ Asking m q → phase_of w v (asker_at w j v) ≡ Asking m r → OneRequest w u v y z
one_spin w bound n j k s share u v y z m q r c order l a b same first second =
    spun_one w n u v (processor_of w j) (asker_at w j v) y z c.window.lawful c.keeps order l early b.spun number
    (a.processor ∙ sym b.processor) where
      early : SpunBy w u (processor_of w j) (asker_at w j v) y
      early = subst (λ i. SpunBy w u (processor_of w j) i y) same a.spun

      number : early.number ≡ b.spun.number
      number =
          let x : Asking early.number early.resource ≡ Asking m q = sym early.request ∙ first in
          let z : Asking b.spun.number b.spun.resource ≡ Asking m r = sym b.spun.request ∙ second in
          cc

-- What counts while job z is the one in a request.
abbrev pub asker_part : Trace → ℕ → ℕ → (ℕ → ℕ) → ℕ → ℕ
asker_part w j z g t = only_if (asker_at w j t == z) (g t)

-- What one job spins for that isn't lower, however much of it counts, is paid by its requests that pass.
pub spinner_paid : (w : Trace) (bound : ℕ → ℕ) (n j : ℕ) (k : Kinds) (s : ℕ) (share : ℕ → ℕ → ℕ) (g : ℕ → ℕ) (z : ℕ)
    → Spins w bound n j k s share → ((t : ℕ) → g t ≤ amount w j k share t) → z < length w.jobs → (task_of w j < task_of w z → ⊥)
    → sum_below (window_end w bound n j) (λ t. asker_part w j z g t)
    ≤ s * sum_below (length w.set.resources) (λ q. only_if (k.spun q) (count_of w.set (task_of w z) q))
spinner_paid w bound n j k s share g z c part listed upper =
    paid_by spin_charge w bound n j z s share (counted_share w k share) (λ t. asker_part w j z g t) k.spun c.window
    (shares_of w bound n j k s share c) listed
    (record {
      below = λ t l. omega (arith, only_if-at_most (asker_at w j t == z) (g t), part t);
      own = λ t l some h. let a : SpunTick w j k t h.charge.job = at t l some h in
          record {
            number = a.spun.number;
            resource = a.spun.resource;
            request = ap (phase_of w t) (sym (is_z t some)) ∙ a.spun.request;
            passes = a.passes;
          };
      one = λ u v m q r order l first second a b early late. one_spin w bound n j k s share u v a.charge.job b.charge.job m q r c order
          (omega arith) (at u (omega arith) first a) (at v l second b) (is_z u first ∙ sym (is_z v second))
          (ap (phase_of w u) (is_z v second) ∙ early) (ap (phase_of w v) (is_z v second) ∙ late);
    }) where
      is_z : (t : ℕ) → 0 < asker_part w j z g t → asker_at w j t ≡ z
      is_z t some = eqb-true _ _ (only_if-parts (asker_at w j t == z) (g t) some).0

      at : (t : ℕ) → t < window_end w bound n j → 0 < asker_part w j z g t → (h : Hit spin_charge w (counted_share w k share) j t)
          → SpunTick w j k t h.charge.job
      at t l some h = elim (tick_is w bound n j k s share t c (omega arith) h) [
        | inl spun ↦ spun
        | inr runs ↦ absurd (upper (subst (λ i. task_of w j < task_of w i) (sym runs.asker ∙ is_z t some) runs.below.lower))
      ]
