-- Adding one more item to the sums of its task.
use Rattle.std.proofs.Common.{◌≡◌, ℕ, ◌+◌, ◌<◌, ◌==◌, ◌&&◌, Bool, true, false, List, [], length, get_or, set, take}
use Rattle.std.proofs.Common.{refl, sym, ap, ◌∙◌, arith, inl, inr, sum_by}
use Rattle.std.proofs.lemmas.Bool.{cases_eq, eq-eqb, ne_eqb}
use Rattle.std.proofs.lemmas.List.{get_or-set_same, get_or-set_other}
use Rattle.std.proofs.lemmas.List.Sums.{sum_by_more}
use Rattle.number_laws.specs.Sums.{only_if}
use Rattle.schedule_model.specs.JobDef.{JobDef, job_of}
use Rattle.blocking_columns.specs.declared.columns.Class.{Class}
use Rattle.blocking_columns.specs.declared.columns.Class.TheVariants.{Direct, Indirect, Preemption}
use Rattle.charge_laws.specs.Fractions.{is_same_class}
use Rattle.charge.specs.declared.item.ChargeItem.{ChargeItem}
use Rattle.audit_figures.specs.declared.sums.ClassSums.{ClassSums}
use Rattle.audit_figures.specs.Sums.{no_sums, sums_at, counted, sums_with, item_ticks, item_sums}

-- No items, no ticks.
pub sums_begin : (jobs : List JobDef) (x : ℕ) → no_sums ≡ item_sums jobs x []
unfolding item_sums
sums_begin jobs x = refl

-- A sum that has stopped stays where it is.
counted_more : (s t : ℕ) → counted (counted s + t) ≡ counted (s + t)
counted_more s t = omega arith

-- The class counts only for the item's own task.
sum_more : (jobs : List JobDef) (x : ℕ) (c : Class) (items : List ChargeItem) (i : ℕ) (d : ChargeItem) (b : Bool) → i < length items
    → ((job_of jobs (get_or items i d).blocked.0).task == x) ≡ b
    → sum_by (item_ticks jobs x c) (take (i + 1) items)
    ≡ sum_by (item_ticks jobs x c) (take i items) + only_if (b && is_same_class c (get_or items i d).class) (get_or items i d).ticks
sum_more jobs x c items i d b l own =
    sum_by_more (item_ticks jobs x c) items i d l
    ∙ ap
    (λ o. sum_by (item_ticks jobs x c) (take i items)
    + only_if (o && is_same_class c (get_or items i d).class) (get_or items i d).ticks) own

-- Sums with the same parts are the same.
same_sums : (s : ClassSums) (d i p : ℕ) → s.direct ≡ d → s.indirect ≡ i → s.preemption ≡ p
    → s ≡ record { direct = d; indirect = i; preemption = p }
same_sums s d i p e f g = rw (← e, ← f, ← g) refl

-- The sums of the item's own task get it.
own_more : (jobs : List JobDef) (x : ℕ) (items : List ChargeItem) (i : ℕ) (d : ChargeItem) (sums : ClassSums) → i < length items
    → (job_of jobs (get_or items i d).blocked.0).task ≡ x → sums ≡ item_sums jobs x (take i items)
    → sums_with sums (get_or items i d) ≡ item_sums jobs x (take (i + 1) items)
unfolding item_sums
own_more jobs x items i d sums l own before =
    same_sums (sums_with sums (get_or items i d)) (counted (all Direct)) (counted (all Indirect)) (counted (all Preemption))
    (of Direct sums.direct (ap (λ (s : ClassSums). s.direct) before))
    (of Indirect sums.indirect (ap (λ (s : ClassSums). s.indirect) before))
    (of Preemption sums.preemption (ap (λ (s : ClassSums). s.preemption) before)) where
      all : Class → ℕ
      all c = sum_by (item_ticks jobs x c) (take (i + 1) items)

      of : (c : Class) (m : ℕ) → m ≡ counted (sum_by (item_ticks jobs x c) (take i items))
          → counted (m + only_if (is_same_class c (get_or items i d).class) (get_or items i d).ticks) ≡ counted (all c)
      of c m e = omega (arith, e, sum_more jobs x c items i d true l (eq-eqb _ _ own))

-- Those of another task don't.
other_more : (jobs : List JobDef) (x : ℕ) (items : List ChargeItem) (i : ℕ) (d : ChargeItem) → i < length items
    → ((job_of jobs (get_or items i d).blocked.0).task ≡ x → ⊥) → item_sums jobs x (take i items) ≡ item_sums jobs x (take (i + 1) items)
unfolding item_sums
other_more jobs x items i d l other = rw (of Direct, of Indirect, of Preemption) refl where
  of : (c : Class) → sum_by (item_ticks jobs x c) (take (i + 1) items) ≡ sum_by (item_ticks jobs x c) (take i items)
  of c = let next = sum_more jobs x c items i d false l (ne_eqb _ _ other) in omega (arith, next)

-- So one more item is added to the sums.
pub sums_step : (jobs : List JobDef) (x y : ℕ) (items : List ChargeItem) (i : ℕ) (d : ChargeItem) (sums : List ClassSums) → i < length items
    → (job_of jobs (get_or items i d).blocked.0).task ≡ y → y < length sums → sums_at sums x ≡ item_sums jobs x (take i items)
    → sums_at (set sums y (sums_with (sums_at sums y) (get_or items i d))) x ≡ item_sums jobs x (take (i + 1) items)
sums_step jobs x y items i d sums l own below before = elim (cases_eq y x) [
  | inl same ↦
      rw same (get_or-set_same sums x (sums_with (sums_at sums x) (get_or items i d)) no_sums (rw same at below)
      ∙ own_more jobs x items i d (sums_at sums x) l (own ∙ same) before)
  | inr apart ↦
      get_or-set_other sums y x (sums_with (sums_at sums y) (get_or items i d)) no_sums (λ e. apart (sym e)) ∙ before
      ∙ other_more jobs x items i d l (λ e. apart (sym own ∙ e))
]
