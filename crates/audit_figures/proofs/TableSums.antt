-- The sums over the items of a table are the charged ticks of its schedule.
use Rattle.std.proofs.Common.{◌≡◌, ℕ, ◌<◌, ◌==◌, ◌&&◌, Bool, true, false, List, length, get_or, map, refl, sym, ap, ◌∙◌}
use Rattle.std.proofs.Common.{inl, inr, Option, Some, None, sum_by}
use Rattle.std.specs.List.{Contains}
use Rattle.std.proofs.lemmas.Bool.{cases_Bool, and_parts, eq-eqb, eqb-true, ne_eqb}
use Rattle.std.proofs.lemmas.List.{get_or-map, length-map}
use Rattle.number_laws.specs.Sums.{sum_below, flag, only_if}
use Rattle.number_laws.specs.Tests.{count_below}
use Rattle.number_laws.proofs.SumLaws.{sum_below-agree, sum_below-swap, sum_below-one}
use Rattle.number_laws.proofs.OnlyIfLaws.{only_if-nothing}
use Rattle.number_laws.proofs.SumLaws.{sum_below-list_by, only_if-true, only_if-false, sum_below-only_if}
use Rattle.number_laws.proofs.CountLaws.{count_below-none}
use Rattle.schedule_model.specs.RowDef.{Trace}
use Rattle.schedule_model.specs.Phase.{Phase, phase_of}
use Rattle.schedule_model.specs.Phase.Phase.{Local, Asking, Finished}
use Rattle.schedule_model.specs.Activity.{task_of}
use Rattle.blocking_columns.specs.declared.columns.Class.{Class}
use Rattle.blocking_columns.specs.declared.columns.Class.TheVariants.{Direct}
use Rattle.charge_laws.specs.Charges.{Charge}
use Rattle.charge_laws.specs.Windows.{window_end}
use Rattle.charge_laws.specs.Fractions.{is_same_class}
use Rattle.charge.specs.declared.item.ChargeItem.{ChargeItem}
use Rattle.charge.specs.Requests.{ChargedRequest, request_in, charged_request}
use Rattle.charge.specs.Table.{ItemDef, item_seen, is_of, charged_ticks, IsChargeTable}
use Rattle.audit_figures.specs.Sums.{item_ticks}
use Rattle.figure_laws.specs.Figures.{is_of_class, class_ticks, class_sum, ChargesBlocked}
use Rattle.audit_figures.proofs.OneItem.{item_at, no_item, counts_for, counts_once, counts_nowhere}

-- The ticks of an item of job j, tick by tick.
ticks_by_tick : (charges : Trace → ℕ → ℕ → Option Charge) (w : Trace) (bound : ℕ → ℕ) (n j : ℕ) (c : Class) (item : ItemDef)
    → item.ticks ≡ charged_ticks charges w bound n item
    → only_if ((item.blocked == j) && is_same_class c item.class) item.ticks
    ≡ count_below (window_end w bound n j) (λ t. counts_for j c (charged_request charges w t j) item)
unfolding charged_ticks
ticks_by_tick charges w bound n j c item counted = elim (cases_Bool ((item.blocked == j) && is_same_class c item.class)) [
  | inr out ↦
      only_if-false _ item.ticks out
      ∙ sym (count_below-none (window_end w bound n j) (λ t. counts_for j c (charged_request charges w t j) item)
      (λ t l. ap (λ b. b && is_of item (charged_request charges w t j)) out))
  | inl is_in ↦
      let own : item.blocked ≡ j = eqb-true _ _ (and_parts _ _ is_in).0 in
      only_if-true _ item.ticks is_in ∙ counted
      ∙ ap (λ k. count_below (window_end w bound n k) (λ t. is_of item (charged_request charges w t k))) own
      ∙ sum_below-agree (window_end w bound n j) (λ t. flag (is_of item (charged_request charges w t j)))
      (λ t. flag (counts_for j c (charged_request charges w t j) item))
      (λ t l. sym (ap (λ b. flag (b && is_of item (charged_request charges w t j))) is_in))
]

-- At one tick all items together count its charge.
tick_counts : (charges : Trace → ℕ → ℕ → Option Charge) (interferes : Trace → ℕ → ℕ → Bool) (w : Trace) (bound : ℕ → ℕ) (n : ℕ)
    (items : List ItemDef) (c : Class) (t j : ℕ) → ChargesBlocked charges interferes w → IsChargeTable charges interferes w bound n items
    → j < length w.jobs → t < window_end w bound n j
    → count_below (length items) (λ k. counts_for j c (charged_request charges w t j) (item_at items k))
    ≡ flag (is_of_class c (charges w t j))
tick_counts charges interferes w bound n items c t j only table listed within = go (charges w t j) refl where
  Goal : Option ChargedRequest → Option Charge → Type 0
  Goal named charge = count_below (length items) (λ k. counts_for j c named (item_at items k)) ≡ flag (is_of_class c charge)

  Item : Option ChargedRequest → Type 0
  Item named = (item : ItemDef) × Contains items item × (item.blocked ≡ j) × (is_of item named ≡ true)

  requested : (charge : Charge) (p : Phase) → Item (request_in charge p) → Goal (request_in charge p) (Some charge)
  requested charge (Asking m q) a =
      counts_once items j c (record { job = charge.job; number = m; resource = q; class = charge.class }) table.sorted a.0 a.1 a.2 a.3
  requested charge Local a = let no : false ≡ true = a.3 in absurd (cc)
  requested charge Finished a = let no : false ≡ true = a.3 in absurd (cc)

  go : (o : Option Charge) → charges w t j ≡ o → Goal (charged_request charges w t j) (charges w t j)
  go None e = rw e (counts_nowhere items j c)
  go (Some charge) e =
      let there : Item (charged_request charges w t j) = table.all t j listed within (only t j charge e) in
      let here : Item (request_in charge (phase_of w t charge.job)) = rw e at there in
      rw e (requested charge (phase_of w t charge.job) here)

-- So the items of a job and a class add up to its charged ticks of that class.
job_sum : (charges : Trace → ℕ → ℕ → Option Charge) (interferes : Trace → ℕ → ℕ → Bool) (w : Trace) (bound : ℕ → ℕ) (n : ℕ)
    (items : List ItemDef) (c : Class) (j : ℕ) → ChargesBlocked charges interferes w → IsChargeTable charges interferes w bound n items
    → j < length w.jobs
    → sum_below (length items)
    (λ k. only_if (((item_at items k).blocked == j) && is_same_class c (item_at items k).class) (item_at items k).ticks)
    ≡ class_ticks charges w bound n c j
unfolding class_ticks
job_sum charges interferes w bound n items c j only table listed =
    sum_below-agree (length items)
    (λ k. only_if (((item_at items k).blocked == j) && is_same_class c (item_at items k).class) (item_at items k).ticks)
    (λ k. count_below (window_end w bound n j) (λ t. counts_for j c (charged_request charges w t j) (item_at items k)))
    (λ k l. ticks_by_tick charges w bound n j c (item_at items k) (table.counted k no_item l))
    ∙ sum_below-swap (length items) (window_end w bound n j)
    (λ k t. flag (counts_for j c (charged_request charges w t j) (item_at items k)))
    ∙ sum_below-agree (window_end w bound n j)
    (λ t. count_below (length items) (λ k. counts_for j c (charged_request charges w t j) (item_at items k)))
    (λ t. flag (is_of_class c (charges w t j)))
    (λ t l. tick_counts charges interferes w bound n items c t j only table listed l)

only_if-both : (b c : Bool) (m : ℕ) → only_if b (only_if c m) ≡ only_if (b && c) m
only_if-both true c m = refl
only_if-both false c m = refl

-- An item counts for the task of its blocked job: once, over all jobs.
item_by_jobs : (w : Trace) (x : ℕ) (c : Class) (item : ItemDef) → item.blocked < length w.jobs
    → only_if ((task_of w item.blocked == x) && is_same_class c item.class) item.ticks
    ≡ sum_below (length w.jobs) (λ j. only_if (task_of w j == x) (only_if ((item.blocked == j) && is_same_class c item.class) item.ticks))
item_by_jobs w x c item listed =
    sym (sum_below-one (length w.jobs)
    (λ j. only_if (task_of w j == x) (only_if ((item.blocked == j) && is_same_class c item.class) item.ticks)) item.blocked listed others
    ∙ here) where
      others : (j : ℕ) → j < length w.jobs → (j ≡ item.blocked → ⊥)
          → only_if (task_of w j == x) (only_if ((item.blocked == j) && is_same_class c item.class) item.ticks) ≡ 0
      others j l other =
          let f : (item.blocked == j) ≡ false = ne_eqb item.blocked j (λ e. other (sym e)) in
          rw f (only_if-nothing (task_of w j == x))

      here : only_if (task_of w item.blocked == x) (only_if ((item.blocked == item.blocked) && is_same_class c item.class) item.ticks)
          ≡ only_if ((task_of w item.blocked == x) && is_same_class c item.class) item.ticks
      here =
          let t : (item.blocked == item.blocked) ≡ true = eq-eqb item.blocked item.blocked refl in
          rw t (only_if-both (task_of w item.blocked == x) (is_same_class c item.class) item.ticks)

-- So the items of a task's jobs and a class add up to the task's sum.
task_sum : (charges : Trace → ℕ → ℕ → Option Charge) (interferes : Trace → ℕ → ℕ → Bool) (w : Trace) (bound : ℕ → ℕ) (n : ℕ)
    (items : List ItemDef) (c : Class) (x : ℕ) → ChargesBlocked charges interferes w → IsChargeTable charges interferes w bound n items
    → sum_below (length items)
    (λ k. only_if ((task_of w (item_at items k).blocked == x) && is_same_class c (item_at items k).class) (item_at items k).ticks)
    ≡ class_sum charges w bound n c x
unfolding class_sum
task_sum charges interferes w bound n items c x only table =
    sum_below-agree (length items)
    (λ k. only_if ((task_of w (item_at items k).blocked == x) && is_same_class c (item_at items k).class) (item_at items k).ticks)
    (λ k. sum_below (length w.jobs) (λ j. only_if (task_of w j == x) (of_job j k)))
    (λ k l. item_by_jobs w x c (item_at items k) (table.listed k no_item l))
    ∙ sum_below-swap (length items) (length w.jobs) (λ k j. only_if (task_of w j == x) (of_job j k))
    ∙ sum_below-agree (length w.jobs) (λ j. sum_below (length items) (λ k. only_if (task_of w j == x) (of_job j k)))
    (λ j. only_if (task_of w j == x) (class_ticks charges w bound n c j))
    (λ j l. sum_below-only_if (length items) (task_of w j == x) (of_job j)
    ∙ ap (only_if (task_of w j == x)) (job_sum charges interferes w bound n items c j only table l)) where
      of_job : ℕ → ℕ → ℕ
      of_job j k = only_if (((item_at items k).blocked == j) && is_same_class c (item_at items k).class) (item_at items k).ticks

-- The same for the items as the code's list has them.
abbrev pub no_charge : ChargeItem
no_charge = record {
  blocked = record { 0 = 0 };
  blocker = record { 0 = 0 };
  request = 0;
  resource = record { 0 = 0 };
  class = Direct;
  ticks = 0;
}

pub items_sum : (charges : Trace → ℕ → ℕ → Option Charge) (interferes : Trace → ℕ → ℕ → Bool) (w : Trace) (bound : ℕ → ℕ) (n : ℕ)
    (items : List ChargeItem) (c : Class) (x : ℕ) → ChargesBlocked charges interferes w
    → IsChargeTable charges interferes w bound n (map item_seen items)
    → sum_by (item_ticks w.jobs x c) items ≡ class_sum charges w bound n c x
items_sum charges interferes w bound n items c x only table =
    sym (sum_below-list_by (item_ticks w.jobs x c) no_charge items)
    ∙ sum_below-agree (length items) (λ k. item_ticks w.jobs x c (get_or items k no_charge)) (λ k. seen (item_at (map item_seen items) k))
    (λ k l. sym (ap seen (get_or-map item_seen items k no_charge no_item l)))
    ∙ ap (λ m. sum_below m (λ k. seen (item_at (map item_seen items) k))) (sym (length-map items item_seen))
    ∙ task_sum charges interferes w bound n (map item_seen items) c x only table where
      seen : ItemDef → ℕ
      seen item = only_if ((task_of w item.blocked == x) && is_same_class c item.class) item.ticks
