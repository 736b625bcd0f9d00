-- In a lawful schedule the three sums of a task are all the blocked ticks of its jobs' windows.
use Rattle.std.proofs.Common.{◌≡◌, ℕ, ◌+◌, ◌==◌, Bool, true, false, length, refl, sym, ap, ◌∙◌, arith, Option, Some, None}
use Rattle.number_laws.specs.Sums.{sum_below, flag, only_if}
use Rattle.number_laws.specs.Tests.{count_below}
use Rattle.number_laws.proofs.SumLaws.{sum_below-agree, sum_below-plus}
use Rattle.schedule_model.specs.RowDef.{Trace}
use Rattle.schedule_model.specs.Activity.{task_of}
use Rattle.schedule_model.specs.BlockedTicks.{is_blocked}
use Rattle.blocking_columns.specs.declared.columns.Class.{Class}
use Rattle.blocking_columns.specs.declared.columns.Class.TheVariants.{Direct, Indirect, Preemption}
use Rattle.charge_laws.specs.Charges.{Charge}
use Rattle.charge_laws.specs.Windows.{window_end}
use Rattle.figure_laws.specs.Figures.{is_of_class, class_ticks, class_sum, blocked_sum, ChargesBlocked, BlockedCharged}

-- A charge is of one class.
one_class : (o : Option Charge) (b : Bool) → ((charge : Charge) → o ≡ Some charge → b ≡ true)
    → (b ≡ true → (charge : Charge) × (o ≡ Some charge))
    → flag (is_of_class Direct o) + (flag (is_of_class Indirect o) + flag (is_of_class Preemption o)) ≡ flag b
one_class None true only all = let a : (charge : Charge) × (None ≡ Some charge) = all refl in let no : None ≡ Some a.0 = a.1 in absurd (cc)
one_class None false only all = refl
one_class (Some charge) b only all = rw (only charge refl) (one charge.class) where
  one : (c : Class) → flag (is_of_class Direct (Some (record { job = charge.job; class = c })))
      + (flag (is_of_class Indirect (Some (record { job = charge.job; class = c })))
      + flag (is_of_class Preemption (Some (record { job = charge.job; class = c })))) ≡ 1
  one Direct = refl
  one Indirect = refl
  one Preemption = refl

job_adds_up : (charges : Trace → ℕ → ℕ → Option Charge) (interferes : Trace → ℕ → ℕ → Bool) (w : Trace) (bound : ℕ → ℕ) (n j : ℕ)
    → ChargesBlocked charges interferes w → BlockedCharged charges interferes w n
    → class_ticks charges w bound n Direct j + (class_ticks charges w bound n Indirect j + class_ticks charges w bound n Preemption j)
    ≡ count_below (window_end w bound n j) (λ t. is_blocked interferes w t j)
unfolding class_ticks
job_adds_up charges interferes w bound n j only all =
    let m : ℕ = window_end w bound n j in
    ap (λ k. count_below m (in_class Direct) + k)
    (sym (sum_below-plus m (λ t. flag (in_class Indirect t)) (λ t. flag (in_class Preemption t))))
    ∙ sym (sum_below-plus m (λ t. flag (in_class Direct t)) (λ t. flag (in_class Indirect t) + flag (in_class Preemption t)))
    ∙ sum_below-agree m (λ t. flag (in_class Direct t) + (flag (in_class Indirect t) + flag (in_class Preemption t)))
    (λ t. flag (is_blocked interferes w t j))
    (λ t l. one_class (charges w t j) (is_blocked interferes w t j) (only t j) (all t j (omega (arith, l)))) where
      in_class : Class → ℕ → Bool
      in_class c t = is_of_class c (charges w t j)

only_if-plus : (b : Bool) (d i p : ℕ) → only_if b d + (only_if b i + only_if b p) ≡ only_if b (d + (i + p))
only_if-plus true d i p = refl
only_if-plus false d i p = refl

pub sums_add_up : (charges : Trace → ℕ → ℕ → Option Charge) (interferes : Trace → ℕ → ℕ → Bool) (w : Trace) (bound : ℕ → ℕ) (n x : ℕ)
    → ChargesBlocked charges interferes w → BlockedCharged charges interferes w n
    → class_sum charges w bound n Direct x + (class_sum charges w bound n Indirect x + class_sum charges w bound n Preemption x)
    ≡ blocked_sum interferes w bound n x
unfolding class_sum blocked_sum
sums_add_up charges interferes w bound n x only all =
    ap (λ k. sum_below (length w.jobs) (of Direct) + k) (sym (sum_below-plus (length w.jobs) (of Indirect) (of Preemption)))
    ∙ sym (sum_below-plus (length w.jobs) (of Direct) (λ j. of Indirect j + of Preemption j))
    ∙ sum_below-agree (length w.jobs) (λ j. of Direct j + (of Indirect j + of Preemption j))
    (λ j. only_if (task_of w j == x) (count_below (window_end w bound n j) (λ t. is_blocked interferes w t j)))
    (λ j l. only_if-plus (task_of w j == x) (class_ticks charges w bound n Direct j) (class_ticks charges w bound n Indirect j)
    (class_ticks charges w bound n Preemption j)
    ∙ ap (only_if (task_of w j == x)) (job_adds_up charges interferes w bound n j only all)) where
      of : Class → ℕ → ℕ
      of c j = only_if (task_of w j == x) (class_ticks charges w bound n c j)
