-- What a valid certificate and a lawful schedule imply for the figures.
use Rattle.std.proofs.Common.{◌≡◌, ℕ, ◌<◌, Bool, List, length, get_or, map, sym, ap, ◌∙◌, subst, arith, Option}
use Rattle.std.specs.Prelude.{slice_index}
use Rattle.std.specs.List.{All}
use Rattle.std.proofs.lemmas.List.{get_or_default, get_or-map, length-map}
use Rattle.program_form.specs.Certificate.{CertificateDef}
use Rattle.sporadic_model.specs.Accepted.{IsAccepted, TaskNumbers}
use Rattle.sporadic_model.proofs.Laws.{numbers_of_accepted}
use Rattle.schedule_model.specs.RowDef.{Trace}
use Rattle.schedule_model.specs.Measures.{measures_of}
use Rattle.program_sources.specs.Recurrence.{SourceDef}
use Rattle.program_sources.specs.Valid.{IsValid}
use Rattle.charge_laws.specs.Charges.{Charge}
use Rattle.charge_laws.specs.Windows.{AreBounds}
use Rattle.blocking_columns.specs.declared.columns.Class.TheVariants.{Direct, Indirect, Preemption}
use Rattle.soundness_laws.specs.Sound.{KeepsBounds}
use Rattle.soundness_laws.proofs.MeasuresKept.{measured_response, measured_blocking}
use Rattle.charge.specs.declared.item.ChargeItem.{ChargeItem}
use Rattle.charge.specs.Table.{item_seen, IsChargeTable}
use Rattle.schedule_answers.specs.declared.audited.TaskFigures.{TaskFigures}
use Rattle.schedule_answers.specs.TaskAnswers.{no_figures}
use Rattle.figure_laws.specs.Figures.{class_sum, blocked_sum, figures_of, AreFigures, ChargesBlocked, BlockedCharged}
use Rattle.figure_laws.specs.Audited.{LieWithin, charged_ticks}
use Rattle.figure_laws.proofs.AddUp.{sums_add_up}

-- The bounds of a valid certificate are from 1 to the latest bounds.
pub valid_bounds : (f : SourceDef) (c : CertificateDef) → IsAccepted f.set → IsValid f c → AreBounds f.set (slice_index c.bounds)
valid_bounds f c accepted valid = record {
  from = λ x l.
      let numbers : TaskNumbers f.set x = numbers_of_accepted f.set x accepted l in
      let enough = (valid.proved x l).enough in
      omega (arith, numbers.cost_from, enough);
  latest = λ x l. (valid.proved x l).within;
}

-- The items of a table are of listed jobs, in the code's list too.
pub items_listed : (charges : Trace → ℕ → ℕ → Option Charge) (interferes : Trace → ℕ → ℕ → Bool) (w : Trace) (bound : ℕ → ℕ) (n : ℕ)
    (items : List ChargeItem) → IsChargeTable charges interferes w bound n (map item_seen items)
    → All (λ item. item.blocked.0 < length w.jobs) items
items_listed charges interferes w bound n items table k d l =
    subst (λ item. item.blocked < length w.jobs) (get_or-map item_seen items k d (item_seen d) l)
    (table.listed k (item_seen d) (rw (length-map items item_seen) l))

-- The figures with the values as a list are the figures with the duals' values.
pub same_values : (charges : Trace → ℕ → ℕ → Option Charge) (interferes : Trace → ℕ → ℕ → Bool) (w : Trace) (bound v u : ℕ → ℕ) (n : ℕ)
    (figures : List TaskFigures) → ((x : ℕ) → x < length w.set.tasks → v x ≡ u x) → AreFigures charges interferes w bound v n figures
    → AreFigures charges interferes w bound u n figures
unfolding figures_of
same_values charges interferes w bound v u n figures same are = record {
  size = are.size;
  each = λ x l. are.each x l ∙ ap (with_value x) (same x l);
} where
  with_value : ℕ → ℕ → TaskFigures
  with_value x value = record {
    response = (measures_of interferes w n x).response;
    bound = bound x;
    blocking = (measures_of interferes w n x).blocking;
    value = value;
    direct = class_sum charges w bound n Direct x;
    indirect = class_sum charges w bound n Indirect x;
    preemption = class_sum charges w bound n Preemption x;
  }

-- In a schedule that keeps its bounds and values, the figures are within them.
pub lie_within : (charges : Trace → ℕ → ℕ → Option Charge) (interferes : Trace → ℕ → ℕ → Bool) (w : Trace) (bounds values : List ℕ) (n : ℕ)
    (figures : List TaskFigures) → KeepsBounds interferes w n bounds values
    → AreFigures charges interferes w (slice_index bounds) (slice_index values) n figures → All LieWithin figures
unfolding figures_of
lie_within charges interferes w bounds values n figures kept are k d l =
    subst LieWithin (sym (get_or_default figures k d no_figures l ∙ are.each k (omega (arith, l, are.size)))) (record {
      response = measured_response interferes w n bounds values k kept;
      blocking = measured_blocking interferes w n bounds values k kept;
    })

-- And their ticks are all the blocked ticks.
pub add_up : (charges : Trace → ℕ → ℕ → Option Charge) (interferes : Trace → ℕ → ℕ → Bool) (w : Trace) (bound value : ℕ → ℕ) (n : ℕ)
    (figures : List TaskFigures) → ChargesBlocked charges interferes w → BlockedCharged charges interferes w n
    → AreFigures charges interferes w bound value n figures → (x : ℕ) → x < length w.set.tasks
    → charged_ticks (get_or figures x no_figures) ≡ blocked_sum interferes w bound n x
unfolding figures_of
add_up charges interferes w bound value n figures only all are x l =
    ap charged_ticks (are.each x l) ∙ sums_add_up charges interferes w bound n x only all
