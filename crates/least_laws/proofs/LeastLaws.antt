-- Bounds below all fitting vectors, and how a valid certificate shows that they are the least that fit.
use Rattle.std.proofs.Common.{◌≡◌, ◌∙◌, ℕ, ◌*◌, ◌<◌, ◌≤◌, List, length, refl, sym, arith}
use Rattle.std.proofs.lemmas.Grind.{same_number_lists}
use Rattle.std.specs.Prelude.{slice_index}
use Rattle.program_form.specs.Certificate.{CertificateDef}
use Rattle.program_form.specs.Duals.{Covers, dual_value}
use Rattle.program_form.specs.Points.{IsScaledPoint, Reaches, IsGreatestReached, worth}
use Rattle.program_form.specs.Program.{ProgramDef}
use Rattle.program_form.proofs.Duality.{dual_bounds}
use Rattle.sporadic_model.specs.SetDef.{task_at}
use Rattle.sporadic_model.specs.Bounds.{AtMost}
use Rattle.program_sources.specs.Recurrence.{SourceDef, response_with}
use Rattle.program_sources.specs.Fitting.{AreFitting, AreLeastFitting, AreBelowAllFitting, ComesUpAbove, tasks_of}
use Rattle.program_sources.specs.Valid.{IsValid}
use Rattle.program_sources.proofs.RecurrenceLaws.{cost_below_fitting, valid_fits}
use Rattle.refusal_laws.specs.Steps.{StepDef, costs_of, vector_before}
use Rattle.refusal_laws.proofs.StepLaws.{cost_at}
use Rattle.refusal_laws.proofs.NothingFits.{comes_up_below, vectors_below}
use Rattle.least_laws.specs.Rising.{AreSteps}

pub costs_below : (f : SourceDef) → AreBelowAllFitting f (costs_of f.set)
costs_below f s fits i here =
    let first : slice_index (costs_of f.set) i ≡ (task_at f.set i).cost = cost_at f.set i here in
    omega (arith, first, cost_below_fitting f s i fits here)

pub reached_below : (f : SourceDef) (v s : List ℕ) (i blocking : ℕ) → ComesUpAbove f → AreBelowAllFitting f v → AreFitting f s
    → i < tasks_of f → Reaches (f.program i v) blocking → response_with f v i blocking ≤ slice_index s i
reached_below f v s i blocking above below fits here reached =
    comes_up_below f v s i (response_with f v i blocking) here above fits (below s fits)
    (record { blocking = blocking; reached = reached; response = refl })

pub certificate_least : (f : SourceDef) (c : CertificateDef) → IsValid f c → AreBelowAllFitting f c.bounds → AreLeastFitting f c.bounds
certificate_least f c valid below = record { fitting = valid_fits f c valid; least = below }

pub steps_least : (f : SourceDef) (steps : List StepDef) (c : CertificateDef) → ComesUpAbove f → AreSteps f steps → IsValid f c
    → AtMost (tasks_of f) c.bounds (vector_before f.set steps (length steps)) → AreLeastFitting f c.bounds
steps_least f steps c above are valid most = certificate_least f c valid (λ s fits i here.
    let low : slice_index c.bounds i ≤ slice_index (vector_before f.set steps (length steps)) i = most i here in
    let high : slice_index (vector_before f.set steps (length steps)) i ≤ slice_index s i =
    vectors_below f steps s above fits are (length steps) (omega arith) i here in
    omega (arith, low, high))

pub meeting_is_greatest : (p : ProgramDef) (s : ℕ) (ys : ℕ → ℕ) (den : ℕ) (num : ℕ → ℕ) → IsScaledPoint p s ys → Covers p den num
    → dual_value p den num * s ≤ worth p ys → IsGreatestReached p (dual_value p den num)
meeting_is_greatest p s ys den num point dual most = record {
  reached = record { scale = s; point = ys; is_point = point; reached = most };
  greatest = λ c reached. dual_bounds p den num c dual reached;
}

pub least_are_one : (f : SourceDef) (r s : List ℕ) → AreLeastFitting f r → AreLeastFitting f s → r ≡ s
least_are_one f r s a b = same_number_lists r s (a.fitting.one_each ∙ sym b.fitting.one_each) (λ i here.
    let below : i < tasks_of f = omega (arith, here, a.fitting.one_each) in
    omega (arith, a.least s b.fitting i below, b.least r a.fitting i below))
