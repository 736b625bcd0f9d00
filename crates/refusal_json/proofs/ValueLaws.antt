-- The value of a refusal's text has no floats, so what is written is its compact text.
use Rattle.std.proofs.Common.{◌≡◌, ℕ, ◌||◌, false, List, [], ◌∷◌, map, refl, ap₂}
use Rattle.serde_json.specs.View.{items_of}
use Rattle.serde_json.specs.Written.{has_float, items_have_float}
use Rattle.cert_json.proofs.ValueLaws.{whole-dual}
use Rattle.refusal_laws.specs.Steps.{StepDef}
use Rattle.refusal_json.specs.Value.{step_data, refusal_data}

whole-step : (s : StepDef) → has_float (step_data s) ≡ false
whole-step s = ap₂ (λ a b. a || b) (whole-dual s.point) refl

whole-steps : (steps : List StepDef) → items_have_float (items_of (map step_data steps)) ≡ false
whole-steps [] = refl
whole-steps (s ∷ steps) = ap₂ (λ a b. a || b) (whole-step s) (whole-steps steps)

pub whole-refusal : (word digest : List ℕ) (steps : List StepDef) → has_float (refusal_data word digest steps) ≡ false
whole-refusal word digest steps = rw (whole-steps steps) refl
