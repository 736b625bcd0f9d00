-- What contracts see of a refusal: its numbers.
use Rattle.std.specs.Prelude.{List, map}
use Rattle.program_form.specs.Certificate.{dual_seen}
use Rattle.refusal_laws.specs.Steps.{StepDef}
use Rattle.refusal_laws.specs.declared.refusal.RefusalStep.{RefusalStep}
use Rattle.refusal_laws.specs.declared.refusal.Refusal.{Refusal}

abbrev pub step_seen : RefusalStep → StepDef
step_seen s = record { task = s.task; value = s.value; point = dual_seen s.point }

abbrev pub steps_seen : Refusal → List StepDef
steps_seen r = map step_seen r.steps.items
