-- The steps of a value of the form. All that the form requires is there, so the zeros and the `null` for a missing part are never used.
use Rattle.std.specs.Prelude.{List, map, codes, unwrap_or}
use Rattle.serde_json.specs.Data.{Data, null}
use Rattle.serde_json.specs.Find.{get}
use Rattle.program_form.specs.Certificate.{DualDef}
use Rattle.taskset_json.specs.Members.{whole_or, list_at}
use Rattle.cert_json.specs.Written.{dual_written}
use Rattle.refusal_laws.specs.Steps.{StepDef}

abbrev pub point_written : Data → DualDef
point_written d = dual_written (unwrap_or (get (codes "point") d) null)

abbrev pub step_written : Data → StepDef
step_written d =
    record {
      task = whole_or 0 (codes "task") d;
      value = whole_or 0 (codes "value") d;
      point = point_written d;
    }

abbrev pub steps_written : Data → List StepDef
steps_written d = map step_written (list_at (codes "steps") d)
