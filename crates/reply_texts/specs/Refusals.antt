-- The texts of refused inputs: a reason, and the place if there is one. Positions are counted from 1 in the texts.
use Rattle.std.specs.Prelude.{ℕ, ◌+◌, List, [], ◌++◌, codes, decimal}
use Rattle.sporadic_model.specs.declared.refusal.Place.{Place}
use Rattle.sporadic_model.specs.declared.refusal.Place.TheVariants as place
use Rattle.sporadic_model.specs.declared.refusal.SizeOf.{SizeOf}
use Rattle.sporadic_model.specs.declared.refusal.SizeOf.TheVariants as size
use Rattle.sporadic_model.specs.declared.refusal.ModelRefusal.{ModelRefusal}
use Rattle.sporadic_model.specs.declared.refusal.ModelRefusal.TheVariants as model
use Rattle.taskset_json.specs.declared.refusal.SetRefusal.{SetRefusal}
use Rattle.taskset_json.specs.declared.refusal.SetRefusal.TheVariants as refusal
use Rattle.cert_json.specs.declared.refusal.CertPlace.{CertPlace}
use Rattle.cert_json.specs.declared.refusal.CertPlace.TheVariants as cert_place
use Rattle.cert_json.specs.declared.refusal.CertRefusal.{CertRefusal}
use Rattle.cert_json.specs.declared.refusal.CertRefusal.TheVariants as cert
use Rattle.refusal_json.specs.declared.fault.ReadFault.{ReadFault}
use Rattle.refusal_json.specs.declared.fault.ReadFault.TheVariants as fault
use Rattle.trace_csv.specs.declared.refusal.JobsRefusal.{JobsRefusal}
use Rattle.trace_csv.specs.declared.refusal.JobsRefusal.TheVariants as jobs
use Rattle.trace_csv.specs.declared.refusal.RowsRefusal.{RowsRefusal}
use Rattle.trace_csv.specs.declared.refusal.RowsRefusal.TheVariants as rows

abbrev pub place_text : Place → List ℕ
place_text place.Root = codes "root"
place_text (place.Resource q) = codes "resource " ++ decimal (q + 1)
place_text (place.Task x) = codes "task " ++ decimal (x + 1)
place_text (place.Request x j) = codes "request " ++ (decimal (x + 1) ++ (codes " " ++ decimal (j + 1)))

abbrev pub size_text : SizeOf → List ℕ
size_text size.Processors = codes "processors"
size_text size.Tasks = codes "tasks"
size_text size.Resources = codes "resources"
size_text size.Requests = codes "requests"

-- The word of a refusal of the model, and the text after it.
abbrev pub model_word : ModelRefusal → List ℕ
model_word model.NoTask = codes "notask"
model_word (model.Size what) = codes "size "
model_word (model.Name at) = codes "name "
model_word (model.TwiceName at) = codes "twicename "
model_word (model.Processor x) = codes "processor "
model_word (model.Period x) = codes "period "
model_word (model.Deadline x) = codes "deadline "
model_word (model.Cost x) = codes "cost "
model_word (model.Local x) = codes "local "
model_word (model.Resource at) = codes "resource "
model_word (model.TwiceRequest at) = codes "twicerequest "
model_word (model.Count at) = codes "count "
model_word (model.Length at) = codes "length "
model_word (model.Home q) = codes "home "
model_word (model.Jitter x) = codes "jitter "
model_word model.Memory = []

abbrev pub model_place : ModelRefusal → List ℕ
model_place model.NoTask = []
model_place (model.Size what) = size_text what
model_place (model.Name at) = place_text at
model_place (model.TwiceName at) = place_text at
model_place (model.Processor x) = place_text (place.Task x.0)
model_place (model.Period x) = place_text (place.Task x.0)
model_place (model.Deadline x) = place_text (place.Task x.0)
model_place (model.Cost x) = place_text (place.Task x.0)
model_place (model.Local x) = place_text (place.Task x.0)
model_place (model.Resource at) = place_text at
model_place (model.TwiceRequest at) = place_text at
model_place (model.Count at) = place_text at
model_place (model.Length at) = place_text at
model_place (model.Home q) = place_text (place.Resource q.0)
model_place (model.Jitter x) = place_text (place.Task x.0)
model_place model.Memory = []

-- The reason why a task set's input is refused.
abbrev pub reason_text : SetRefusal → List ℕ
reason_text refusal.NotJson = codes "notjson"
reason_text (refusal.Shape at) = codes "shape " ++ place_text at
reason_text (refusal.Model r) = model_word r ++ model_place r
reason_text (refusal.NoHome q) = codes "nohome " ++ place_text (place.Resource q.0)
reason_text refusal.Memory = []

-- The reason why a certificate's input is refused.
abbrev pub cert_place_text : CertPlace → List ℕ
cert_place_text cert_place.Root = codes "root"
cert_place_text cert_place.Bounds = codes "bounds"
cert_place_text (cert_place.Dual k) = codes "dual " ++ decimal (k + 1)

abbrev pub cert_reason_text : CertRefusal → List ℕ
cert_reason_text cert.NotJson = codes "notjson"
cert_reason_text (cert.Shape at) = codes "shape " ++ cert_place_text at
cert_reason_text cert.Version = codes "version"
cert_reason_text cert.OtherProtocol = codes "otherprotocol"
cert_reason_text cert.Memory = []

-- The reason why the input of a certificate of refusal is refused.
abbrev pub refusal_reason_text : ReadFault → List ℕ
refusal_reason_text fault.NotJson = codes "notjson"
refusal_reason_text fault.Shape = codes "shape"
refusal_reason_text fault.OtherProtocol = codes "otherprotocol"
refusal_reason_text fault.Memory = []

-- A reason, and the number of the line that is refused: data lines are counted from 1, and the header is line 0.
abbrev pub line_text : List ℕ → ℕ → List ℕ
line_text word line = word ++ (codes " " ++ decimal line)

-- The reason why an input of jobs is refused.
abbrev pub jobs_reason_text : JobsRefusal → List ℕ
jobs_reason_text (jobs.Fields line) = line_text (codes "fields") line
jobs_reason_text (jobs.Number line) = line_text (codes "number") line
jobs_reason_text (jobs.UnknownName line) = line_text (codes "unknownname") line
jobs_reason_text (jobs.Script line) = line_text (codes "script") line
jobs_reason_text (jobs.OverBudget line) = line_text (codes "overbudget") line
jobs_reason_text (jobs.TooClose line) = line_text (codes "tooclose") line
jobs_reason_text (jobs.TooMany line) = line_text (codes "toomany") line
jobs_reason_text (jobs.Late line) = line_text (codes "late") line
jobs_reason_text jobs.Memory = []

-- The reason why an input of rows is refused.
abbrev pub rows_reason_text : RowsRefusal → List ℕ
rows_reason_text (rows.Fields line) = line_text (codes "fields") line
rows_reason_text (rows.Number line) = line_text (codes "number") line
rows_reason_text (rows.UnknownJob line) = line_text (codes "unknownjob") line
rows_reason_text (rows.TooLong line) = line_text (codes "toolong") line
rows_reason_text rows.Memory = []
