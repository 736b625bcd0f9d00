-- The inputs of commands.
use Rattle.std.specs.Prelude.{◌≡◌, ℕ, true, false, List, codes, None, Some, Result, Ok, Err}
use Rattle.serde_json.specs.Data.{Data}
use Rattle.program_form.specs.Certificate.{CertificateDef}
use Rattle.sporadic_model.specs.SetDef.{SetDef}
use Rattle.protocol_names.specs.declared.ProtocolName.{ProtocolName}
use Rattle.taskset_json.specs.Answers.{IsValue, Reads, first_homeless}
use Rattle.taskset_json.specs.declared.refusal.SetRefusal.{SetRefusal}
use Rattle.taskset_json.specs.declared.refusal.SetRefusal.TheVariants as refusal
use Rattle.cert_json.specs.FileDef.{FileDef}
use Rattle.cert_json.specs.Form.{has_form}
use Rattle.cert_json.specs.Versions.{has_form_of}
use Rattle.cert_json.specs.Refusals.{first_refusal}
use Rattle.cert_json.specs.Written.{certificate_written, file_written}
use Rattle.cert_json.specs.declared.version.Version.{Version}
use Rattle.cert_json.specs.declared.version.Version.TheVariants as version
use Rattle.protocol_names.specs.Names.{word_of, homes_as}
use Rattle.cert_json.specs.declared.refusal.CertRefusal.{CertRefusal}
use Rattle.cert_json.specs.declared.refusal.CertRefusal.TheVariants as cert
use Rattle.schedule_model.specs.JobDef.{JobsDef}
use Rattle.schedule_model.specs.Fitting.{RowsDef}
use Rattle.trace_csv.specs.JobsFile.{JobsRead}
use Rattle.trace_csv.specs.RowsFile.{RowsRead}
use Rattle.trace_csv.specs.declared.refusal.JobsRefusal.{JobsRefusal}
use Rattle.trace_csv.specs.declared.refusal.JobsRefusal.TheVariants as jobs
use Rattle.trace_csv.specs.declared.refusal.RowsRefusal.{RowsRefusal}
use Rattle.trace_csv.specs.declared.refusal.RowsRefusal.TheVariants as rows
use Rattle.cert_json.specs.FormParts.{is_for}
use Rattle.cert_json.specs.Written.{digest_written}
use Rattle.refusal_json.specs.Form.{is_refusal}
use Rattle.refusal_json.specs.Written.{steps_written}
use Rattle.refusal_json.specs.declared.fault.ReadFault.{ReadFault}
use Rattle.refusal_json.specs.declared.fault.ReadFault.TheVariants as fault
use Rattle.command_inputs.specs.RefusalDef.{RefusalDef}
use Rattle.command_inputs.specs.Known.{Input}
use Rattle.reply_texts.specs.Refusals.{reason_text, cert_reason_text, refusal_reason_text, jobs_reason_text, rows_reason_text}

-- A task set for a protocol: an accepted set in which each resource has the home that the protocol asks for.
abbrev pub ReadsSet : ProtocolName → List ℕ → Result SetDef SetRefusal → Type 0
ReadsSet protocol bytes (Ok set) = Reads (Ok set) bytes × (first_homeless set (homes_as protocol) ≡ None)
ReadsSet protocol bytes (Err (refusal.NoHome q)) = (set : SetDef) × (Reads (Ok set) bytes) × (first_homeless set (homes_as protocol) ≡ Some q.0)
ReadsSet protocol bytes (Err refusal.Memory) = ⊥
ReadsSet protocol bytes (Err r) = Reads (Err r) bytes

abbrev pub set_input : ProtocolName → Input
set_input protocol = record { Value = SetDef; Refusal = SetRefusal; word = codes "set"; reads = ReadsSet protocol; reason = reason_text }

-- Reads a certificate of this version for a protocol. Either the bytes are a text of one, and this is the certificate that their value
-- gives. Or this is the first reason for which their value is refused. Running out of memory is no reading.
abbrev pub ReadsCert : {A : Type 0} → Version → (Data → A) → ProtocolName → List ℕ → Result A CertRefusal → Type 0
ReadsCert v writes protocol bytes (Ok c) = (d : Data) × IsValue bytes d × (has_form_of v (word_of protocol) d ≡ true) × (c ≡ writes d)
ReadsCert v writes protocol bytes (Err cert.NotJson) = (d : Data) → IsValue bytes d → ⊥
ReadsCert v writes protocol bytes (Err cert.Memory) = ⊥
ReadsCert v writes protocol bytes (Err r) = (d : Data) × IsValue bytes d × (first_refusal v (word_of protocol) d ≡ Some r)

-- The bytes are a text of a certificate for a protocol, with its set's digest. This is the certificate that their value gives.
abbrev pub IsFileText : ProtocolName → List ℕ → FileDef → Type 0
IsFileText protocol bytes file = (d : Data) × IsValue bytes d × (has_form (word_of protocol) d ≡ true) × (file ≡ file_written d)

abbrev pub cert_input : ProtocolName → Input
cert_input protocol = record {
  Value = FileDef;
  Refusal = CertRefusal;
  word = codes "cert";
  reads = ReadsCert version.Second file_written protocol;
  reason = cert_reason_text;
}

-- A certificate of the version before, which has no digest.
abbrev pub old_cert_input : ProtocolName → Input
old_cert_input protocol = record {
  Value = CertificateDef;
  Refusal = CertRefusal;
  word = codes "cert";
  reads = ReadsCert version.First certificate_written protocol;
  reason = cert_reason_text;
}

-- The bytes are a text of a certificate of refusal for a protocol, with its set's digest. This is the certificate that their value
-- gives.
abbrev pub IsRefusalText : ProtocolName → List ℕ → RefusalDef → Type 0
IsRefusalText protocol bytes file = (d : Data) × IsValue bytes d × (is_refusal d ≡ true) × (is_for (word_of protocol) d ≡ true)
    × (file ≡ record { steps = steps_written d; digest = digest_written d })

-- Reads a certificate of refusal for a protocol, or gives the first reason for which it is refused. Running out of memory is no
-- reading.
abbrev pub ReadsRefusal : ProtocolName → List ℕ → Result RefusalDef ReadFault → Type 0
ReadsRefusal protocol bytes (Ok file) = IsRefusalText protocol bytes file
ReadsRefusal protocol bytes (Err fault.NotJson) = (d : Data) → IsValue bytes d → ⊥
ReadsRefusal protocol bytes (Err fault.Shape) = (d : Data) × IsValue bytes d × (is_refusal d ≡ false)
ReadsRefusal protocol bytes (Err fault.OtherProtocol) =
    (d : Data) × IsValue bytes d × (is_refusal d ≡ true) × (is_for (word_of protocol) d ≡ false)
ReadsRefusal protocol bytes (Err fault.Memory) = ⊥

abbrev pub refusal_input : ProtocolName → Input
refusal_input protocol = record {
  Value = RefusalDef;
  Refusal = ReadFault;
  word = codes "cert";
  reads = ReadsRefusal protocol;
  reason = refusal_reason_text;
}

-- Reads jobs of a task set. Running out of memory is no reading.
abbrev pub ReadsJobs : SetDef → List ℕ → Result JobsDef JobsRefusal → Type 0
ReadsJobs set bytes (Err jobs.Memory) = ⊥
ReadsJobs set bytes r = JobsRead r set bytes

abbrev pub jobs_input : SetDef → Input
jobs_input set = record { Value = JobsDef; Refusal = JobsRefusal; word = codes "jobs"; reads = ReadsJobs set; reason = jobs_reason_text }

-- Reads rows of these jobs.
abbrev pub ReadsRows : JobsDef → List ℕ → Result RowsDef RowsRefusal → Type 0
ReadsRows list bytes (Err rows.Memory) = ⊥
ReadsRows list bytes r = RowsRead r list bytes

abbrev pub rows_input : JobsDef → Input
rows_input list = record { Value = RowsDef; Refusal = RowsRefusal; word = codes "rows"; reads = ReadsRows list; reason = rows_reason_text }
