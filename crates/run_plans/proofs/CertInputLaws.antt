-- The bytes of a certificate are read in one way.
use Rattle.std.proofs.Common.{◌≡◌, ℕ, List, refl, ap, inl, inr, Ok, Err, Some, None}
use Rattle.std.specs.Prelude.{Option, Result}
use Rattle.serde_json.specs.Data.{Data}
use Rattle.program_form.specs.Certificate.{certificate_seen}
use Rattle.program_form.specs.declared.certificate.Certificate.{Certificate}
use Rattle.protocol_names.specs.declared.ProtocolName.{ProtocolName}
use Rattle.taskset_json.specs.Answers.{IsValue}
use Rattle.protocol_names.specs.Names.{word_of}
use Rattle.cert_json.specs.File.{file_seen}
use Rattle.cert_json.specs.Refusals.{first_refusal}
use Rattle.cert_json.specs.Written.{certificate_written, file_written}
use Rattle.cert_json.specs.Answers.{ReadsAs, Reads, ReadsOld}
use Rattle.cert_json.specs.declared.file.CertFile.{CertFile}
use Rattle.cert_json.specs.declared.refusal.CertRefusal.{CertRefusal}
use Rattle.cert_json.specs.declared.refusal.CertRefusal.TheVariants as cert
use Rattle.cert_json.specs.declared.version.Version.{Version}
use Rattle.cert_json.specs.declared.version.Version.TheVariants as version
use Rattle.cert_json.proofs.FormLaws.{none_from_form}
use Rattle.command_inputs.specs.Inputs.{ReadsCert, cert_input, old_cert_input}
use Rattle.run_plans.proofs.OneReading.{IsOfValue, Says, one_saying}
use Rattle.run_plans.proofs.PlanLaws.{ReadsOnce}

-- What reading says of a value, as a function of the value.
judge : {A : Type 0} → Option CertRefusal → A → Result A CertRefusal
judge None c = Ok c
judge (Some r) c = Err r

judgement : {A : Type 0} → Version → (Data → A) → ProtocolName → Data → Result A CertRefusal
judgement v writes p d = judge (first_refusal v (word_of p) d) (writes d)

refused_value : {A : Type 0} (v : Version) (writes : Data → A) (p : ProtocolName) (r : CertRefusal) (bytes : List ℕ) (d : Data)
    → IsValue bytes d → first_refusal v (word_of p) d ≡ Some r → IsOfValue (judgement v writes p) (Err r) bytes
unfolding judgement judge
refused_value v writes p r bytes d is due = record { value = d; is_value = is; is = rw due refl }

-- Either the bytes have no value, or the answer is the judgement on their value.
says : {A : Type 0} (v : Version) (writes : Data → A) (p : ProtocolName) (r : Result A CertRefusal) (bytes : List ℕ)
    → ReadsCert v writes p bytes r → Says cert.NotJson (judgement v writes p) r bytes
unfolding judgement judge
says v writes p (Ok c) bytes (d, is, form, same) =
    inr (record { value = d; is_value = is; is = rw (none_from_form v (word_of p) d form) (ap (λ x. Ok x) same) })
says v writes p (Err cert.NotJson) bytes none = inl (record { none = none; is = refl })
says v writes p (Err cert.Memory) bytes reads = absurd reads
says v writes p (Err (cert.Shape place)) bytes (d, is, due) = inr (refused_value v writes p (cert.Shape place) bytes d is due)
says v writes p (Err cert.Version) bytes (d, is, due) = inr (refused_value v writes p cert.Version bytes d is due)
says v writes p (Err cert.OtherProtocol) bytes (d, is, due) = inr (refused_value v writes p cert.OtherProtocol bytes d is due)

pub cert_reads_once : (protocol : ProtocolName) → ReadsOnce (cert_input protocol)
cert_reads_once protocol bytes r s p q = one_saying cert.NotJson (judgement version.Second file_written protocol) r s bytes
    (says version.Second file_written protocol r bytes p) (says version.Second file_written protocol s bytes q)

pub old_cert_reads_once : (protocol : ProtocolName) → ReadsOnce (old_cert_input protocol)
old_cert_reads_once protocol bytes r s p q = one_saying cert.NotJson (judgement version.First certificate_written protocol) r s bytes
    (says version.First certificate_written protocol r bytes p) (says version.First certificate_written protocol s bytes q)

-- What the reader says of bytes, in the words of the input: a certificate, or the refusal.
pub read_cert : (p : ProtocolName) (bytes : List ℕ) (file : CertFile) → Reads (Ok file) (word_of p) bytes
    → ReadsCert version.Second file_written p bytes (Ok (file_seen file))
read_cert p bytes file reads = (reads.0, reads.1, reads.2.0, reads.2.1)

pub read_old_cert : (p : ProtocolName) (bytes : List ℕ) (c : Certificate) → ReadsOld (Ok c) (word_of p) bytes
    → ReadsCert version.First certificate_written p bytes (Ok (certificate_seen c))
read_old_cert p bytes c reads = (reads.0, reads.1, reads.2.0, reads.2.1)

pub refused_cert : {T A : Type 0} (v : Version) (IsOf : T → Data → Type 0) (writes : Data → A) (p : ProtocolName) (bytes : List ℕ)
    (r : CertRefusal) → ReadsAs v IsOf (Err r) (word_of p) bytes → (r ≡ cert.Memory → ⊥) → ReadsCert v writes p bytes (Err r)
refused_cert v IsOf writes p bytes cert.NotJson reads other = reads
refused_cert v IsOf writes p bytes cert.Memory reads other = absurd (other refl)
refused_cert v IsOf writes p bytes (cert.Shape place) reads other = reads
refused_cert v IsOf writes p bytes cert.Version reads other = reads
refused_cert v IsOf writes p bytes cert.OtherProtocol reads other = reads
