-- What do the answers of reading say?
use Rattle.std.specs.Prelude.{◌≡◌, ℕ, true, List, Some, Result, Ok, Err}
use Rattle.serde_json.specs.Data.{Data}
use Rattle.program_form.specs.declared.certificate.Certificate.{Certificate}
use Rattle.program_form.specs.Certificate.{certificate_seen}
use Rattle.taskset_json.specs.Answers.{IsValue}
use Rattle.cert_json.specs.declared.file.CertFile.{CertFile}
use Rattle.cert_json.specs.declared.version.Version.{Version}
use Rattle.cert_json.specs.declared.version.Version.TheVariants as version
use Rattle.cert_json.specs.declared.refusal.CertRefusal.{CertRefusal}
use Rattle.cert_json.specs.declared.refusal.CertRefusal.TheVariants as refusal
use Rattle.cert_json.specs.FileDef.{FileDef}
use Rattle.cert_json.specs.File.{file_seen}
use Rattle.cert_json.specs.Versions.{has_form_of}
use Rattle.cert_json.specs.Refusals.{first_refusal}
use Rattle.cert_json.specs.Written.{certificate_written, file_written}

-- What the answer on a value says of it. The value has the version's form for the protocol of the word, and this is its certificate. Or
-- this is the first cause to refuse it. Only want of memory says nothing of it.
abbrev pub JudgesValue : {T : Type 0} → Version → (T → Data → Type 0) → Result T CertRefusal → List ℕ → Data → Type 0
JudgesValue v IsOf (Ok t) word d = (has_form_of v word d ≡ true) × IsOf t d
JudgesValue v IsOf (Err refusal.NotJson) word d = ⊥
JudgesValue v IsOf (Err (refusal.Shape place)) word d = first_refusal v word d ≡ Some (refusal.Shape place)
JudgesValue v IsOf (Err refusal.Version) word d = first_refusal v word d ≡ Some refusal.Version
JudgesValue v IsOf (Err refusal.OtherProtocol) word d = first_refusal v word d ≡ Some refusal.OtherProtocol
JudgesValue v IsOf (Err refusal.Memory) word d = Unit {0}

-- What the answer of reading says of the bytes: they are no JSON text, or what it says of their value. Only want of memory says nothing of
-- them.
abbrev pub ReadsAs : {T : Type 0} → Version → (T → Data → Type 0) → Result T CertRefusal → List ℕ → List ℕ → Type 0
ReadsAs v IsOf (Err refusal.NotJson) word bytes = (d : Data) → IsValue bytes d → ⊥
ReadsAs v IsOf (Err refusal.Memory) word bytes = Unit {0}
ReadsAs v IsOf answer word bytes = (d : Data) × IsValue bytes d × JudgesValue v IsOf answer word d

-- Is this the file of the value, and is this its certificate?
abbrev pub IsFileOf : CertFile → Data → Type 0
IsFileOf file d = file_seen file ≡ file_written d

abbrev pub IsCertificateOf : Certificate → Data → Type 0
IsCertificateOf c d = certificate_seen c ≡ certificate_written d

-- What the answer of reading says of the bytes, for a certificate of version 2, and of version 1.
abbrev pub Reads : Result CertFile CertRefusal → List ℕ → List ℕ → Type 0
Reads answer word bytes = ReadsAs version.Second IsFileOf answer word bytes

abbrev pub ReadsOld : Result Certificate CertRefusal → List ℕ → List ℕ → Type 0
ReadsOld answer word bytes = ReadsAs version.First IsCertificateOf answer word bytes

-- Does the answer give this file, except for want of memory?
abbrev pub Gives : Result CertFile CertRefusal → FileDef → Type 0
Gives (Ok k) f = file_seen k ≡ f
Gives (Err r) f = r ≡ refusal.Memory
