-- The text of a certificate: one compact JSON object, as `serde_json` writes it, and a line end.
use Rattle.std.specs.Prelude.{ℕ, List, ◌++◌, codes}
use Rattle.serde_json.specs.Written.{compact_text}
use Rattle.program_form.specs.Certificate.{CertificateDef}
use Rattle.cert_json.specs.Value.{certificate_data}

-- The text of a certificate for the protocol of this word, and the set of this digest.
abbrev pub certificate_text : List ℕ → List ℕ → CertificateDef → List ℕ
certificate_text word digest certificate = compact_text (certificate_data word digest certificate) ++ codes "\n"
