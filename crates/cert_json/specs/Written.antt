-- The certificate of a value of the form, and the file with its set's digest. All numbers that the form requires are there, and so is the
-- digest. So the zeros for missing ones are never used.
use Rattle.std.specs.Prelude.{ℕ, List, map, codes, unwrap_or, replicate}
use Rattle.serde_json.specs.Data.{Data}
use Rattle.program_form.specs.Certificate.{DualDef, CertificateDef}
use Rattle.taskset_json.specs.Members.{whole, whole_or, text_at, list_at}
use Rattle.cert_json.specs.Digests.{size_of_digest, digest_of}
use Rattle.cert_json.specs.FileDef.{FileDef}

abbrev pub number_written : Data → ℕ
number_written d = unwrap_or (whole d) 0

abbrev pub numbers_written : List Data → List ℕ
numbers_written ds = map number_written ds

abbrev pub dual_written : Data → DualDef
dual_written d = record { den = whole_or 0 (codes "den") d; num = numbers_written (list_at (codes "num") d) }

abbrev pub certificate_written : Data → CertificateDef
certificate_written d =
    record {
      bounds = numbers_written (list_at (codes "bounds") d);
      duals = map dual_written (list_at (codes "duals") d);
    }

abbrev pub digest_written : Data → List ℕ
digest_written d = unwrap_or (digest_of (text_at (codes "set") d)) (replicate size_of_digest 0)

abbrev pub file_written : Data → FileDef
file_written d = record { certificate = certificate_written d; digest = digest_written d }
