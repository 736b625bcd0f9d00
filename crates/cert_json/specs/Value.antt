-- The JSON value of a certificate. The members are in the order of their names.
use Rattle.std.specs.Prelude.{ℕ, List, map, codes}
use Rattle.serde_json.specs.Data.{Data, number, unsigned, string, array, object, no_members, member}
use Rattle.serde_json.specs.View.{items_of}
use Rattle.program_form.specs.Certificate.{DualDef, CertificateDef}
use Rattle.cert_json.specs.Digests.{digest_text}

abbrev pub number_data : ℕ → Data
number_data n = number (unsigned n)

abbrev pub numbers_data : List ℕ → Data
numbers_data ns = array (items_of (map number_data ns))

abbrev pub dual_data : DualDef → Data
dual_data dual = object (member (codes "den") (number_data dual.den) (member (codes "num") (numbers_data dual.num) no_members))

-- A certificate for the protocol of this word, and the set of this digest.
abbrev pub certificate_data : List ℕ → List ℕ → CertificateDef → Data
certificate_data word digest certificate =
    object
    (member (codes "bounds") (numbers_data certificate.bounds)
    (member (codes "duals") (array (items_of (map dual_data certificate.duals)))
    (member (codes "protocol") (string word)
    (member (codes "set") (string (digest_text digest))
    (member (codes "verdict") (string (codes "schedulable"))
    (member (codes "version") (number_data 2) no_members))))))
