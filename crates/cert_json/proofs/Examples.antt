-- Worked examples of the form and of the order of causes.
use Rattle.std.proofs.Common.{◌≡◌, [], ◌∷◌, codes, Some, None, refl}
use Rattle.std.specs.Prelude.{replicate}
use Rattle.hex.specs.Hex.{encode_with}
use Rattle.serde_json.specs.Data.{null, number, unsigned, object, no_members, member}
use Rattle.cert_json.specs.declared.version.Version.TheVariants as version
use Rattle.cert_json.specs.declared.refusal.CertRefusal.TheVariants as refusal
use Rattle.cert_json.specs.declared.refusal.CertPlace.TheVariants as place
use Rattle.cert_json.specs.Refusals.{first_refusal}
use Rattle.serde_json.proofs.OnLiterals.{serde_json_on_literals}
use Rattle.std.specs.Fmt.{digits}
use Rattle.cert_json.specs.Text.{certificate_text}
use Rattle.cert_json.specs.Value.{certificate_data}

no_object : first_refusal version.Second (codes "fmlp+") null ≡ Some (refusal.Shape place.Root)
no_object = refl

-- The version is tried before the members that lack.
older : first_refusal version.Second (codes "fmlp+") (object (member (codes "version") (number (unsigned 1)) no_members))
    ≡ Some refusal.Version
older = refl

newer : first_refusal version.First (codes "fmlp+") (object (member (codes "version") (number (unsigned 2)) no_members))
    ≡ Some refusal.Version
newer = refl

bare : first_refusal version.Second (codes "fmlp+") (object (member (codes "version") (number (unsigned 2)) no_members))
    ≡ Some (refusal.Shape place.Root)
bare = refl

accepted : first_refusal version.Second (codes "fmlp+")
    (certificate_data (codes "fmlp+") (replicate 32 171) (record { bounds = 5 ∷ []; duals = record { den = 1; num = 2 ∷ 0 ∷ [] } ∷ [] }))
    ≡ None
unfolding encode_with
accepted = refl

no_digest : first_refusal version.Second (codes "fmlp+")
    (certificate_data (codes "fmlp+") (replicate 31 171) (record { bounds = []; duals = [] }))
    ≡ Some (refusal.Shape place.Root)
unfolding encode_with
no_digest = refl

no_denominator : first_refusal version.Second (codes "fmlp+") (certificate_data (codes "fmlp+") (replicate 32 171)
    (record { bounds = 5 ∷ []; duals = record { den = 1; num = [] } ∷ record { den = 0; num = [] } ∷ [] }))
    ≡ Some (refusal.Shape (place.Dual 1))
unfolding encode_with
no_denominator = refl

for_another : first_refusal version.Second (codes "mpcp")
    (certificate_data (codes "fmlp+") (replicate 32 171) (record { bounds = []; duals = [] }))
    ≡ Some refusal.OtherProtocol
unfolding encode_with
for_another = refl

-- The whole text of a certificate.
text : certificate_text (codes "fmlp+") (replicate 32 171)
    (record { bounds = 5 ∷ []; duals = record { den = 1; num = 2 ∷ 0 ∷ [] } ∷ [] })
    ≡ codes "{\"bounds\":[5],\"duals\":[{\"den\":1,\"num\":[2,0]}],\"protocol\":\"fmlp+\",\"set\":\"abababababababababababababababababababababababababababababababab\",\"verdict\":\"schedulable\",\"version\":2}\n"
unfolding serde_json_on_literals encode_with digits
text = refl
