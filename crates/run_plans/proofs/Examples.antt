-- The text of a worked certificate: bounds of 5 ticks for two tasks that share a resource, and a dual of four numerators for each. The
-- digest is that of the bytes of `examples/pair.json` in one line.
use Rattle.std.proofs.Common.{◌≡◌, ℕ, List, ◌++◌, [], ◌∷◌, refl}
use Rattle.std.specs.Prelude.{codes}
use Rattle.std.specs.Fmt.{digits}
use Rattle.hex.specs.Hex.{encode_with}
use Rattle.serde_json.proofs.OnLiterals.{serde_json_on_literals}
use Rattle.program_form.specs.Certificate.{CertificateDef}
use Rattle.sporadic_model.specs.declared.ids.Protocol.TheVariants as protocol
use Rattle.protocol_names.specs.declared.ProtocolName.TheVariants as name
use Rattle.protocol_names.specs.Names.{word_of}
use Rattle.cert_json.specs.Text.{certificate_text}

abbrev first : CertificateDef
first = record {
  bounds = 5 ∷ 5 ∷ [];
  duals = record { den = 1; num = 2 ∷ 0 ∷ 0 ∷ 0 ∷ [] } ∷ record { den = 1; num = 1 ∷ 0 ∷ 0 ∷ 0 ∷ [] } ∷ [];
}

abbrev digest : List ℕ
digest =
    0x5F ∷ 0xB1 ∷ 0xC5 ∷ 0x1F ∷ 0xBD ∷ 0xD4 ∷ 0x30 ∷ 0xC6 ∷
    0x97 ∷ 0x1F ∷ 0xEC ∷ 0x11 ∷ 0x91 ∷ 0x66 ∷ 0x94 ∷ 0x88 ∷
    0xE3 ∷ 0xEF ∷ 0x2A ∷ 0xE7 ∷ 0x3B ∷ 0x0B ∷ 0xA9 ∷ 0x59 ∷
    0x31 ∷ 0x3A ∷ 0x10 ∷ 0xEC ∷ 0xC2 ∷ 0xBA ∷ 0xB6 ∷ 0xDC ∷ []

pub text_of_first : certificate_text (word_of (name.Base protocol.FmlpPlus)) digest first
    ≡ codes "{\"bounds\":[5,5],\"duals\":[{\"den\":1,\"num\":[2,0,0,0]},{\"den\":1,\"num\":[1,0,0,0]}],"
    ++ (codes "\"protocol\":\"fmlp+\",\"set\":\"5fb1c51fbdd430c6971fec1191669488e3ef2ae73b0ba959313a10ecc2bab6dc\","
    ++ codes "\"verdict\":\"schedulable\",\"version\":2}\n")
unfolding serde_json_on_literals encode_with digits
text_of_first = refl
