-- The text of a digest that is widely known.
use Rattle.std.proofs.Common.{◌≡◌, codes, refl, ap, ◌∙◌}
use Rattle.hex.specs.Hex.{encode_with}
use Rattle.sha2.specs.Sha256.{sha256}
use Rattle.sha2.proofs.Facts256.{digest_of_abc_256}
use Rattle.cert_json.specs.Digests.{digest_text}

of_abc : digest_text (sha256 (codes "abc")) ≡ codes "ba7816bf8f01cfea414140de5dae2223b00361a396177a9cb410ff61f20015ad"
unfolding encode_with
of_abc = ap digest_text digest_of_abc_256 ∙ refl
