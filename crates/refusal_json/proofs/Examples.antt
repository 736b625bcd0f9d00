-- Worked examples of the form, and of the text.
use Rattle.std.proofs.Common.{◌≡◌, true, false, List, [], ◌∷◌, codes, refl}
use Rattle.std.specs.Prelude.{replicate}
use Rattle.std.specs.Fmt.{digits}
use Rattle.hex.specs.Hex.{encode_with}
use Rattle.serde_json.specs.Data.{null, object, no_members, member}
use Rattle.serde_json.proofs.OnLiterals.{serde_json_on_literals}
use Rattle.cert_json.specs.FormParts.{is_for}
use Rattle.cert_json.specs.Value.{number_data}
use Rattle.refusal_laws.specs.Steps.{StepDef}
use Rattle.refusal_json.specs.Form.{is_step, is_refusal}
use Rattle.refusal_json.specs.Text.{refusal_text}
use Rattle.refusal_json.specs.Value.{refusal_data}

abbrev one_step : List StepDef
one_step = record { task = 1; value = 5; point = record { den = 1; num = 1 ∷ [] } } ∷ []

no_object : is_refusal null ≡ false
no_object = refl

formed : is_refusal (refusal_data (codes "mpcp") (replicate 32 171) one_step) ≡ true
unfolding encode_with
formed = refl

-- A refusal without a step has the form too.
of_nothing : is_refusal (refusal_data (codes "mpcp") (replicate 32 171) []) ≡ true
unfolding encode_with
of_nothing = refl

no_digest : is_refusal (refusal_data (codes "mpcp") (replicate 31 171) one_step) ≡ false
unfolding encode_with
no_digest = refl

no_denominator : is_refusal (refusal_data (codes "mpcp") (replicate 32 171)
    (record { task = 1; value = 5; point = record { den = 0; num = [] } } ∷ [])) ≡ false
unfolding encode_with
no_denominator = refl

no_point : is_step (object (member (codes "task") (number_data 1) (member (codes "value") (number_data 5) no_members))) ≡ false
no_point = refl

for_another : is_for (codes "dpcp") (refusal_data (codes "mpcp") (replicate 32 171) one_step) ≡ false
for_another = refl

-- The whole text of a refusal.
text : refusal_text (codes "mpcp") (replicate 32 171) one_step
    ≡ codes "{\"protocol\":\"mpcp\",\"set\":\"abababababababababababababababababababababababababababababababab\",\"steps\":[{\"point\":{\"den\":1,\"num\":[1]},\"task\":1,\"value\":5}],\"verdict\":\"notshown\",\"version\":1}\n"
unfolding serde_json_on_literals encode_with digits
text = refl
