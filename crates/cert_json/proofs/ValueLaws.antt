-- The value of a certificate's text has no floats, so what is written is its compact text.
use Rattle.std.proofs.Common.{◌≡◌, ℕ, ◌||◌, false, List, [], ◌∷◌, map, Result, Ok, Err, IfOk, refl, ap, ap₂, ◌∙◌}
use Rattle.serde_json.specs.Data.{Data}
use Rattle.serde_json.specs.View.{items_of}
use Rattle.serde_json.specs.Written.{has_float, items_have_float, compact_text}
use Rattle.program_form.specs.Certificate.{DualDef, CertificateDef}
use Rattle.cert_json.specs.Value.{number_data, dual_data, certificate_data}

whole-numbers : (ns : List ℕ) → items_have_float (items_of (map number_data ns)) ≡ false
whole-numbers [] = refl
whole-numbers (n ∷ ns) = whole-numbers ns

pub whole-dual : (d : DualDef) → has_float (dual_data d) ≡ false
whole-dual d = rw (whole-numbers d.num) refl

whole-duals : (ds : List DualDef) → items_have_float (items_of (map dual_data ds)) ≡ false
whole-duals [] = refl
whole-duals (d ∷ ds) = ap₂ (λ a b. a || b) (whole-dual d) (whole-duals ds)

pub whole-certificate : (word digest : List ℕ) (c : CertificateDef) → has_float (certificate_data word digest c) ≡ false
whole-certificate word digest c = rw (whole-numbers c.bounds, whole-duals c.duals) refl

pub written_whole : {T E : Type 0} (bytes_of : T → List ℕ) (r : Result T E) (d e : Data) → d ≡ e → has_float e ≡ false
    → IfOk r (λ t. has_float d ≡ false → bytes_of t ≡ compact_text d) → IfOk r (λ t. bytes_of t ≡ compact_text e)
written_whole bytes_of (Ok t) d e same whole text = text (ap has_float same ∙ whole) ∙ ap compact_text same
written_whole bytes_of (Err x) d e same whole text = tt
