-- What is read has small duals.
use Rattle.std.proofs.Common.{◌≡◌, ℕ, ◌≤◌, ◌&&◌, true, false, List, [], ◌∷◌, map, Option, Some, None, option_and_then}
use Rattle.std.proofs.Common.{unwrap_or, Result, Ok, Err, sym, subst, codes, All, IfOk}
use Rattle.std.proofs.lemmas.Bool.{and_parts, leb-true}
use Rattle.std.proofs.lemmas.List.Elements.{All-nil, All-cons}
use Rattle.std.specs.List.{list_all}
use Rattle.std.specs.Option.{option_map_or}
use Rattle.std.specs.Prelude.{nat_le}
use Rattle.serde_json.specs.Data.{Data}
use Rattle.serde_json.specs.Find.{get}
use Rattle.program_form.specs.declared.TheConstants.{MOST_NUMBER}
use Rattle.program_form.specs.declared.certificate.Certificate.{Certificate}
use Rattle.program_form.specs.Certificate.{certificate_seen}
use Rattle.taskset_json.specs.Members.{whole, list_at}
use Rattle.taskset_json.specs.Form.{is_object_of}
use Rattle.cert_json.specs.declared.file.CertFile.{CertFile}
use Rattle.cert_json.specs.declared.version.Version.{Version}
use Rattle.cert_json.specs.declared.version.Version.TheVariants as version
use Rattle.cert_json.specs.declared.refusal.CertRefusal.{CertRefusal}
use Rattle.cert_json.specs.FileDef.{FileDef}
use Rattle.cert_json.specs.Form.{dual_form, is_from, is_dual}
use Rattle.cert_json.specs.FormParts.{is_version, is_whole}
use Rattle.cert_json.specs.Versions.{number_of, is_certificate_of, has_form_of}
use Rattle.cert_json.specs.Written.{number_written, numbers_written, dual_written, certificate_written}
use Rattle.cert_json.specs.Ranges.{IsSmallDual, HasSmallDuals}
use Rattle.cert_json.specs.Answers.{JudgesValue, IsFileOf, IsCertificateOf}

in_range : (least : ℕ) (o : Option ℕ) → option_map_or (λ n. nat_le least n && nat_le n MOST_NUMBER) o false ≡ true
    → (least ≤ unwrap_or o 0) × (unwrap_or o 0 ≤ MOST_NUMBER)
in_range least None h = absurd (cc)
in_range least (Some n) h = let p = and_parts (nat_le least n) _ h in (leb-true least n p.0, leb-true n MOST_NUMBER p.1)

den_in_range : (o : Option Data) → option_map_or (is_from 1) o false ≡ true
    → (1 ≤ unwrap_or (option_and_then whole o) 0) × (unwrap_or (option_and_then whole o) 0 ≤ MOST_NUMBER)
den_in_range None h = absurd (cc)
den_in_range (Some d) h = in_range 1 (whole d) h

num_in_range : (ds : List Data) → list_all (is_from 0) ds ≡ true → All (λ n. n ≤ MOST_NUMBER) (numbers_written ds)
num_in_range [] h = All-nil (λ n. n ≤ MOST_NUMBER)
num_in_range (d ∷ ds) h =
    let p = and_parts (is_from 0 d) _ h in
    All-cons (λ n. n ≤ MOST_NUMBER) (number_written d) (numbers_written ds) (in_range 0 (whole d) p.0).1 (num_in_range ds p.1)

pub small_dual : (d : Data) → is_dual d ≡ true → IsSmallDual (dual_written d)
small_dual d h =
    let parts = and_parts (is_object_of dual_form d) _ h in
    let ranges = and_parts (option_map_or (is_from 1) (get (codes "den") d) false) _ parts.1 in
    let den = den_in_range (get (codes "den") d) ranges.0 in
    record { positive = den.0; small = den.1; numerators = num_in_range (list_at (codes "num") d) ranges.1 }

small_duals : (ds : List Data) → list_all is_dual ds ≡ true → All IsSmallDual (map dual_written ds)
small_duals [] h = All-nil IsSmallDual
small_duals (d ∷ ds) h = let p = and_parts (is_dual d) _ h in
    All-cons IsSmallDual (dual_written d) (map dual_written ds) (small_dual d p.0) (small_duals ds p.1)

pub small_of_form : (v : Version) (word : List ℕ) (d : Data) → has_form_of v word d ≡ true → HasSmallDuals (certificate_written d)
small_of_form v word d h =
    let first = and_parts (is_version (number_of v) d) _ h in
    let second = and_parts (is_certificate_of v d) _ first.1 in
    let third = and_parts (list_all is_whole (list_at (codes "bounds") d)) _ second.1 in
    small_duals (list_at (codes "duals") d) (and_parts (list_all is_dual (list_at (codes "duals") d)) _ third.1).0

pub small_if_judged : (r : Result CertFile CertRefusal) (word : List ℕ) (d : Data) → JudgesValue version.Second IsFileOf r word d
    → IfOk r (λ f. HasSmallDuals (certificate_seen f.certificate))
small_if_judged (Ok f) word d h =
    subst (λ (x : FileDef). HasSmallDuals x.certificate) (sym h.1) (small_of_form version.Second word d h.0)
small_if_judged (Err r) word d h = tt

pub small_if_old : (r : Result Certificate CertRefusal) (word : List ℕ) (d : Data) → JudgesValue version.First IsCertificateOf r word d
    → IfOk r (λ c. HasSmallDuals (certificate_seen c))
small_if_old (Ok c) word d h = subst HasSmallDuals (sym h.1) (small_of_form version.First word d h.0)
small_if_old (Err r) word d h = tt
