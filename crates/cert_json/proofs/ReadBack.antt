-- What is read of the text of a certificate is the certificate.
use Rattle.std.proofs.Common.{◌≡◌, ℕ, ◌^◌, ◌<◌, ◌≤◌, ◌&&◌, true, List, [], ◌∷◌, map, Option, Some, None}
use Rattle.std.proofs.Common.{option_map, option_and_then, Result, Ok, Err, IsUtf8, codes, refl, sym, ap, ap₂, unwrap_or, replicate}
use Rattle.std.proofs.Common.{◌∙◌, arith, le-leb, All}
use Rattle.std.proofs.lemmas.List.Elements.{All-head, All-tail}
use Rattle.std.proofs.lemmas.Slice.Eq.{bytes_eq-Decides}
use Rattle.std.specs.List.{list_all}
use Rattle.std.specs.Str.{bytes_eq}
use Rattle.json.specs.Tree as tree
use Rattle.json.proofs.Found.{Some_inj}
use Rattle.json.proofs.Printed.Utf8.{IsUtf8-are_ascii}
use Rattle.serde_json.specs.Data.{Data, item}
use Rattle.serde_json.specs.Read.{of_json, of_items, max_depth}
use Rattle.serde_json.specs.View.{items_of}
use Rattle.serde_json.specs.Written.{outline, items_outline}
use Rattle.serde_json.proofs.Numbers.{number_of-decimal}
use Rattle.program_form.specs.declared.TheConstants.{MOST_NUMBER}
use Rattle.program_form.specs.Certificate.{DualDef, CertificateDef}
use Rattle.taskset_json.specs.Answers.{IsValue}
use Rattle.taskset_json.specs.Members.{values_of}
use Rattle.cert_json.specs.Digests.{size_of_digest, IsDigest}
use Rattle.cert_json.proofs.DigestTexts.{text_of_digest, read_again, text_is_utf8}
use Rattle.cert_json.specs.declared.file.CertFile.{CertFile}
use Rattle.cert_json.specs.declared.version.Version.TheVariants as version
use Rattle.cert_json.specs.declared.refusal.CertRefusal.{CertRefusal}
use Rattle.cert_json.specs.declared.refusal.CertRefusal.TheVariants as refusal
use Rattle.cert_json.specs.FileDef.{FileDef}
use Rattle.cert_json.specs.Form.{is_from, is_dual, has_form}
use Rattle.cert_json.specs.FormParts.{is_whole}
use Rattle.cert_json.specs.Refusals.{first_refusal}
use Rattle.cert_json.specs.Written.{numbers_written, dual_written, certificate_written, file_written}
use Rattle.cert_json.specs.Ranges.{IsSmallDual, IsWritable}
use Rattle.cert_json.specs.Text.{certificate_text}
use Rattle.cert_json.specs.Value.{number_data, dual_data, certificate_data}
use Rattle.cert_json.specs.Answers.{Reads, Gives}
use Rattle.cert_json.proofs.FormLaws.{none_from_form}
use Rattle.cert_json.proofs.PlainTexts.{IsPlain, ArePlain, line_is_value}

-- ---- small numbers have 64 bits

pub record Has64Bits (d : DualDef) : Type 0 where
  pub den : d.den < 2 ^ 64
  pub num : All (λ n. n < 2 ^ 64) d.num

small_64 : (n : ℕ) → n ≤ MOST_NUMBER → n < 2 ^ 64
small_64 n h = omega (arith, h)

pub each_64 : (d : DualDef) → IsSmallDual d → Has64Bits d
each_64 d h = record { den = small_64 d.den h.small; num = λ k z l. small_64 _ (h.numerators k z l) }

-- ---- its text is read as its value

numbers-plain : (ns : List ℕ) → All (λ n. n < 2 ^ 64) ns → ArePlain (items_of (map number_data ns))
numbers-plain [] h = tt
numbers-plain (n ∷ ns) h = (All-head (λ m. m < 2 ^ 64) n ns h, numbers-plain ns (All-tail (λ m. m < 2 ^ 64) n ns h))

ascii-den : IsUtf8 (codes "den")
ascii-den = IsUtf8-are_ascii (codes "den") refl

ascii-num : IsUtf8 (codes "num")
ascii-num = IsUtf8-are_ascii (codes "num") refl

pub dual-plain : (d : DualDef) → Has64Bits d → IsPlain (dual_data d)
dual-plain d h = (ascii-den, (h.den, (ascii-num, (numbers-plain d.num h.num, tt))))

duals-plain : (ds : List DualDef) → All IsSmallDual ds → ArePlain (items_of (map dual_data ds))
duals-plain [] h = tt
duals-plain (d ∷ ds) h =
    (dual-plain d (each_64 d (All-head IsSmallDual d ds h)), duals-plain ds (All-tail IsSmallDual d ds h))

certificate-plain : (word digest : List ℕ) (c : CertificateDef) → IsUtf8 word → IsWritable c → IsPlain (certificate_data word digest c)
certificate-plain word digest c u h = (
  IsUtf8-are_ascii (codes "bounds") refl,
  (
    numbers-plain c.bounds h.bounds,
    (
      IsUtf8-are_ascii (codes "duals") refl,
      (
        duals-plain c.duals h.duals,
        (
          IsUtf8-are_ascii (codes "protocol") refl,
          (
            u,
            (
              IsUtf8-are_ascii (codes "set") refl,
              (
                text_is_utf8 digest,
                (
                  IsUtf8-are_ascii (codes "verdict") refl,
                  (
                    IsUtf8-are_ascii (codes "schedulable") refl,
                    (
                      IsUtf8-are_ascii (codes "version") refl,
                      (omega arith, tt),
                    ),
                  ),
                ),
              ),
            ),
          ),
        ),
      ),
    ),
  ),
)

pub numbers-flat : (ns : List ℕ) → tree.items_depth (items_outline (items_of (map number_data ns))) ≡ 0
numbers-flat [] = refl
numbers-flat (n ∷ ns) = rw (numbers-flat ns) refl

duals-flat : (ds : List DualDef) → tree.items_depth (items_outline (items_of (map dual_data ds))) ≤ 2
duals-flat [] = omega arith
duals-flat (d ∷ ds) = rw (numbers-flat d.num) (omega (arith, duals-flat ds))

flat : (word digest : List ℕ) (c : CertificateDef) → tree.depth (outline (certificate_data word digest c)) ≤ max_depth
flat word digest c = rw (numbers-flat c.bounds) (omega (arith, duals-flat c.duals))

numbers-again : (ns : List ℕ) → All (λ n. n < 2 ^ 64) ns
    → of_items (items_outline (items_of (map number_data ns))) ≡ Some (items_of (map number_data ns))
numbers-again [] h = refl
numbers-again (n ∷ ns) h = rw
    (number_of-decimal n (All-head (λ m. m < 2 ^ 64) n ns h), numbers-again ns (All-tail (λ m. m < 2 ^ 64) n ns h)) refl

pub dual-again : (d : DualDef) → Has64Bits d → of_json (outline (dual_data d)) ≡ Some (dual_data d)
dual-again d h = rw (number_of-decimal d.den h.den, numbers-again d.num h.num) refl

duals-again : (ds : List DualDef) → All IsSmallDual ds
    → of_items (items_outline (items_of (map dual_data ds))) ≡ Some (items_of (map dual_data ds))
duals-again [] h = refl
duals-again (d ∷ ds) h =
    let first : of_json (outline (dual_data d)) ≡ Some (dual_data d) = dual-again d (each_64 d (All-head IsSmallDual d ds h)) in
    ap₂ (λ o r. option_and_then (λ e. option_map (item e) r) o) first (duals-again ds (All-tail IsSmallDual d ds h))

again : (word digest : List ℕ) (c : CertificateDef) → IsWritable c
    → of_json (outline (certificate_data word digest c)) ≡ Some (certificate_data word digest c)
again word digest c h = rw (numbers-again c.bounds h.bounds, duals-again c.duals h.duals, number_of-decimal 2 (omega arith)) refl

pub is_value : (word digest : List ℕ) (c : CertificateDef) → IsUtf8 word → IsWritable c
    → IsValue (certificate_text word digest c) (certificate_data word digest c)
is_value word digest c u h =
    line_is_value (certificate_data word digest c) (certificate-plain word digest c u h) (again word digest c h) (flat word digest c)

-- ---- the value has the form, and writes the certificate

are_whole : (ns : List ℕ) → list_all is_whole (values_of (items_of (map number_data ns))) ≡ true
are_whole [] = refl
are_whole (n ∷ ns) = are_whole ns

from_least : (least n : ℕ) → least ≤ n → n ≤ MOST_NUMBER → is_from least (number_data n) ≡ true
from_least least n above below = rw (le-leb least n above, le-leb n MOST_NUMBER below) refl

are_numerators : (ns : List ℕ) → All (λ n. n ≤ MOST_NUMBER) ns → list_all (is_from 0) (values_of (items_of (map number_data ns))) ≡ true
are_numerators [] h = refl
are_numerators (n ∷ ns) h =
    ap₂ (λ a b. a && b) (from_least 0 n (omega arith) (All-head (λ m. m ≤ MOST_NUMBER) n ns h))
    (are_numerators ns (All-tail (λ m. m ≤ MOST_NUMBER) n ns h))

pub dual_formed : (d : DualDef) → IsSmallDual d → is_dual (dual_data d) ≡ true
dual_formed d h = ap₂ (λ a b. a && b) (from_least 1 d.den h.positive h.small) (are_numerators d.num h.numerators)

are_duals : (ds : List DualDef) → All IsSmallDual ds → list_all is_dual (values_of (items_of (map dual_data ds))) ≡ true
are_duals [] h = refl
are_duals (d ∷ ds) h = ap₂ (λ a b. a && b) (dual_formed d (All-head IsSmallDual d ds h)) (are_duals ds (All-tail IsSmallDual d ds h))

pub same_word : (word : List ℕ) → bytes_eq word word ≡ true
same_word word = (bytes_eq-Decides word word).1 refl

pub formed : (word digest : List ℕ) (c : CertificateDef) → IsDigest digest → IsWritable c
    → has_form word (certificate_data word digest c) ≡ true
formed word digest c is h = rw
    (text_of_digest digest is, are_whole c.bounds, are_duals c.duals h.duals, same_word word) refl

numbers-written : (ns : List ℕ) → numbers_written (values_of (items_of (map number_data ns))) ≡ ns
numbers-written [] = refl
numbers-written (n ∷ ns) = ap (λ l. n ∷ l) (numbers-written ns)

pub dual-written : (d : DualDef) → dual_written (dual_data d) ≡ d
dual-written d = ap (λ ns. record { den = d.den; num = ns }) (numbers-written d.num)

duals-written : (ds : List DualDef) → map dual_written (values_of (items_of (map dual_data ds))) ≡ ds
duals-written [] = refl
duals-written (d ∷ ds) = ap₂ (λ e l. e ∷ l) (dual-written d) (duals-written ds)

pub written : (word digest : List ℕ) (c : CertificateDef) → certificate_written (certificate_data word digest c) ≡ c
written word digest c = ap₂ (λ bounds duals. record { bounds = bounds; duals = duals }) (numbers-written c.bounds) (duals-written c.duals)

pub file-written : (word : List ℕ) (f : FileDef) → IsDigest f.digest → file_written (certificate_data word f.digest f.certificate) ≡ f
file-written word f is = ap₂ (λ c digest. record { certificate = c; digest = digest }) (written word f.digest f.certificate)
    (ap (λ o. unwrap_or o (replicate size_of_digest 0)) (read_again f.digest is))

-- ---- so it is read again

pub one_value : (text : List ℕ) (d e : Data) → IsValue text d → IsValue text e → d ≡ e
one_value text d e h k = Some_inj d e (sym h.1 ∙ k.1)

none_is_some : (o : Option CertRefusal) (r : CertRefusal) → o ≡ None → o ≡ Some r → ⊥
none_is_some o r none some = cc

record IsWritten (word : List ℕ) (f : FileDef) : Type 0 where
  text : IsUtf8 word
  digest : IsDigest f.digest
  certificate : IsWritable f.certificate

abbrev text_of : List ℕ → FileDef → List ℕ
text_of word f = certificate_text word f.digest f.certificate

abbrev data_of : List ℕ → FileDef → Data
data_of word f = certificate_data word f.digest f.certificate

own_value : (word : List ℕ) (f : FileDef) → IsWritten word f → (d : Data) → IsValue (text_of word f) d → d ≡ data_of word f
own_value word f w d is =
    one_value (text_of word f) d (data_of word f) is (is_value word f.digest f.certificate w.text w.certificate)

never : (word : List ℕ) (f : FileDef) → IsWritten word f → (r : CertRefusal) (d : Data)
    → IsValue (text_of word f) d → first_refusal version.Second word d ≡ Some r → ⊥
never word f w r d is refused =
    none_is_some (first_refusal version.Second word d) r
    (ap (first_refusal version.Second word) (own_value word f w d is)
    ∙ none_from_form version.Second word (data_of word f) (formed word f.digest f.certificate w.digest w.certificate)) refused

gives_back : (word : List ℕ) (f : FileDef) (answer : Result CertFile CertRefusal) → IsWritten word f
    → Reads answer word (text_of word f) → Gives answer f
gives_back word f (Ok k) w h = h.2.1 ∙ ap file_written (own_value word f w h.0 h.1) ∙ file-written word f w.digest
gives_back word f (Err refusal.NotJson) w h =
    absurd (h (data_of word f) (is_value word f.digest f.certificate w.text w.certificate))
gives_back word f (Err refusal.Memory) w h = refl
gives_back word f (Err (refusal.Shape place)) w h = absurd (never word f w (refusal.Shape place) h.0 h.1 h.2)
gives_back word f (Err refusal.Version) w h = absurd (never word f w refusal.Version h.0 h.1 h.2)
gives_back word f (Err refusal.OtherProtocol) w h = absurd (never word f w refusal.OtherProtocol h.0 h.1 h.2)

pub read_back : (word : List ℕ) (f : FileDef) (answer : Result CertFile CertRefusal)
    → IsUtf8 word → IsDigest f.digest → IsWritable f.certificate
    → Reads answer word (certificate_text word f.digest f.certificate) → Gives answer f
read_back word f answer u digest w h = gives_back word f answer (record { text = u; digest = digest; certificate = w }) h
