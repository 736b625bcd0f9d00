-- Why is a value refused as a certificate of a version, for the protocol of a word? The first cause in this order counts.
use Rattle.std.specs.Prelude.{ℕ, ◌==◌, not, Bool, true, false, List, Option, Some, None, option_map, if◌then◌else◌, codes, position}
use Rattle.std.specs.List.{list_all}
use Rattle.std.specs.Option.{option_or}
use Rattle.serde_json.specs.Data.{Data}
use Rattle.taskset_json.specs.Members.{whole_at, list_at}
use Rattle.cert_json.specs.declared.refusal.CertRefusal.{CertRefusal}
use Rattle.cert_json.specs.declared.refusal.CertRefusal.TheVariants as refusal
use Rattle.cert_json.specs.declared.refusal.CertPlace.TheVariants as place
use Rattle.cert_json.specs.declared.version.Version.{Version}
use Rattle.cert_json.specs.Form.{is_dual}
use Rattle.cert_json.specs.FormParts.{is_whole, is_for}
use Rattle.cert_json.specs.Versions.{number_of, is_certificate_of}

-- There is no version that is a whole number, or it is another version.
abbrev pub version_refusal : Version → Option ℕ → Option CertRefusal
version_refusal v None = Some (refusal.Shape place.Root)
version_refusal v (Some n) = if n == number_of v then None else Some refusal.Version

abbrev pub refused_unless : Bool → CertRefusal → Option CertRefusal
refused_unless true r = None
refused_unless false r = Some r

-- The position of the first value that is no dual.
abbrev pub first_bad_dual : Data → Option ℕ
first_bad_dual d = position (λ e. not (is_dual e)) (list_at (codes "duals") d)

abbrev pub first_refusal : Version → List ℕ → Data → Option CertRefusal
first_refusal v word d =
    option_or (version_refusal v (whole_at (codes "version") d))
    (option_or (refused_unless (is_certificate_of v d) (refusal.Shape place.Root))
    (option_or (refused_unless (list_all is_whole (list_at (codes "bounds") d)) (refusal.Shape place.Bounds))
    (option_or (option_map (λ k. refusal.Shape (place.Dual k)) (first_bad_dual d))
    (refused_unless (is_for word d) refusal.OtherProtocol))))
