-- The form of a certificate of the version before, which has no digest of the set. And the form of any version.
use Rattle.std.specs.Prelude.{ℕ, ◌&&◌, Bool, List, [], ◌∷◌, codes}
use Rattle.serde_json.specs.Data.{Data}
use Rattle.taskset_json.specs.declared.form.Kind.TheVariants as kind
use Rattle.taskset_json.specs.Members.{text_at}
use Rattle.taskset_json.specs.Form.{MemberDef, must, is_object_of}
use Rattle.cert_json.specs.declared.version.Version.{Version}
use Rattle.cert_json.specs.declared.version.Version.TheVariants as version
use Rattle.cert_json.specs.Words.{is_verdict_word}
use Rattle.cert_json.specs.FormParts.{is_version, is_certificate, lists_for}

-- The members of a certificate of the version before. There may be no others.
abbrev pub old_form : List MemberDef
old_form =
    must (codes "bounds") kind.List
    ∷ must (codes "duals") kind.List
    ∷ must (codes "protocol") kind.Text
    ∷ must (codes "verdict") kind.Text
    ∷ must (codes "version") kind.Whole
    ∷ []

-- The number of a version.
abbrev pub number_of : Version → ℕ
number_of version.First = 1
number_of version.Second = 2

-- Is the value an object of the version's members, with the text of a digest and the word of the verdict?
abbrev pub is_certificate_of : Version → Data → Bool
is_certificate_of version.First d = is_object_of old_form d && is_verdict_word (text_at (codes "verdict") d)
is_certificate_of version.Second d = is_certificate d

-- Has the value the version's form of a certificate, for the protocol of this word? For version 2 that is `has_form`.
abbrev pub has_form_of : Version → List ℕ → Data → Bool
has_form_of v word d = is_version (number_of v) d && (is_certificate_of v d && lists_for word d)
