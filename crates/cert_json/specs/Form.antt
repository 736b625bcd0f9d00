-- The form of a certificate in JSON.
use Rattle.std.specs.Prelude.{ℕ, ◌&&◌, ◌==◌, Bool, false, nat_le, List, [], ◌∷◌, codes, is_some}
use Rattle.std.specs.List.{list_all}
use Rattle.std.specs.Option.{option_map_or}
use Rattle.std.specs.Str.{bytes_eq}
use Rattle.serde_json.specs.Data.{Data}
use Rattle.serde_json.specs.Find.{get}
use Rattle.program_form.specs.declared.TheConstants.{MOST_NUMBER}
use Rattle.taskset_json.specs.declared.form.Kind.TheVariants as kind
use Rattle.taskset_json.specs.Members.{whole, whole_at, text_at, list_at}
use Rattle.taskset_json.specs.Form.{MemberDef, must, is_object_of}
use Rattle.cert_json.specs.Digests.{is_digest_text}

-- The members of a certificate, and of a dual. There may be no others.
abbrev pub certificate_form : List MemberDef
certificate_form =
    must (codes "set") kind.Text
    ∷ must (codes "bounds") kind.List
    ∷ must (codes "duals") kind.List
    ∷ must (codes "protocol") kind.Text
    ∷ must (codes "verdict") kind.Text
    ∷ must (codes "version") kind.Whole
    ∷ []

abbrev pub dual_form : List MemberDef
dual_form =
    must (codes "den") kind.Whole
    ∷ must (codes "num") kind.List
    ∷ []

-- Is the value a whole number, from `least` to the greatest that a program may hold?
abbrev pub is_from : ℕ → Data → Bool
is_from least d = option_map_or (λ n. nat_le least n && nat_le n MOST_NUMBER) (whole d) false

-- Is the value a dual: an object of a dual's form, with a denominator of at least 1?
abbrev pub is_dual : Data → Bool
is_dual d =
    is_object_of dual_form d
    && (option_map_or (is_from 1) (get (codes "den") d) false && list_all (is_from 0) (list_at (codes "num") d))

-- Has the value the form of a certificate for the protocol of this word? It is of version 2. It is an object of a certificate's form, with
-- the text of a digest and the verdict's word. Its bounds are whole numbers, its duals are duals, and its protocol has this word.
abbrev pub has_form : List ℕ → Data → Bool
has_form word d =
    option_map_or (λ n. n == 2) (whole_at (codes "version") d) false
    && ((is_object_of certificate_form d
    && (is_digest_text (text_at (codes "set") d) && bytes_eq (text_at (codes "verdict") d) (codes "schedulable")))
    && (list_all (λ b. is_some (whole b)) (list_at (codes "bounds") d)
    && (list_all is_dual (list_at (codes "duals") d) && bytes_eq (text_at (codes "protocol") d) word)))
