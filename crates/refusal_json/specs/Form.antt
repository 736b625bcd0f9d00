-- The form of a refusal in JSON.
use Rattle.std.specs.Prelude.{ℕ, ◌&&◌, ◌==◌, Bool, false, List, [], ◌∷◌, codes}
use Rattle.std.specs.List.{list_all}
use Rattle.std.specs.Option.{option_map_or}
use Rattle.std.specs.Str.{bytes_eq}
use Rattle.serde_json.specs.Data.{Data}
use Rattle.serde_json.specs.Find.{get}
use Rattle.taskset_json.specs.declared.form.Kind.TheVariants as kind
use Rattle.taskset_json.specs.Members.{whole_at, text_at, list_at}
use Rattle.taskset_json.specs.Form.{MemberDef, must, is_object_of}
use Rattle.cert_json.specs.Digests.{is_digest_text}
use Rattle.cert_json.specs.Form.{is_dual}

-- The members of a refusal, and of a step. There may be no others.
abbrev pub refusal_form : List MemberDef
refusal_form =
    must (codes "protocol") kind.Text
    ∷ must (codes "set") kind.Text
    ∷ must (codes "steps") kind.List
    ∷ must (codes "verdict") kind.Text
    ∷ must (codes "version") kind.Whole
    ∷ []

abbrev pub step_form : List MemberDef
step_form =
    must (codes "point") kind.Object
    ∷ must (codes "task") kind.Whole
    ∷ must (codes "value") kind.Whole
    ∷ []

-- Is the value a step: an object of a step's form, whose point has the form of a dual?
abbrev pub is_step : Data → Bool
is_step d = is_object_of step_form d && option_map_or is_dual (get (codes "point") d) false

-- Is it the word of the verdict that a set isn't shown?
abbrev pub is_verdict_word : List ℕ → Bool
is_verdict_word word = bytes_eq word (codes "notshown")

-- The only version is 1.
abbrev pub is_version : Data → Bool
is_version d = option_map_or (λ n. n == 1) (whole_at (codes "version") d) false

-- Has the value the form of a refusal, for any protocol?
abbrev pub is_refusal : Data → Bool
is_refusal d =
    is_object_of refusal_form d
    && (is_digest_text (text_at (codes "set") d)
    && (is_verdict_word (text_at (codes "verdict") d)
    && (is_version d && list_all is_step (list_at (codes "steps") d))))
