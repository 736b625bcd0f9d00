-- The parts of the form of a certificate, in the order in which they are tried.
use Rattle.std.specs.Prelude.{ℕ, ◌&&◌, ◌==◌, Bool, false, List, codes, is_some}
use Rattle.std.specs.List.{list_all}
use Rattle.std.specs.Option.{option_map_or}
use Rattle.std.specs.Str.{bytes_eq}
use Rattle.serde_json.specs.Data.{Data}
use Rattle.taskset_json.specs.Members.{whole, whole_at, text_at, list_at}
use Rattle.taskset_json.specs.Form.{is_object_of}
use Rattle.cert_json.specs.Digests.{is_digest_text}
use Rattle.cert_json.specs.Words.{is_verdict_word}
use Rattle.cert_json.specs.Form.{certificate_form, is_dual}

-- Is the version this one, if there is one?
abbrev pub is_version : ℕ → Data → Bool
is_version version d = option_map_or (λ n. n == version) (whole_at (codes "version") d) false

-- Is the value an object of a certificate's members, with the text of a digest and the word of the verdict?
abbrev pub is_certificate : Data → Bool
is_certificate d =
    is_object_of certificate_form d
    && (is_digest_text (text_at (codes "set") d) && is_verdict_word (text_at (codes "verdict") d))

-- Is the value a whole number?
abbrev pub is_whole : Data → Bool
is_whole d = is_some (whole d)

-- Has the value's protocol this word?
abbrev pub is_for : List ℕ → Data → Bool
is_for word d = bytes_eq (text_at (codes "protocol") d) word

-- Are the bounds whole numbers and the duals duals, and has the protocol this word?
abbrev pub lists_for : List ℕ → Data → Bool
lists_for word d =
    list_all is_whole (list_at (codes "bounds") d) && (list_all is_dual (list_at (codes "duals") d) && is_for word d)
