-- The compact text of a value with texts in UTF-8 and no numbers but whole ones of 64 bits is read as that value, also where a line
-- end follows.
use Rattle.std.proofs.Common.{◌≡◌, ℕ, ◌^◌, ◌<◌, ◌≤◌, Bool, true, false, List, [], ◌∷◌, ◌++◌, Some, option_and_then, IsUtf8}
use Rattle.std.proofs.Common.{codes, refl, sym, ap, ◌∙◌, append-nil}
use Rattle.std.proofs.lemmas.Fmt.{IsAscii-decimal}
use Rattle.std.proofs.lemmas.Str.{IsUtf8-append, IsUtf8-nil, IsUtf8-from_ascii}
use Rattle.json.specs.Json as json
use Rattle.json.specs.Lex.{tokens}
use Rattle.json.specs.Tree as tree
use Rattle.json.specs.Print.{print, quoted}
use Rattle.json.proofs.Printed.Decimals.{IsNumber-decimal}
use Rattle.json.proofs.Printed.Trees.{ArePrintable-json_tokens, value-json_tokens}
use Rattle.json.proofs.Printed.Utf8.{IsUtf8-are_ascii, IsUtf8-quoted, IsUtf8-boolean}
use Rattle.serde_json.specs.Data.{Data, null, boolean, number, string, array, object, unsigned, negative, float, Items, no_items, item}
use Rattle.serde_json.specs.Data.{Members, no_members, member}
use Rattle.serde_json.specs.Read.{of_json, read, max_depth}
use Rattle.serde_json.specs.Written.{outline, items_outline, members_outline, compact_text, items_text, members_text, comma_if}
use Rattle.serde_json.proofs.Texts.{print-outline}
use Rattle.taskset_json.specs.Answers.{IsValue}
use Rattle.cert_json.proofs.LineEnd.{tokens-line}

abbrev mutual
  pub IsPlain : Data → Type 0
  IsPlain null = Unit {0}
  IsPlain (boolean b) = Unit {0}
  IsPlain (number (unsigned n)) = n < 2 ^ 64
  IsPlain (number (negative z)) = ⊥
  IsPlain (number (float x)) = ⊥
  IsPlain (string s) = IsUtf8 s
  IsPlain (array ds) = ArePlain ds
  IsPlain (object ms) = HasPlain ms

  pub ArePlain : Items → Type 0
  ArePlain no_items = Unit {0}
  ArePlain (item d ds) = IsPlain d × ArePlain ds

  pub HasPlain : Members → Type 0
  HasPlain no_members = Unit {0}
  HasPlain (member name d ms) = IsUtf8 name × (IsPlain d × HasPlain ms)

-- ---- its text is UTF-8

utf8-comma : (later : Bool) → IsUtf8 (comma_if later)
utf8-comma true = IsUtf8-are_ascii (44 ∷ []) refl
utf8-comma false = IsUtf8-nil

after : (x : ℕ) (text : List ℕ) → IsUtf8 (x ∷ []) → IsUtf8 text → IsUtf8 (x ∷ text)
after x text h k = IsUtf8-append (x ∷ []) text h k

mutual
  utf8-text : (d : Data) → IsPlain d → IsUtf8 (compact_text d)
  utf8-text null h = IsUtf8-are_ascii (compact_text null) refl
  utf8-text (boolean b) h = IsUtf8-boolean b
  utf8-text (number (unsigned n)) h = IsUtf8-from_ascii (compact_text (number (unsigned n))) (IsAscii-decimal n h)
  utf8-text (number (negative z)) h = absurd h
  utf8-text (number (float x)) h = absurd h
  utf8-text (string s) h = IsUtf8-quoted s h
  utf8-text (array ds) h = after 91 (items_text false ds) (IsUtf8-are_ascii (91 ∷ []) refl) (utf8-items false ds h)
  utf8-text (object ms) h = after 123 (members_text false ms) (IsUtf8-are_ascii (123 ∷ []) refl) (utf8-members false ms h)

  utf8-items : (later : Bool) (ds : Items) → ArePlain ds → IsUtf8 (items_text later ds)
  utf8-items later no_items h = IsUtf8-are_ascii (93 ∷ []) refl
  utf8-items later (item d ds) h =
      IsUtf8-append (comma_if later) (compact_text d ++ items_text true ds) (utf8-comma later)
      (IsUtf8-append (compact_text d) (items_text true ds) (utf8-text d h.0) (utf8-items true ds h.1))

  utf8-members : (later : Bool) (ms : Members) → HasPlain ms → IsUtf8 (members_text later ms)
  utf8-members later no_members h = IsUtf8-are_ascii (125 ∷ []) refl
  utf8-members later (member name d ms) h =
      IsUtf8-append (comma_if later) (quoted name ++ 58 ∷ (compact_text d ++ members_text true ms)) (utf8-comma later)
      (IsUtf8-append (quoted name) (58 ∷ (compact_text d ++ members_text true ms)) (IsUtf8-quoted name h.0)
      (after 58 (compact_text d ++ members_text true ms) (IsUtf8-are_ascii (58 ∷ []) refl)
      (IsUtf8-append (compact_text d) (members_text true ms) (utf8-text d h.1.0) (utf8-members true ms h.1.1))))

-- ---- it is read as the value

mutual
  numbers-outlined : (d : Data) → IsPlain d → tree.HasNumbers (outline d)
  numbers-outlined null h = tt
  numbers-outlined (boolean b) h = tt
  numbers-outlined (number (unsigned n)) h = IsNumber-decimal n h
  numbers-outlined (number (negative z)) h = absurd h
  numbers-outlined (number (float x)) h = absurd h
  numbers-outlined (string s) h = tt
  numbers-outlined (array ds) h = items-outlined ds h
  numbers-outlined (object ms) h = members-outlined ms h

  items-outlined : (ds : Items) → ArePlain ds → tree.ItemsHaveNumbers (items_outline ds)
  items-outlined no_items h = tt
  items-outlined (item d ds) h = (numbers-outlined d h.0, items-outlined ds h.1)

  members-outlined : (ms : Members) → HasPlain ms → tree.MembersHaveNumbers (members_outline ms)
  members-outlined no_members h = tt
  members-outlined (member name d ms) h = (numbers-outlined d h.1.0, members-outlined ms h.1.1)

-- If the members of each object are in order, and nothing is nested too deep.
line_read : (d : Data) → IsPlain d → of_json (outline d) ≡ Some d → tree.depth (outline d) ≤ max_depth
    → read (compact_text d ++ codes "\n") ≡ Some d
line_read d plain again flat =
    let j : json.Json = outline d in
    let printed : print (tree.json_tokens j) ≡ compact_text d = print-outline d in
    let same : tokens (compact_text d ++ codes "\n") ≡ tree.json_tokens j ++ [] =
    ap tokens (sym (ap (λ s. s ++ 10 ∷ []) printed))
    ∙ tokens-line (tree.json_tokens j) (ArePrintable-json_tokens j (numbers-outlined d plain))
    ∙ sym (append-nil (tree.json_tokens j)) in
    ap (λ o. option_and_then of_json (option_and_then (λ q. json.if_last q.0 q.1) o))
    (ap (json.value max_depth) same ∙ value-json_tokens j max_depth [] flat)
    ∙ again

pub line_is_value : (d : Data) → IsPlain d → of_json (outline d) ≡ Some d → tree.depth (outline d) ≤ max_depth
    → IsValue (compact_text d ++ codes "\n") d
line_is_value d plain again flat =
    (IsUtf8-append (compact_text d) (codes "\n") (utf8-text d plain) (IsUtf8-are_ascii (codes "\n") refl), line_read d plain again flat)
