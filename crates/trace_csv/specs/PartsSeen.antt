-- What a contract sees of the parts of a script, and what the calls that read one say.
use Rattle.std.specs.Prelude.{◌≡◌, ◌<◌, ◌+◌, ◌==◌, ℕ, true, false, List, [], ◌∷◌, length, option_map, Option, None}
use Rattle.std.specs.Prelude.{Some}
use Rattle.std.specs.Borrow.{Bor}
use Rattle.std.specs.List.{list_any, before_first, after_first}
use Rattle.trace_csv.specs.declared.script.Request.{Request}
use Rattle.trace_csv.specs.declared.script.Part.{Part}
use Rattle.trace_csv.specs.Scripts.{NamedRequest, PartDef, tokens_in, parts_of, script_in, with_front}

abbrev pub request_seen : Request → NamedRequest
request_seen r = record { resource = r.resource.now; ticks = r.ticks }

abbrev pub part_seen : Part → PartDef
part_seen p = record { local = p.local; request = option_map request_seen p.request }

-- Either the text has no such byte. Or the two are the texts before the first one and after it.
abbrev pub Divides : Option (Bor (List ℕ) × Bor (List ℕ)) → List ℕ → ℕ → Type 0
Divides None text byte = list_any (λ b. b == byte) text ≡ false
Divides (Some p) text byte =
    (p.0.now ≡ before_first (λ b. b == byte) text) × (p.1.now ≡ after_first (λ b. b == byte) text)
    × (length p.1.now < length text) × (list_any (λ b. b == byte) text ≡ true)

-- The tokens of what is left of a script, if there is more.
abbrev pub tokens_left : Option (List ℕ) → List (List ℕ)
tokens_left None = []
tokens_left (Some text) = tokens_in text

-- How many bytes are left?
abbrev pub size_left : Option (List ℕ) → ℕ
size_left None = 0
size_left (Some text) = length text + 1

abbrev pub rest_seen : Option (Bor (List ℕ)) → Option (List ℕ)
rest_seen o = option_map (λ t. t.now) o

-- The first token of a text, and the rest.
pub record IsFirstToken (p : Bor (List ℕ) × Option (Bor (List ℕ))) (text : List ℕ) : Type 0 where
  pub tokens : tokens_in text ≡ p.0.now ∷ tokens_left (rest_seen p.1)
  pub smaller : size_left (rest_seen p.1) < length text + 1

-- Either the text is no script. Or it is one exactly if the rest is one, and its first part is this.
abbrev pub IsFirstPart : Option (Part × Option (Bor (List ℕ))) → List ℕ → Type 0
IsFirstPart None text = script_in text ≡ None
IsFirstPart (Some p) text = (script_in text ≡ with_front (part_seen p.0 ∷ []) (parts_of (tokens_left (rest_seen p.1))))
    × (size_left (rest_seen p.1) < length text + 1)
