-- Scripts in text: local numbers and requests in turn, with one space between them.
use Rattle.std.specs.Prelude.{ℕ, ◌==◌, Bool, List, [], ◌∷◌, ◌++◌, length, Option, None, Some, option_map, if◌then◌else◌}
use Rattle.std.specs.List.{before_first, after_first}
use Rattle.std.specs.Int.{is_in_range}
use Rattle.sporadic_model.specs.declared.limits.TheConstants.{MOST_NAME, MOST_TICKS}
use Rattle.text_pieces.specs.Numbers.{number_between}

-- The codes of a space and of a colon.
abbrev pub space : ℕ
space = 32

abbrev pub colon : ℕ
colon = 58

-- A request by the name of its resource, and how many ticks it takes.
pub record NamedRequest : Type 0 where
  pub resource : List ℕ
  pub ticks : ℕ

-- A part of a script: local ticks, and then a request or none.
pub record PartDef : Type 0 where
  pub local : ℕ
  pub request : Option NamedRequest

-- The pieces of a text between its spaces. A text without a space is one piece.
abbrev pub with_first : ℕ → List (List ℕ) → List (List ℕ)
with_first b [] = (b ∷ []) ∷ []
with_first b (piece ∷ pieces) = (b ∷ piece) ∷ pieces

abbrev pub tokens_in : List ℕ → List (List ℕ)
tokens_in [] = [] ∷ []
tokens_in (b ∷ text) = if b == space then [] ∷ tokens_in text else with_first b (tokens_in text)

-- The local number of a token: from 1 to 10^9. A token with a colon has none.
abbrev pub local_in : List ℕ → Option ℕ
local_in token = number_between 1 MOST_TICKS token

-- The request of a token: a name of 1 to 32 bytes before its first colon, and a number of ticks from 1 to 10^9 after it. A token without a
-- colon has none, since it has no number after one.
abbrev pub is_name : List ℕ → Bool
is_name name = is_in_range 1 MOST_NAME (length name)

abbrev pub request_in : List ℕ → Option NamedRequest
request_in token =
    let name = before_first (λ b. b == colon) token in
    let ticks = number_between 1 MOST_TICKS (after_first (λ b. b == colon) token) in
    if is_name name then option_map (λ n. record { resource = name; ticks = n }) ticks else None

-- The parts of the tokens. The first token is a local number, and then requests and local numbers come in turn. The last part may have no
-- request.
abbrev pub with_front : {A : Type 0} → List A → Option (List A) → Option (List A)
with_front front rest = option_map (λ r. front ++ r) rest

abbrev pub with_request : ℕ → Option NamedRequest → Option (List PartDef) → Option (List PartDef)
with_request local None rest = None
with_request local (Some request) rest = with_front (record { local = local; request = Some request } ∷ []) rest

abbrev pub with_local : Option ℕ → Option NamedRequest → Option (List PartDef) → Option (List PartDef)
with_local None request rest = None
with_local (Some local) request rest = with_request local request rest

abbrev pub parts_of : List (List ℕ) → Option (List PartDef)
parts_of [] = Some []
parts_of (token ∷ []) = option_map (λ n. record { local = n; request = None } ∷ []) (local_in token)
parts_of (token ∷ next ∷ tokens) = with_local (local_in token) (request_in next) (parts_of tokens)

-- The script of a text, if it is one.
abbrev pub script_in : List ℕ → Option (List PartDef)
script_in text = parts_of (tokens_in text)
