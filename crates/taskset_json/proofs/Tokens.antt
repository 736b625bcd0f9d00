-- A text has at most one token more than it has bytes.
use Rattle.std.proofs.Common.{ℕ, suc, ◌≤◌, Bool, true, false, List, [], ◌∷◌, length, arith}
use Rattle.json.specs.Token.{Token}
use Rattle.json.specs.Lex.{Lexeme, token, comma, colon, Class, quote, backslash, operator, space, other, Mode, between}
use Rattle.json.specs.Lex.{in_word, in_string, in_escape, class, lex_byte, lex, Place, fresh, after_value, after_comma}
use Rattle.json.specs.Lex.{after_key, may_begin, may_close, if_allowed, place_token, begins_colon, punctuate, tokens}

lex_byte-length : (m : Mode) (c : Class) (x : ℕ) (xs : List ℕ) (k : Mode → List Lexeme) (n : ℕ)
    → ((next : Mode) → length (k next) ≤ n) → length (lex_byte m c x xs k) ≤ suc n
lex_byte-length between quote x xs k n below = omega (arith, below in_string)
lex_byte-length between backslash x xs k n below = omega (arith, below in_word)
lex_byte-length between operator x xs k n below = omega (arith, below between)
lex_byte-length between space x xs k n below = omega (arith, below between)
lex_byte-length between other x xs k n below = omega (arith, below in_word)
lex_byte-length in_word quote x xs k n below = omega (arith, below in_word)
lex_byte-length in_word backslash x xs k n below = omega (arith, below in_word)
lex_byte-length in_word operator x xs k n below = omega (arith, below between)
lex_byte-length in_word space x xs k n below = omega (arith, below between)
lex_byte-length in_word other x xs k n below = omega (arith, below in_word)
lex_byte-length in_string quote x xs k n below = omega (arith, below between)
lex_byte-length in_string backslash x xs k n below = omega (arith, below in_escape)
lex_byte-length in_string operator x xs k n below = omega (arith, below in_string)
lex_byte-length in_string space x xs k n below = omega (arith, below in_string)
lex_byte-length in_string other x xs k n below = omega (arith, below in_string)
lex_byte-length in_escape c x xs k n below = omega (arith, below in_string)

lex-length : (m : Mode) (xs : List ℕ) → length (lex m xs) ≤ length xs
unfolding lex
lex-length m [] = omega arith
lex-length m (x ∷ xs) = lex_byte-length m (class x) x xs (λ next. lex next xs) (length xs) (λ next. lex-length next xs)

if_allowed-length : (b : Bool) (t : Token) (k : Place → List Token) (next : Place) (n : ℕ) → length (k next) ≤ n
    → length (if_allowed b t k next) ≤ suc n
if_allowed-length true t k next n below = omega (arith, below)
if_allowed-length false t k next n below = omega arith

place_token-length : (p : Place) (t : Token) (b : Bool) (k : Place → List Token) (n : ℕ)
    → ((next : Place) → length (k next) ≤ n) → length (place_token p t b k) ≤ suc n
place_token-length p Token.begin_object b k n below = if_allowed-length (may_begin p) Token.begin_object k fresh n (below fresh)
place_token-length p Token.end_object b k n below = if_allowed-length (may_close p) Token.end_object k after_value n (below after_value)
place_token-length p Token.begin_array b k n below = if_allowed-length (may_begin p) Token.begin_array k fresh n (below fresh)
place_token-length p Token.end_array b k n below = if_allowed-length (may_close p) Token.end_array k after_value n (below after_value)
place_token-length p (Token.number s) b k n below = if_allowed-length (may_begin p) (Token.number s) k after_value n (below after_value)
place_token-length p (Token.boolean v) b k n below = if_allowed-length (may_begin p) (Token.boolean v) k after_value n (below after_value)
place_token-length p Token.null b k n below = if_allowed-length (may_begin p) Token.null k after_value n (below after_value)
place_token-length p (Token.string s) true k n below = if_allowed-length (may_begin p) (Token.key s) k after_key n (below after_key)
place_token-length p (Token.string s) false k n below = if_allowed-length (may_begin p) (Token.string s) k after_value n (below after_value)
place_token-length p (Token.key s) b k n below = omega arith
place_token-length p Token.bad b k n below = omega arith

punctuate-length : (p : Place) (ls : List Lexeme) → length (punctuate p ls) ≤ suc (length ls)
unfolding punctuate
punctuate-length fresh [] = omega arith
punctuate-length after_value [] = omega arith
punctuate-length after_comma [] = omega arith
punctuate-length after_key [] = omega arith
punctuate-length fresh (token t ∷ ls) = place_token-length fresh t (begins_colon ls) (λ next. punctuate next ls)
    (suc (length ls)) (λ next. punctuate-length next ls)
punctuate-length after_value (token t ∷ ls) = place_token-length after_value t (begins_colon ls)
    (λ next. punctuate next ls) (suc (length ls)) (λ next. punctuate-length next ls)
punctuate-length after_comma (token t ∷ ls) = place_token-length after_comma t (begins_colon ls)
    (λ next. punctuate next ls) (suc (length ls)) (λ next. punctuate-length next ls)
punctuate-length after_key (token t ∷ ls) = place_token-length after_key t (begins_colon ls) (λ next. punctuate next ls)
    (suc (length ls)) (λ next. punctuate-length next ls)
punctuate-length fresh (comma ∷ ls) = omega arith
punctuate-length after_value (comma ∷ ls) = omega (arith, punctuate-length after_comma ls)
punctuate-length after_comma (comma ∷ ls) = omega arith
punctuate-length after_key (comma ∷ ls) = omega arith
punctuate-length fresh (colon ∷ ls) = omega arith
punctuate-length after_value (colon ∷ ls) = omega arith
punctuate-length after_comma (colon ∷ ls) = omega arith
punctuate-length after_key (colon ∷ ls) = omega (arith, punctuate-length fresh ls)

pub tokens-length : (text : List ℕ) → length (tokens text) ≤ suc (length text)
tokens-length text = omega (arith, punctuate-length fresh (lex between text), lex-length between text)
