-- A line end after a printed text changes no token.
use Rattle.std.proofs.Common.{◌≡◌, ℕ, Bool, true, false, cond, ◌&&◌, List, [], ◌∷◌, ◌++◌, refl, sym, ap, ap₂, ◌∙◌, append_assoc}
use Rattle.json.specs.Token.{Token, begin_object, end_object, begin_array, end_array, key, string, number, boolean, null, bad}
use Rattle.json.specs.Word.{ends_word, word}
use Rattle.json.specs.Lex.{Lexeme, token, comma, colon, string_token, lex, between, fresh, punctuate, tokens}
use Rattle.json.specs.Print.{escape, quoted, token_text, begins, ends, separator, print_from, print, IsPrintable, ArePrintable}
use Rattle.json.proofs.Printed.Strings.{content-escape, lex-escape}
use Rattle.json.proofs.Printed.Numbers.{lex-number, in_word-ended}
use Rattle.json.proofs.Printed.Tokens.{tokens-print}

abbrev lexemes_of : Token → List Lexeme
lexemes_of begin_object = token begin_object ∷ []
lexemes_of end_object = token end_object ∷ []
lexemes_of begin_array = token begin_array ∷ []
lexemes_of end_array = token end_array ∷ []
lexemes_of (key s) = token (string s) ∷ colon ∷ []
lexemes_of (string s) = token (string s) ∷ []
lexemes_of (number s) = token (number s) ∷ []
lexemes_of (boolean b) = token (boolean b) ∷ []
lexemes_of null = token null ∷ []
lexemes_of bad = []

-- After a value comes a comma, a closing bracket or the end, also if a line end follows.
value_ends : (ts : List Token) → ends_word (print_from true ts) ≡ true
unfolding print_from
value_ends [] = refl
value_ends (begin_object ∷ ts) = refl
value_ends (end_object ∷ ts) = refl
value_ends (begin_array ∷ ts) = refl
value_ends (end_array ∷ ts) = refl
value_ends (key s ∷ ts) = refl
value_ends (string s ∷ ts) = refl
value_ends (number s ∷ ts) = refl
value_ends (boolean b ∷ ts) = refl
value_ends (null ∷ ts) = refl
value_ends (bad ∷ ts) = refl

value_ends_before_line : (ts : List Token) → ends_word (print_from true ts ++ 10 ∷ []) ≡ true
unfolding print_from
value_ends_before_line [] = refl
value_ends_before_line (begin_object ∷ ts) = refl
value_ends_before_line (end_object ∷ ts) = refl
value_ends_before_line (begin_array ∷ ts) = refl
value_ends_before_line (end_array ∷ ts) = refl
value_ends_before_line (key s ∷ ts) = refl
value_ends_before_line (string s ∷ ts) = refl
value_ends_before_line (number s ∷ ts) = refl
value_ends_before_line (boolean b ∷ ts) = refl
value_ends_before_line (null ∷ ts) = refl
value_ends_before_line (bad ∷ ts) = refl

lex-quoted : (s r : List ℕ) → lex between (quoted s ++ r) ≡ token (string s) ∷ lex between r
unfolding lex
lex-quoted s r =
    ap (λ l. lex between (34 ∷ l)) (append_assoc (escape s) (34 ∷ []) r)
    ∙ ap₂ (λ o l. token (string_token o) ∷ l) (content-escape s r) (lex-escape s r)

lex-token : (t : Token) (r : List ℕ) → IsPrintable t → (ends t ≡ true → ends_word r ≡ true)
    → lex between (token_text t ++ r) ≡ lexemes_of t ++ lex between r
unfolding lex word
lex-token begin_object r h ended = refl
lex-token end_object r h ended = refl
lex-token begin_array r h ended = refl
lex-token end_array r h ended = refl
lex-token (key s) r h ended = ap (lex between) (append_assoc (quoted s) (58 ∷ []) r) ∙ lex-quoted s (58 ∷ r)
lex-token (string s) r h ended = lex-quoted s r
lex-token (number s) r h ended = lex-number s r h (ended refl)
lex-token (boolean true) r h ended = ap₂ (λ b l. token (cond b (boolean true) bad) ∷ l) (ended refl) (in_word-ended r (ended refl))
lex-token (boolean false) r h ended = ap₂ (λ b l. token (cond b (boolean false) bad) ∷ l) (ended refl) (in_word-ended r (ended refl))
lex-token null r h ended = ap₂ (λ b l. token (cond b null bad) ∷ l) (ended refl) (in_word-ended r (ended refl))
lex-token bad r h ended = absurd h

lex-separator : (b : Bool) (r : List ℕ) → lex between (cond b (44 ∷ []) [] ++ r) ≡ cond b (comma ∷ []) [] ++ lex between r
unfolding lex
lex-separator true r = refl
lex-separator false r = refl

lex-line : (later : Bool) (ts : List Token) → ArePrintable ts
    → lex between (print_from later ts ++ 10 ∷ []) ≡ lex between (print_from later ts)
unfolding lex print_from ArePrintable
lex-line later [] h = refl
lex-line later (t ∷ ts) h =
    let rest : List ℕ = print_from (ends t) ts in
    let line : List ℕ = rest ++ 10 ∷ [] in
    let before : List Lexeme = cond (later && begins t) (comma ∷ []) [] in
    ap (lex between) (append_assoc (separator later t) (token_text t ++ rest) (10 ∷ [])
    ∙ ap (λ l. separator later t ++ l) (append_assoc (token_text t) rest (10 ∷ [])))
    ∙ lex-separator (later && begins t) (token_text t ++ line)
    ∙ ap (λ l. before ++ l)
    (lex-token t line h.0 (λ e. ap (λ b. ends_word (print_from b ts ++ 10 ∷ [])) e ∙ value_ends_before_line ts)
    ∙ ap (λ l. lexemes_of t ++ l) (lex-line (ends t) ts h.1)
    ∙ sym (lex-token t rest h.0 (λ e. ap (λ b. ends_word (print_from b ts)) e ∙ value_ends ts)))
    ∙ sym (lex-separator (later && begins t) (token_text t ++ rest))

pub tokens-line : (ts : List Token) → ArePrintable ts → tokens (print ts ++ 10 ∷ []) ≡ ts
tokens-line ts h = ap (punctuate fresh) (lex-line false ts h) ∙ tokens-print ts h
