-- A value that is read from tokens has at most as many values in it as it takes tokens.
use Rattle.std.proofs.Common.{◌≡◌, ℕ, zero, suc, ◌+◌, ◌<◌, ◌≤◌, List, [], ◌∷◌, length, Option, Some, None, option_and_then, refl, arith}
use Rattle.json.specs.Token.{Token}
use Rattle.json.specs.Json.{Json, null, boolean, number, string, array, object, Items, no_items, item, Members}
use Rattle.json.specs.Json.{no_members, member, Parse, parse_map, after_end_array, read_key, items_step, members_step}
use Rattle.json.specs.Json.{items, members, value_with, value}
use Rattle.json.proofs.Grammar.{after_end_array-shorter, read_key-shorter}

abbrev mutual
  pub json_size : Json → ℕ
  json_size null = 1
  json_size (boolean b) = 1
  json_size (number s) = 1
  json_size (string s) = 1
  json_size (array js) = suc (json_items_size js)
  json_size (object ms) = suc (json_members_size ms)

  pub json_items_size : Items → ℕ
  json_items_size no_items = 0
  json_items_size (item j js) = json_size j + json_items_size js

  pub json_members_size : Members → ℕ
  json_members_size no_members = 0
  json_members_size (member name j ms) = json_size j + json_members_size ms

-- What was read, and the tokens after it, are at most n.
abbrev pub Within : {A : Type 0} → (A → ℕ) → ℕ → Option (A × List Token) → Type 0
Within f n None = Unit {0}
Within f n (Some p) = f p.0 + length p.1 ≤ n

abbrev Takes : {A : Type 0} → (A → ℕ) → Parse A → Type 0
Takes f p = (ts : List Token) → Within f (length ts) (p ts)

one_more : {A B : Type 0} (f : A → ℕ) (g : B → ℕ) (h : A → B) (n : ℕ) → ((a : A) → g (h a) ≡ suc (f a))
    → (o : Option (A × List Token)) → Within f n o → Within g (suc n) (parse_map h o)
one_more f g h n is None x = tt
one_more f g h n is (Some p) x = omega (arith, is p.0)

beside : {B : Type 0} (g : B → ℕ) (h : B → B) (k n m : ℕ) → ((b : B) → g (h b) ≡ k + g b) → k + m ≤ n
    → (o : Option (B × List Token)) → Within g m o → Within g n (parse_map h o)
beside g h k n m is le None x = tt
beside g h k n m is le (Some p) x = omega (arith, is p.0)

and_more : {B : Type 0} (g : B → ℕ) (h : Json → B → B) (n : ℕ) → ((j : Json) (b : B) → g (h j b) ≡ json_size j + g b)
    → (more : Parse B) → Takes g more
    → (o : Option (Json × List Token)) → Within json_size n o → Within g n (option_and_then (λ q. parse_map (h q.0) (more q.1)) o)
and_more g h n is more takes None x = tt
and_more g h n is more takes (Some q) x = beside g (h q.0) (json_size q.0) n (length q.1) (is q.0) x (more q.1) (takes q.1)

wider : {A : Type 0} (f : A → ℕ) (n m : ℕ) → n ≤ m → (o : Option (A × List Token)) → Within f n o → Within f m o
wider f n m le None x = tt
wider f n m le (Some p) x = omega arith

module _ (p : Parse Json) (takes : Takes json_size p) where
  item_turn : (more : Parse Items) → Takes json_items_size more → (ts : List Token) (o : Option (List Token))
      → after_end_array ts ≡ o → Within json_items_size (length ts) (items_step p more ts o)
  item_turn more again ts (Some r) e = omega (arith, after_end_array-shorter ts r e)
  item_turn more again ts None e = and_more json_items_size item (length ts) (λ j b. refl) more again (p ts) (takes ts)

  Takes-items : (n : ℕ) → Takes json_items_size (items p n)
  unfolding items
  Takes-items zero ts = tt
  Takes-items (suc n) ts = item_turn (items p n) (Takes-items n) ts (after_end_array ts) refl

  member_turn : (more : Parse Members) → Takes json_members_size more
      → (ts : List Token) (o : Option (Option (List ℕ) × List Token)) → read_key ts ≡ o
      → Within json_members_size (length ts) (option_and_then (λ q. members_step p more q.0 q.1) o)
  member_turn more again ts None e = tt
  member_turn more again ts (Some (None, s)) e = omega (arith, read_key-shorter ts None s e)
  member_turn more again ts (Some (Some k, s)) e =
      let less : length s < length ts = read_key-shorter ts (Some k) s e in
      let le : length s ≤ length ts = omega arith in
      wider json_members_size (length s) (length ts) le (members_step p more (Some k) s)
      (and_more json_members_size (member k) (length s) (λ j b. refl) more again (p s) (takes s))

  Takes-members : (n : ℕ) → Takes json_members_size (members p n)
  unfolding members
  Takes-members zero ts = tt
  Takes-members (suc n) ts = member_turn (members p n) (Takes-members n) ts (read_key ts) refl

one_level : (a : Parse Items) (o : Parse Members) → Takes json_items_size a → Takes json_members_size o → Takes json_size (value_with a o)
one_level a o p q [] = tt
one_level a o p q (Token.begin_object ∷ ts) = one_more json_members_size json_size object (length ts) (λ ms. refl) (o ts) (q ts)
one_level a o p q (Token.end_object ∷ ts) = tt
one_level a o p q (Token.begin_array ∷ ts) = one_more json_items_size json_size array (length ts) (λ js. refl) (a ts) (p ts)
one_level a o p q (Token.end_array ∷ ts) = tt
one_level a o p q (Token.key s ∷ ts) = tt
one_level a o p q (Token.string s ∷ ts) = omega arith
one_level a o p q (Token.number s ∷ ts) = omega arith
one_level a o p q (Token.boolean b ∷ ts) = omega arith
one_level a o p q (Token.null ∷ ts) = omega arith
one_level a o p q (Token.bad ∷ ts) = tt

pub Takes-value : (depth : ℕ) (ts : List Token) → Within json_size (length ts) (value depth ts)
unfolding value
Takes-value zero ts = one_level (λ ts. None) (λ ts. None) (λ ts. tt) (λ ts. tt) ts
Takes-value (suc d) ts =
    one_level (λ ts. items (value d) (length ts) ts) (λ ts. members (value d) (length ts) ts)
    (λ ts. Takes-items (value d) (Takes-value d) (length ts) ts)
    (λ ts. Takes-members (value d) (Takes-value d) (length ts) ts) ts
