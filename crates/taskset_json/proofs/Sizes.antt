-- How many values a value has: at most one more than its text has bytes, and at least those of each list in it.
use Rattle.std.proofs.Common.{◌≡◌, ℕ, zero, suc, ◌+◌, ◌<◌, ◌≤◌, List, [], ◌∷◌, length, map, Option, Some, None}
use Rattle.std.proofs.Common.{option_map, option_and_then, refl, subst, ap, get_or, arith}
use Rattle.std.specs.Ordering.{nat_cmp, match_ordering}
use Rattle.std.specs.declared.cmp.Ordering.{Ordering}
use Rattle.std.specs.declared.cmp.Ordering.TheVariants as ordering
use Rattle.std.specs.Cmp.Lexicographic.{slice_cmp}
use Rattle.json.specs.Token.{Token}
use Rattle.json.specs.Lex.{tokens}
use Rattle.json.specs.Json as json
use Rattle.serde_json.specs.Data.{Num, Data, null, boolean, number, string, array, object, Items, no_items, item}
use Rattle.serde_json.specs.Data.{Members, no_members, member, put}
use Rattle.serde_json.specs.Find.{get, get_member, as_array}
use Rattle.serde_json.specs.Read.{number_of, of_json, of_items, of_members, max_depth, read}
use Rattle.serde_json.specs.View.{view}
use Rattle.serde_json.specs.declared.value.Value.{Value}
use Rattle.taskset_json.specs.Members.{values_of, values_in, list_at}
use Rattle.taskset_json.specs.Size.{size, items_size, members_size, sizes}
use Rattle.taskset_json.proofs.Tokens.{tokens-length}
use Rattle.taskset_json.proofs.Grammar.{json_size, json_items_size, json_members_size, Within, Takes-value}

abbrev AtMost : {A : Type 0} → (A → ℕ) → ℕ → Option A → Type 0
AtMost f n None = Unit {0}
AtMost f n (Some a) = f a ≤ n

-- ---- from the text

put_at : (o : Ordering) (k l : List ℕ) (d e : Data) (ms rest : Members) (n : ℕ) → members_size rest ≤ size d + members_size ms
    → members_size (match_ordering o (member k d (member l e ms)) (member l d ms) (member l e rest)) ≤ size d + members_size (member l e ms)
put_at ordering.Less k l d e ms rest n h = omega arith
put_at ordering.Equal k l d e ms rest n h = omega arith
put_at ordering.Greater k l d e ms rest n h = omega arith

put-size : (k : List ℕ) (d : Data) (ms : Members) → members_size (put k d ms) ≤ size d + members_size ms
put-size k d no_members = omega arith
put-size k d (member l e ms) = put_at (slice_cmp nat_cmp k l) k l d e ms (put k d ms) 0 (put-size k d ms)

number_size : (o : Option Num) → AtMost size 1 (option_map number o)
number_size None = tt
number_size (Some n) = omega arith

array_size : (n : ℕ) (o : Option Items) → AtMost items_size n o → AtMost size (suc n) (option_map array o)
array_size n None h = tt
array_size n (Some ds) h = omega arith

object_size : (n m : ℕ) → n ≤ m → (o : Option Members) → AtMost members_size n o → AtMost size (suc m) (option_map object o)
object_size n m le None h = tt
object_size n m le (Some ms) h = omega arith

item_size : (d : Data) (k n : ℕ) → size d ≤ k → (o : Option Items) → AtMost items_size n o
    → AtMost items_size (k + n) (option_map (item d) o)
item_size d k n le None h = tt
item_size d k n le (Some ds) h = omega arith

items_turn : (k n : ℕ) (o : Option Data) (rest : Option Items) → AtMost size k o → AtMost items_size n rest
    → AtMost items_size (k + n) (option_and_then (λ d. option_map (item d) rest) o)
items_turn k n None rest h r = tt
items_turn k n (Some d) rest h r = item_size d k n h rest r

wider : {A : Type 0} (f : A → ℕ) (n m : ℕ) → n ≤ m → (o : Option A) → AtMost f n o → AtMost f m o
wider f n m le None h = tt
wider f n m le (Some a) h = omega arith

members_turn : (k n : ℕ) (name : List ℕ) (found : Members) (more : Members → Option Members)
    → ((old : Members) → AtMost members_size (n + members_size old) (more old))
    → (o : Option Data) → AtMost size k o
    → AtMost members_size (k + n + members_size found) (option_and_then (λ d. more (put name d found)) o)
members_turn k n name found more again None h = tt
members_turn k n name found more again (Some d) h =
    let le : n + members_size (put name d found) ≤ k + n + members_size found = omega (arith, put-size name d found) in
    wider members_size _ _ le (more (put name d found)) (again (put name d found))

mutual
  of_json-size : (j : json.Json) → AtMost size (json_size j) (of_json j)
  of_json-size json.null = omega arith
  of_json-size (json.boolean b) = omega arith
  of_json-size (json.number s) = number_size (number_of s)
  of_json-size (json.string s) = omega arith
  of_json-size (json.array js) = array_size (json_items_size js) (of_items js) (of_items-size js)
  of_json-size (json.object ms) = let le : json_members_size ms + 0 ≤ json_members_size ms = omega arith in
      object_size _ _ le (of_members ms no_members) (of_members-size ms no_members)

  of_items-size : (js : json.Items) → AtMost items_size (json_items_size js) (of_items js)
  of_items-size json.no_items = omega arith
  of_items-size (json.item j js) =
      items_turn (json_size j) (json_items_size js) (of_json j) (of_items js) (of_json-size j) (of_items-size js)

  of_members-size : (ms : json.Members) (found : Members)
      → AtMost members_size (json_members_size ms + members_size found) (of_members ms found)
  of_members-size json.no_members found = omega arith
  of_members-size (json.member k j ms) found = members_turn (json_size j) (json_members_size ms) k found (of_members ms)
      (of_members-size ms) (of_json j) (of_json-size j)

last_size : (n : ℕ) (o : Option (json.Json × List Token)) → Within json_size n o
    → AtMost json_size n (option_and_then (λ p. json.if_last p.0 p.1) o)
last_size n None h = tt
last_size n (Some (j, [])) h = omega arith
last_size n (Some (j, t ∷ ts)) h = tt

data_size : (n : ℕ) (o : Option json.Json) → AtMost json_size n o → AtMost size n (option_and_then of_json o)
data_size n None h = tt
data_size n (Some j) h = wider size (json_size j) n h (of_json j) (of_json-size j)

pub read-size : (text : List ℕ) (d : Data) → read text ≡ Some d → size d ≤ suc (length text)
read-size text d e =
    let ts : List Token = tokens text in
    let le : length ts ≤ suc (length text) = tokens-length text in
    subst (AtMost size (suc (length text))) e (wider size (length ts) (suc (length text)) le (read text)
    (data_size (length ts) _ (last_size (length ts) _ (Takes-value max_depth ts))))

-- ---- of the lists in a value

size-positive : (d : Data) → 1 ≤ size d
size-positive null = omega arith
size-positive (boolean b) = omega arith
size-positive (number n) = omega arith
size-positive (string s) = omega arith
size-positive (array ds) = omega arith
size-positive (object ms) = omega arith

pub length-sizes : (ds : List Data) → length ds ≤ sizes ds
length-sizes [] = omega arith
length-sizes (d ∷ ds) = omega (arith, size-positive d, length-sizes ds)

values_of-size : (ds : Items) → sizes (values_of ds) ≡ items_size ds
values_of-size no_items = refl
values_of-size (item d ds) = ap (λ n. size d + n) (values_of-size ds)

list_size : (n : ℕ) (o : Option Data) → AtMost size n o → sizes (values_in (option_and_then as_array o)) ≤ n
list_size n None h = omega arith
list_size n (Some null) h = omega arith
list_size n (Some (boolean b)) h = omega arith
list_size n (Some (number x)) h = omega arith
list_size n (Some (string s)) h = omega arith
list_size n (Some (array ds)) h = omega (arith, values_of-size ds)
list_size n (Some (object ms)) h = omega arith

found_at : (o : Ordering) (e : Data) (ms : Members) (rest : Option Data) → AtMost size (members_size ms) rest
    → AtMost size (size e + members_size ms) (match_ordering o rest (Some e) rest)
found_at ordering.Less e ms rest h = wider size (members_size ms) (size e + members_size ms) (omega arith) rest h
found_at ordering.Equal e ms rest h = omega arith
found_at ordering.Greater e ms rest h = wider size (members_size ms) (size e + members_size ms) (omega arith) rest h

get_member-size : (name : List ℕ) (ms : Members) → AtMost size (members_size ms) (get_member name ms)
get_member-size name no_members = tt
get_member-size name (member l e ms) = found_at (slice_cmp nat_cmp name l) e ms (get_member name ms) (get_member-size name ms)

get-size : (name : List ℕ) (d : Data) → AtMost size (size d) (get name d)
get-size name null = tt
get-size name (boolean b) = tt
get-size name (number n) = tt
get-size name (string s) = tt
get-size name (array ds) = tt
get-size name (object ms) =
    wider size (members_size ms) (suc (members_size ms)) (omega arith) (get_member name ms) (get_member-size name ms)

pub list_at-sizes : (name : List ℕ) (d : Data) → sizes (list_at name d) ≤ size d
list_at-sizes name d = list_size (size d) (get name d) (get-size name d)

-- ---- of what the code holds

pub length-values : (vs : List Value) → length vs ≤ sizes (map view vs)
length-values [] = omega arith
length-values (v ∷ vs) = omega (arith, size-positive (view v), length-values vs)

pub value_within : (vs : List Value) (i : ℕ) (v : Value) → i < length vs → size (view (get_or vs i v)) ≤ sizes (map view vs)
value_within [] i v h = let never : ⊥ = omega arith in absurd never
value_within (w ∷ vs) zero v h = omega arith
value_within (w ∷ vs) (suc i) v h = omega (arith, value_within vs i v (omega arith))

pub listed_within : (name : List ℕ) (d : Data) (vs : List Value) → map view vs ≡ list_at name d → length vs ≤ size d
listed_within name d vs e = let same : sizes (map view vs) ≡ sizes (list_at name d) = ap sizes e in
    omega (arith, length-values vs, list_at-sizes name d, same)
