-- The numbers at which a test passes, in order, and the first of them.
use Rattle.std.proofs.Common.{◌≡◌, ℕ, suc, ◌+◌, ◌-◌, ◌<◌, ◌≤◌, Bool, true, false, ◌&&◌, List, [], ◌∷◌, ◌++◌, map, length}
use Rattle.std.proofs.Common.{refl, ap, sym, ◌∙◌, subst, arith}
use Rattle.std.proofs.Common.{Some, cond}
use Rattle.std.specs.List.{All, find, filter, range_with_len, slice_index_or, slice_get}
use Rattle.std.specs.Option.{option_map}
use Rattle.std.proofs.lemmas.List.{length-map, map_push, append-nil}
use Rattle.std.proofs.lemmas.List.Elements.{All-filter, All-from_get_or}
use Rattle.std.proofs.lemmas.List.FromFn.{get_or-range_with_len, length-range_with_len, get_or-map-range_with_len, length-map-range_with_len}
use Rattle.std.proofs.lemmas.List.FromFn.{map-range_with_len_more}
use Rattle.sporadic_model.specs.Users.{numbers}
use Rattle.sporadic_model.proofs.Mapped.{element-map}

-- What two tests find together is what one finds among the elements that pass the other.
pub find_filter : {A : Type 0} (p r : A → Bool) (xs : List A) → find (λ x. p x && r x) xs ≡ find r (filter p xs)
find_filter p r [] = refl
find_filter p r (x ∷ xs) =
    elim (p x) as (λ b. cond (b && r x) (Some x) (find (λ y. p y && r y) xs) ≡ find r (cond b (x ∷ filter p xs) (filter p xs)))
    [ true ↦ ap (λ o. cond (r x) (Some x) o) (find_filter p r xs) | false ↦ find_filter p r xs ]

-- What a test finds is the first that passes it.
pub find_first : {A : Type 0} (p : A → Bool) (xs : List A) → find p xs ≡ slice_get (filter p xs) 0
find_first p [] = refl
find_first p (x ∷ xs) =
    elim (p x) as (λ b. cond b (Some x) (find p xs) ≡ slice_get (cond b (x ∷ filter p xs) (filter p xs)) 0)
    [ true ↦ refl | false ↦ find_first p xs ]

pub get-map : {A B : Type 0} (f : A → B) (xs : List A) → slice_get (map f xs) 0 ≡ option_map f (slice_get xs 0)
get-map f [] = refl
get-map f (x ∷ xs) = refl

pub filter_next : (p : ℕ → Bool) (x n : ℕ) → x < n → p x ≡ false
    → filter p (range_with_len x (n - x)) ≡ filter p (range_with_len (x + 1) (n - (x + 1)))
filter_next p x n h t = let e : n - x ≡ suc (n - (x + 1)) = omega arith in rw (e, t) refl

pub filter_now : (p : ℕ → Bool) (x n : ℕ) → x < n → p x ≡ true
    → filter p (range_with_len x (n - x)) ≡ x ∷ filter p (range_with_len (x + 1) (n - (x + 1)))
filter_now p x n h t = let e : n - x ≡ suc (n - (x + 1)) = omega arith in rw (e, t) refl

pub one_more : {A : Type 0} (id : A → ℕ) (xs : List A) (a : A) (rest : List ℕ)
    → map id (xs ++ a ∷ []) ++ rest ≡ map id xs ++ (id a ∷ rest)
one_more id [] a rest = refl
one_more id (x ∷ xs) a rest = ap (λ l. id x ∷ l) (one_more id xs a rest)

-- A list of what passes so far, and one more number, which is listed if it passes.
pub listed_more : {A : Type 0} (id : A → ℕ) (p : ℕ → Bool) (x n : ℕ) (xs ys : List A) (a : A) (whole : List ℕ) → x < n → id a ≡ x
    → ys ≡ xs ++ a ∷ [] → p x ≡ true → map id xs ++ filter p (range_with_len x (n - x)) ≡ whole
    → map id ys ++ filter p (range_with_len (x + 1) (n - (x + 1))) ≡ whole
listed_more id p x n xs ys a whole h same grown t e =
    ap (λ l. map id l ++ filter p (range_with_len (x + 1) (n - (x + 1)))) grown
    ∙ one_more id xs a (filter p (range_with_len (x + 1) (n - (x + 1))))
    ∙ ap (λ l. map id xs ++ l) (ap (λ y. y ∷ filter p (range_with_len (x + 1) (n - (x + 1)))) same ∙ sym (filter_now p x n h t)) ∙ e

pub listed_same : {A : Type 0} (id : A → ℕ) (p : ℕ → Bool) (x n : ℕ) (xs ys : List A) (whole : List ℕ) → x < n
    → ys ≡ xs → p x ≡ false → map id xs ++ filter p (range_with_len x (n - x)) ≡ whole
    → map id ys ++ filter p (range_with_len (x + 1) (n - (x + 1))) ≡ whole
listed_same id p x n xs ys whole h same t e =
    ap (λ l. map id l ++ filter p (range_with_len (x + 1) (n - (x + 1)))) same
    ∙ ap (λ l. map id xs ++ l) (sym (filter_next p x n h t)) ∙ e

pub listed_all : {A : Type 0} (id : A → ℕ) (p : ℕ → Bool) (x n : ℕ) (xs : List A) (whole : List ℕ) → n ≤ x
    → map id xs ++ filter p (range_with_len x (n - x)) ≡ whole → map id xs ≡ whole
listed_all id p x n xs whole h e = let none : n - x ≡ 0 = omega arith in
    sym (append-nil (map id xs)) ∙ ap (λ k. map id xs ++ filter p (range_with_len x k)) (sym none) ∙ e

-- One more element is kept.
pub kept_more : {A B : Type 0} (id : A → B) (f : ℕ → B) (x : ℕ) (xs : List A) (a : A)
    → map id xs ≡ map f (range_with_len 0 x) → id a ≡ f x → map id (xs ++ a ∷ []) ≡ map f (range_with_len 0 (x + 1))
kept_more id f x xs a kept here =
    map_push id xs a ∙ ap (λ l. l ++ id a ∷ []) kept ∙ ap (λ r. map f (range_with_len 0 x) ++ r ∷ []) here
    ∙ sym (map-range_with_len_more f 0 x x (omega arith))

-- Those among the numbers below n are below n.
pub below_of_filter : (p : ℕ → Bool) (n : ℕ) → All (λ x. x < n) (filter p (numbers n))
below_of_filter p n = All-filter p (λ x. x < n) (numbers n) (All-from_get_or (λ x. x < n) (numbers n) 0
    (λ i h. omega (arith, get_or-range_with_len 0 n i 0 (omega (arith, length-range_with_len 0 n)), length-range_with_len 0 n)))

pub below_of_ids : {A : Type 0} (id : A → ℕ) (p : ℕ → Bool) (n : ℕ) (xs : List A) → map id xs ≡ filter p (numbers n)
    → All (λ x. id x < n) xs
below_of_ids {A} id p n xs e = λ k d h.
    let long : k < length (filter p (numbers n)) = subst (λ l. k < length l) e (omega (arith, length-map xs id)) in
    let below : slice_index_or (filter p (numbers n)) k 0 < n = below_of_filter p n k 0 long in
    let same : slice_index_or (filter p (numbers n)) k 0 ≡ id (slice_index_or xs k d) =
    ap (λ l. slice_index_or l k 0) (sym e) ∙ element-map id xs k d 0 h in
    subst (λ y. y < n) same below

-- What is kept for each of the numbers below n, and for number x.
pub kept_long : {A B : Type 0} (id : A → B) (f : ℕ → B) (xs : List A) (n : ℕ) → map id xs ≡ map f (numbers n) → length xs ≡ n
kept_long id f xs n kept = sym (length-map xs id) ∙ ap length kept ∙ length-map-range_with_len f 0 n

pub kept_at : {A B : Type 0} (id : A → B) (f : ℕ → B) (xs : List A) (n x : ℕ) (d : A)
    → map id xs ≡ map f (numbers n) → x < n → id (slice_index_or xs x d) ≡ f x
kept_at id f xs n x d kept h =
    sym (element-map id xs x d (f x) (omega (arith, kept_long id f xs n kept)))
    ∙ ap (λ l. slice_index_or l x (f x)) kept ∙ get_or-map-range_with_len f 0 n x x (f x) h (omega arith)

-- What lists of ids, kept for each of some numbers, have at number x: those below m that pass the test.
pub record HasIds {A V : Type 0} (items : V → List A) (id : A → ℕ) (p : ℕ → Bool) (m x : ℕ) (rows : List V) : Type 0 where
  pub within : x < length rows
  pub ids : map id (slice_index_or (map items rows) x []) ≡ filter p (numbers m)
  pub below : All (λ a. id a < m) (slice_index_or (map items rows) x [])

pub has_ids : {A V : Type 0} (items : V → List A) (id : A → ℕ) (p : ℕ → ℕ → Bool) (m n x : ℕ) (rows : List V)
    → map (map id) (map items rows) ≡ map (λ k. filter (p k) (numbers m)) (numbers n) → x < n → HasIds items id (p x) m x rows
has_ids items id p m n x rows kept h =
    let long : length (map items rows) ≡ n = kept_long (map id) (λ k. filter (p k) (numbers m)) (map items rows) n kept in
    let ids : map id (slice_index_or (map items rows) x []) ≡ filter (p x) (numbers m) =
    kept_at (map id) (λ k. filter (p k) (numbers m)) (map items rows) n x [] kept h in
    record {
      within = omega (arith, long, length-map rows items);
      ids = ids;
      below = below_of_ids id (p x) m (slice_index_or (map items rows) x []) ids;
    }
