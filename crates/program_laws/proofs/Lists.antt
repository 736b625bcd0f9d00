-- Laws of lists of numbers, of filters and of lists that are collected index by index.
use Rattle.std.proofs.Common.{◌≡◌, ℕ, zero, suc, ◌*◌, ◌<◌, ◌≤◌, Bool, true, false, List, [], ◌∷◌, map, length, ◌∙◌, ap}
use Rattle.std.proofs.Common.{subst, arith, inl, inr, cond}
use Rattle.std.specs.Prelude.{slice_index, slice_index_or}
use Rattle.std.specs.List.{All, Contains, filter}
use Rattle.std.proofs.lemmas.Bool.{cases_lt}
use Rattle.std.proofs.lemmas.List.{length-append}
use Rattle.std.proofs.lemmas.List.Elements.{All-head, All-tail, Contains-append_left, Contains-append_right}
use Rattle.number_laws.specs.Sums.{sum_below, collect_below}
use Rattle.number_laws.proofs.SumLaws.{sum_below-monotone, sum_below-constant}

-- If each number of a list is at most m, so is the number at any place.
pub index_at_most : (m : ℕ) (xs : List ℕ) → All (λ x. x ≤ m) xs → (c : ℕ) → slice_index xs c ≤ m
index_at_most m [] h zero = omega arith
index_at_most m [] h (suc c) = omega arith
index_at_most m (x ∷ xs) h zero = All-head (λ k. k ≤ m) x xs h
index_at_most m (x ∷ xs) h (suc c) = index_at_most m xs (All-tail (λ k. k ≤ m) x xs h) c

-- If f is at most g at each element, so are the numbers that they give at any place.
pub index_rises : {X : Type 0} (f g : X → ℕ) (xs : List X) → All (λ x. f x ≤ g x) xs → (c : ℕ)
    → slice_index (map f xs) c ≤ slice_index (map g xs) c
index_rises f g [] h zero = omega arith
index_rises f g [] h (suc c) = omega arith
index_rises f g (x ∷ xs) h zero = All-head (λ k. f k ≤ g k) x xs h
index_rises f g (x ∷ xs) h (suc c) = index_rises f g xs (All-tail (λ k. f k ≤ g k) x xs h) c

-- The same for lists of numbers.
pub entries_at_most : {X : Type 0} (m : ℕ) (f : X → List ℕ) (xs : List X) → All (λ x. (c : ℕ) → slice_index (f x) c ≤ m) xs
    → (r c : ℕ) → slice_index (slice_index_or (map f xs) r []) c ≤ m
entries_at_most m f [] h zero zero = omega arith
entries_at_most m f [] h zero (suc c) = omega arith
entries_at_most m f [] h (suc r) zero = omega arith
entries_at_most m f [] h (suc r) (suc c) = omega arith
entries_at_most m f (x ∷ xs) h zero c = All-head (λ k. (c : ℕ) → slice_index (f k) c ≤ m) x xs h c
entries_at_most m f (x ∷ xs) h (suc r) c = entries_at_most m f xs (All-tail (λ k. (c : ℕ) → slice_index (f k) c ≤ m) x xs h) r c

-- An element after one that is kept or dropped.
contains_behind : {X : Type 0} (b : Bool) (y x : X) (zs : List X) → Contains zs x → Contains (cond b (y ∷ zs) zs) x
contains_behind true y x zs (k, l, e) = (suc k, omega arith, e)
contains_behind false y x zs h = h

contains_first : {X : Type 0} (b : Bool) (y x : X) (zs : List X) → b ≡ true → y ≡ x → Contains (cond b (y ∷ zs) zs) x
contains_first true y x zs kept same = (0, omega arith, same)
contains_first false y x zs kept same = absurd cc

-- A filter keeps what passes.
pub contains_filter : {X : Type 0} (p : X → Bool) (xs : List X) (x : X) → Contains xs x → p x ≡ true → Contains (filter p xs) x
contains_filter p [] x (k, l, e) passes = absurd (omega arith)
contains_filter p (y ∷ ys) x (zero, l, e) passes = contains_first (p y) y x (filter p ys) (ap p e ∙ passes) e
contains_filter p (y ∷ ys) x (suc k, l, e) passes =
    contains_behind (p y) y x (filter p ys) (contains_filter p ys x (k, omega arith, e) passes)

pub filter_shorter : {X : Type 0} (p : X → Bool) (xs : List X) → length (filter p xs) ≤ length xs
filter_shorter p [] = omega arith
filter_shorter p (x ∷ xs) = elim (p x) as (λ b. length (cond b (x ∷ filter p xs) (filter p xs)) ≤ length (x ∷ xs)) [
  | true ↦ omega (arith, filter_shorter p xs)
  | false ↦ omega (arith, filter_shorter p xs)
]

pub contains_collected : {X : Type 0} (n k : ℕ) (f : ℕ → List X) (x : X) → k < n → Contains (f k) x → Contains (collect_below n f) x
contains_collected zero k f x l h = absurd (omega arith)
contains_collected (suc n) k f x l h = elim (cases_lt k n) [
  | inl before ↦ Contains-append_left (collect_below n f) (f n) x (contains_collected n k f x before h)
  | inr last ↦
      let same : k ≡ n = omega arith in
      Contains-append_right (collect_below n f) (f n) x (subst (λ j. Contains (f j) x) same h)
]

pub collected_at_most : {X : Type 0} (n m : ℕ) (f : ℕ → List X) → ((k : ℕ) → k < n → length (f k) ≤ m) → length (collect_below n f) ≤ n * m
collected_at_most zero m f each = omega arith
collected_at_most (suc n) m f each = rw (length-append (collect_below n f) (f n))
    (omega (arith, collected_at_most n m f (λ k l. each k (omega arith)), each n (omega arith)))

pub sum_at_most : (n m : ℕ) (f : ℕ → ℕ) → ((k : ℕ) → k < n → f k ≤ m) → sum_below n f ≤ n * m
sum_at_most n m f each = omega (arith, sum_below-monotone n f (λ k. m) each, sum_below-constant n m)
