-- The first of the numbers from x to below n for which what is made of the number passes a test.
use Rattle.std.proofs.Common.{◌≡◌, ℕ, suc, ◌+◌, ◌-◌, ◌<◌, ◌≤◌, Bool, true, false, List, [], ◌∷◌, ◌++◌, map, refl, arith}
use Rattle.std.proofs.Common.{Option, Some, None, cond, subst, zero, length, ◌⊎◌, inl, inr}
use Rattle.std.specs.List.{find, range_with_len, flat_map, slice_index_or}
use Rattle.std.proofs.Math.Nat.{eq-or-lt_of_le}
use Rattle.std.specs.Option.{option_or}
use Rattle.std.proofs.lemmas.List.Folds.{find-append}

pub find_here : {R : Type 0} (p : R → Bool) (f : ℕ → R) (x n : ℕ) → x < n → p (f x) ≡ true
    → find p (map f (range_with_len x (n - x))) ≡ Some (f x)
find_here p f x n h t = let e : n - x ≡ suc (n - (x + 1)) = omega arith in rw (e, t) refl

pub find_later : {R : Type 0} (p : R → Bool) (f : ℕ → R) (x n : ℕ) → x < n → p (f x) ≡ false
    → find p (map f (range_with_len x (n - x))) ≡ find p (map f (range_with_len (x + 1) (n - (x + 1))))
find_later p f x n h t = let e : n - x ≡ suc (n - (x + 1)) = omega arith in rw (e, t) refl

pub find_over : {R : Type 0} (p : R → Bool) (f : ℕ → R) (x n : ℕ) → n ≤ x → find p (map f (range_with_len x (n - x))) ≡ None
find_over p f x n h = let e : n - x ≡ 0 = omega arith in rw e refl

pub find_in_here : {R : Type 0} (p : R → Bool) (g : ℕ → List R) (x n : ℕ) (r : R) → x < n → find p (g x) ≡ Some r
    → find p (flat_map g (range_with_len x (n - x))) ≡ Some r
find_in_here p g x n r h t = let e : n - x ≡ suc (n - (x + 1)) = omega arith in
    rw (e, find-append p (g x) (flat_map g (range_with_len (x + 1) (n - (x + 1)))), t) refl

pub find_in_later : {R : Type 0} (p : R → Bool) (g : ℕ → List R) (x n : ℕ) → x < n → find p (g x) ≡ None
    → find p (flat_map g (range_with_len x (n - x))) ≡ find p (flat_map g (range_with_len (x + 1) (n - (x + 1))))
find_in_later p g x n h t = let e : n - x ≡ suc (n - (x + 1)) = omega arith in
    rw (e, find-append p (g x) (flat_map g (range_with_len (x + 1) (n - (x + 1)))), t) refl

pub find_in_over : {R : Type 0} (p : R → Bool) (g : ℕ → List R) (x n : ℕ) → n ≤ x → find p (flat_map g (range_with_len x (n - x))) ≡ None
find_in_over p g x n h = let e : n - x ≡ 0 = omega arith in rw e refl

-- The first of two lists together is the first of the one. If that has none, it is the first of the other.
pub find_joined : {R : Type 0} (p : R → Bool) (xs ys : List R) → find p (xs ++ ys) ≡ option_or (find p xs) (find p ys)
find_joined p xs ys = find-append p xs ys

-- If a joined list has no element that passes, neither part has one.
pub record NoneOfBoth {R : Type 0} (p : R → Bool) (xs ys : List R) : Type 0 where
  pub front : find p xs ≡ None
  pub back : find p ys ≡ None

pub first_fails : {R : Type 0} (p : R → Bool) (x : R) (xs : List R) → find p (x ∷ xs) ≡ None → p x ≡ false
first_fails p x xs = elim (p x) as (λ b. cond b (Some x) (find p xs) ≡ None → b ≡ false) [ true ↦ λ e. cc | false ↦ λ e. refl ]

pub rest_fails : {R : Type 0} (p : R → Bool) (x : R) (xs : List R) → find p (x ∷ xs) ≡ None → find p xs ≡ None
rest_fails p x xs = elim (p x) as (λ b. cond b (Some x) (find p xs) ≡ None → find p xs ≡ None) [ true ↦ λ e. cc | false ↦ λ e. e ]

pub none_of_both : {R : Type 0} (p : R → Bool) (xs ys : List R) → find p (xs ++ ys) ≡ None → NoneOfBoth p xs ys
none_of_both p [] ys h = record { front = refl; back = h }
none_of_both p (x ∷ xs) ys h =
    let rest = none_of_both p xs ys (rest_fails p x (xs ++ ys) h) in
    let fails = first_fails p x (xs ++ ys) h in
    record { front = rw fails rest.front; back = rest.back }

pub none_at : {R : Type 0} (p : R → Bool) (f : ℕ → R) (a n k j : ℕ) → a + k ≡ j → k < n
    → find p (map f (range_with_len a n)) ≡ None → p (f j) ≡ false
none_at p f a zero k j e h none = absurd (omega arith)
none_at p f a (suc n) zero j e h none =
    let here : a ≡ j = omega arith in
    subst (λ i. p (f i) ≡ false) here (first_fails p (f a) (map f (range_with_len (a + 1) n)) none)
none_at p f a (suc n) (suc k) j e h none =
    none_at p f (a + 1) n k j (omega arith) (omega arith) (rest_fails p (f a) (map f (range_with_len (a + 1) n)) none)

pub none_in_at : {R : Type 0} (p : R → Bool) (g : ℕ → List R) (a n k j : ℕ) → a + k ≡ j → k < n
    → find p (flat_map g (range_with_len a n)) ≡ None → find p (g j) ≡ None
none_in_at p g a zero k j e h none = absurd (omega arith)
none_in_at p g a (suc n) zero j e h none =
    let here : a ≡ j = omega arith in
    subst (λ i. find p (g i) ≡ None) here (none_of_both p (g a) (flat_map g (range_with_len (a + 1) n)) none).front
none_in_at p g a (suc n) (suc k) j e h none =
    none_in_at p g (a + 1) n k j (omega arith) (omega arith) (none_of_both p (g a) (flat_map g (range_with_len (a + 1) n)) none).back

-- If no element passes, each one fails.
pub each_fails : {R : Type 0} (p : R → Bool) (xs : List R) (k : ℕ) (d : R) → k < length xs → find p xs ≡ None
    → p (slice_index_or xs k d) ≡ false
each_fails p [] k d h none = absurd (omega arith)
each_fails p (x ∷ xs) zero d h none = first_fails p x xs none
each_fails p (x ∷ xs) (suc k) d h none = each_fails p xs k d (omega arith) (rest_fails p x xs none)

-- The number found is in the range, it passes, and none before it does.
pub record IsFirstOf (p : ℕ → Bool) (a n x : ℕ) : Type 0 where
  pub from : a ≤ x
  pub to : x < a + n
  pub passes : p x ≡ true
  pub before : (y : ℕ) → a ≤ y → y < x → p y ≡ false

pub first_passes : (p : ℕ → Bool) (x y : ℕ) (o : Option ℕ) → cond (p x) (Some x) o ≡ Some y
    → ((x ≡ y) × (p x ≡ true)) ⊎ ((p x ≡ false) × (o ≡ Some y))
first_passes p x y o =
    elim (p x) as (λ b. cond b (Some x) o ≡ Some y → ((x ≡ y) × (b ≡ true)) ⊎ ((b ≡ false) × (o ≡ Some y)))
    [ true ↦ λ e. inl (cc, refl) | false ↦ λ e. inr (refl, e) ]

pub before_more : (p : ℕ → Bool) (a x y : ℕ) → p a ≡ false → ((z : ℕ) → a + 1 ≤ z → z < x → p z ≡ false) → a ≤ y → y < x → p y ≡ false
before_more p a x y e rest h i = elim (eq-or-lt_of_le h) [ inl same ↦ subst (λ z. p z ≡ false) same e | inr above ↦ rest y (omega arith) i ]

pub first_of_range : (p : ℕ → Bool) (a n x : ℕ) → find p (range_with_len a n) ≡ Some x → IsFirstOf p a n x
first_of_range p a zero x e = absurd (cc)
first_of_range p a (suc n) x e =
    elim (first_passes p a x (find p (range_with_len (a + 1) n)) e) [
      | inl here ↦
          let same : a ≡ x = here.0 in
          record {
            from = omega arith;
            to = omega arith;
            passes = subst (λ y. p y ≡ true) same here.1;
            before = λ y h i. absurd (omega arith);
          }
      | inr later ↦
          let rest = first_of_range p (a + 1) n x later.1 in
          record {
            from = omega arith;
            to = omega arith;
            passes = rest.passes;
            before = λ y h i. before_more p a x y later.0 rest.before h i;
          }
    ]

pub none_in_range : (p : ℕ → Bool) (a n : ℕ) → find p (range_with_len a n) ≡ None → (y : ℕ) → a ≤ y → y < a + n → p y ≡ false
none_in_range p a zero e y h i = absurd (omega arith)
none_in_range p a (suc n) e y h i =
    before_more p a (a + suc n) y (first_fails p a (range_with_len (a + 1) n) e)
    (λ z j k. none_in_range p (a + 1) n (rest_fails p a (range_with_len (a + 1) n) e) z j (omega arith)) h i

-- Two tests that agree on the numbers of a range find the same one.
pub find_alike : (p r : ℕ → Bool) (a n : ℕ) → ((x : ℕ) → a ≤ x → x < a + n → p x ≡ r x)
    → find p (range_with_len a n) ≡ find r (range_with_len a n)
find_alike p r a zero h = refl
find_alike p r a (suc n) h =
    rw (h a (omega arith) (omega arith), find_alike p r (a + 1) n (λ x from to. h x (omega arith) (omega arith))) refl

-- If no element of two lists passes, none of the joined list does.
pub none_joined : {R : Type 0} (p : R → Bool) (xs ys : List R) → find p xs ≡ None → find p ys ≡ None → find p (xs ++ ys) ≡ None
none_joined p xs ys front back = rw (find-append p xs ys, front, back) refl

-- If what is made of no number of a range passes, none is found.
pub none_mapped : {R : Type 0} (p : R → Bool) (f : ℕ → R) (a n : ℕ) → ((k : ℕ) → a ≤ k → k < a + n → p (f k) ≡ false)
    → find p (map f (range_with_len a n)) ≡ None
none_mapped p f a zero h = refl
none_mapped p f a (suc n) h = rw (h a (omega arith) (omega arith)) (none_mapped p f (a + 1) n (λ k l m. h k (omega arith) (omega arith)))

pub none_nested : {R : Type 0} (p : R → Bool) (g : ℕ → List R) (a n : ℕ)
    → ((k : ℕ) → a ≤ k → k < a + n → find p (g k) ≡ None) → find p (flat_map g (range_with_len a n)) ≡ None
none_nested p g a zero h = refl
none_nested p g a (suc n) h = none_joined p (g a) (flat_map g (range_with_len (a + 1) n))
    (h a (omega arith) (omega arith)) (none_nested p g (a + 1) n (λ k l m. h k (omega arith) (omega arith)))
