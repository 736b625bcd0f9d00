-- Numbers below a bound that a test keeps, as a list of what has these numbers: tests of all numbers below the bound, sums and
-- collections over them are those over the list.
use Rattle.std.proofs.Common.{◌≡◌, ℕ, zero, suc, ◌+◌, ◌≤◌, ◌&&◌, ◌||◌, Bool, true, false, List, [], ◌∷◌, ◌++◌, map, length}
use Rattle.std.proofs.Common.{refl, sym, ap, ◌∙◌, arith, inl, inr, if◌then◌else◌}
use Rattle.std.specs.List.{All, count_by, list_any, filter, flat_map, range_with_len, sum_by}
use Rattle.std.proofs.Math.Bool.{or-false}
use Rattle.std.proofs.lemmas.Bool.{cases_Bool}
use Rattle.std.proofs.lemmas.List.{append-nil, length-map}
use Rattle.std.proofs.lemmas.List.Concat.{flat_map-append}
use Rattle.std.proofs.lemmas.List.Elements.{filter-append, filter_passes, All-same}
use Rattle.std.proofs.lemmas.List.Folds.{list_any-append, flat_map-map}
use Rattle.std.proofs.lemmas.List.Sums.{sum_by-cons, sum_by_push, length-filter, count_by-le-length}
use Rattle.std.proofs.lemmas.List.FromFn.{length-range_with_len}
use Rattle.number_laws.specs.Sums.{sum_below, only_if, collect_below}
use Rattle.number_laws.specs.Tests.{any_below}
use Rattle.number_laws.proofs.SumLaws.{sum_below-agree, only_if-true, only_if-false}
use Rattle.sporadic_model.specs.Users.{numbers}
use Rattle.sporadic_model.proofs.Mapped.{list_any-map}
use Rattle.blocking_columns.proofs.KnownColumns.{all_mapped}

-- One number more stands behind the others.
range_more : (a n : ℕ) → range_with_len a (suc n) ≡ range_with_len a n ++ (a + n) ∷ []
range_more a zero = let same : a ≡ a + 0 = omega arith in ap (λ (k : ℕ). k ∷ []) same
range_more a (suc n) =
    let same : (a + 1) + n ≡ a + suc n = omega arith in
    ap (λ (ks : List ℕ). a ∷ ks) (range_more (a + 1) n ∙ ap (λ (k : ℕ). range_with_len (a + 1) n ++ k ∷ []) same)

kept_one : (p : ℕ → Bool) (n : ℕ) → filter p (n ∷ []) ≡ (if p n then n ∷ [] else [])
kept_one p n = elim (cases_Bool (p n)) [
  | inl passes ↦ rw passes refl
  | inr fails ↦ rw fails refl
]

-- It is kept where it passes.
kept_more : (p : ℕ → Bool) (n : ℕ) → filter p (numbers (suc n)) ≡ filter p (numbers n) ++ (if p n then n ∷ [] else [])
kept_more p n =
    let same : 0 + n ≡ n = omega arith in
    ap (filter p) (range_more 0 n ∙ ap (λ (k : ℕ). numbers n ++ k ∷ []) same)
    ∙ (filter-append p (numbers n) (n ∷ []) ∙ ap (λ (ks : List ℕ). filter p (numbers n) ++ ks) (kept_one p n))

pub any_if : {X : Type 0} (p : X → Bool) (b : Bool) (x : X) → list_any p (if b then x ∷ [] else []) ≡ (b && p x)
any_if p false x = refl
any_if p true x = or-false (p x)

any_kept : (p t : ℕ → Bool) (n : ℕ) → list_any t (filter p (numbers n)) ≡ any_below n (λ k. p k && t k)
any_kept p t zero = refl
any_kept p t (suc n) =
    ap (list_any t) (kept_more p n) ∙ (list_any-append t (filter p (numbers n)) (if p n then n ∷ [] else [])
    ∙ (ap (λ (b : Bool). b || list_any t (if p n then n ∷ [] else [])) (any_kept p t n)
    ∙ ap (λ (b : Bool). any_below n (λ k. p k && t k) || b) (any_if t (p n) n)))

-- Where the list has the kept numbers, a test passes for some of it where it does for some number that is kept.
pub any_of_kept : {X : Type 0} (id : X → ℕ) (xs : List X) (p t : ℕ → Bool) (n : ℕ) → map id xs ≡ filter p (numbers n)
    → list_any (λ x. t (id x)) xs ≡ any_below n (λ k. p k && t k)
any_of_kept id xs p t n same = sym (list_any-map id t xs) ∙ (ap (list_any t) same ∙ any_kept p t n)

sum_mapped : {X : Type 0} (id : X → ℕ) (f : ℕ → ℕ) (xs : List X) → sum_by f (map id xs) ≡ sum_by (λ x. f (id x)) xs
sum_mapped id f [] = refl
sum_mapped id f (x ∷ xs) = sum_by-cons f (id x) (map id xs) ∙ (ap (λ (k : ℕ). f (id x) + k) (sum_mapped id f xs)
    ∙ sym (sum_by-cons (λ x. f (id x)) x xs))

sum_kept : (p : ℕ → Bool) (f : ℕ → ℕ) (n : ℕ) → sum_by f (filter p (numbers n)) ≡ sum_below n (λ k. only_if (p k) (f k))
sum_kept p f zero = refl
sum_kept p f (suc n) = ap (sum_by f) (kept_more p n) ∙ (one (p n) (filter p (numbers n))
    ∙ ap (λ (k : ℕ). k + only_if (p n) (f n)) (sum_kept p f n)) where
      one : (b : Bool) (ks : List ℕ) → sum_by f (ks ++ (if b then n ∷ [] else [])) ≡ sum_by f ks + only_if b (f n)
      one true ks = sum_by_push f ks n
      one false ks = rw (append-nil ks) (omega arith)

-- A sum over it is the sum over the numbers that are kept.
pub sum_of_kept : {X : Type 0} (id : X → ℕ) (xs : List X) (p : ℕ → Bool) (f : ℕ → ℕ) (n : ℕ) → map id xs ≡ filter p (numbers n)
    → sum_by (λ x. f (id x)) xs ≡ sum_below n (λ k. only_if (p k) (f k))
sum_of_kept id xs p f n same = sym (sum_mapped id f xs) ∙ (ap (sum_by f) same ∙ sum_kept p f n)

-- And the sum over all numbers, where it has nothing of a number that isn't kept.
pub sum_where_kept : {X : Type 0} (id : X → ℕ) (xs : List X) (p : ℕ → Bool) (f : ℕ → ℕ) (n : ℕ) → map id xs ≡ filter p (numbers n)
    → ((k : ℕ) → p k ≡ false → f k ≡ 0) → sum_by (λ x. f (id x)) xs ≡ sum_below n f
sum_where_kept id xs p f n same none =
    sum_of_kept id xs p f n same ∙ sum_below-agree n (λ k. only_if (p k) (f k)) f (λ k l. elim (cases_Bool (p k)) [
      | inl passes ↦ only_if-true (p k) (f k) passes
      | inr fails ↦ only_if-false (p k) (f k) fails ∙ sym (none k fails)
    ])

collected_kept : {Y : Type 0} (p : ℕ → Bool) (f : ℕ → List Y) (n : ℕ) → ((k : ℕ) → p k ≡ false → f k ≡ [])
    → flat_map f (filter p (numbers n)) ≡ collect_below n f
collected_kept {Y = Y} p f zero none = refl
collected_kept {Y = Y} p f (suc n) none = ap (flat_map f) (kept_more p n) ∙ (flat_map-append f (filter p (numbers n)) (if p n then n ∷ [] else [])
    ∙ (ap (λ (ys : List Y). ys ++ flat_map f (if p n then n ∷ [] else [])) (collected_kept p f n none)
    ∙ ap (λ (ys : List Y). collect_below n f ++ ys) (elim (cases_Bool (p n)) [
      | inl passes ↦ rw passes (append-nil (f n))
      | inr fails ↦ rw fails (sym (none n fails))
    ])))

-- What is collected over it is what is collected over all numbers, where none is of a number that isn't kept.
pub collected_of_kept : {X Y : Type 0} (id : X → ℕ) (xs : List X) (p : ℕ → Bool) (f : ℕ → List Y) (n : ℕ)
    → map id xs ≡ filter p (numbers n) → ((k : ℕ) → p k ≡ false → f k ≡ []) → flat_map (λ x. f (id x)) xs ≡ collect_below n f
collected_of_kept id xs p f n same none =
    sym (flat_map-map f id xs) ∙ (ap (flat_map f) same ∙ collected_kept p f n none)

-- They pass, and are no more than the numbers below the bound.
pub kept_pass : {X : Type 0} (id : X → ℕ) (xs : List X) (p : ℕ → Bool) (n : ℕ) → map id xs ≡ filter p (numbers n)
    → All (λ x. p (id x) ≡ true) xs
kept_pass id xs p n same = all_mapped (λ k. p k ≡ true) id xs
    (All-same (λ k. p k ≡ true) (map id xs) (filter p (numbers n)) same (filter_passes p (numbers n)))

pub kept_few : {X : Type 0} (id : X → ℕ) (xs : List X) (p : ℕ → Bool) (n : ℕ) → map id xs ≡ filter p (numbers n) → length xs ≤ n
kept_few id xs p n same =
    let size : length xs ≡ count_by p (numbers n) = sym (length-map xs id) ∙ (ap length same ∙ length-filter p (numbers n)) in
    omega (arith, size, count_by-le-length p (numbers n), length-range_with_len 0 n)
