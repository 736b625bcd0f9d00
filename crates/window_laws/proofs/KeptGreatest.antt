-- The greatest value over a list of what has the numbers below a bound that a test keeps.
use Rattle.std.proofs.Common.{◌≡◌, ℕ, zero, suc, Bool, true, false, List, [], ◌∷◌, ◌++◌, map, max, refl, sym, ap, ◌∙◌}
use Rattle.std.proofs.Common.{arith, inl, inr, if◌then◌else◌}
use Rattle.std.specs.List.{All, flat_map, filter}
use Rattle.std.proofs.lemmas.Bool.{cases_Bool}
use Rattle.number_laws.specs.Sums.{only_if, collect_below}
use Rattle.number_laws.proofs.SumLaws.{only_if-true, only_if-false}
use Rattle.sporadic_model.specs.Users.{numbers}
use Rattle.schedule_model.specs.Measures.{greatest_below}
use Rattle.blocking_columns.proofs.KeptNumbers.{collected_of_kept, kept_pass}

-- The greatest of a list of numbers.
abbrev pub greatest_of : List ℕ → ℕ
greatest_of [] = 0
greatest_of (v ∷ vs) = max v (greatest_of vs)

greatest_of-append : (vs ws : List ℕ) → greatest_of (vs ++ ws) ≡ max (greatest_of vs) (greatest_of ws)
greatest_of-append [] ws = omega arith
greatest_of-append (v ∷ vs) ws =
    let rest : greatest_of (vs ++ ws) ≡ max (greatest_of vs) (greatest_of ws) = greatest_of-append vs ws in
    omega (arith, rest)

-- The value, if the test passes.
abbrev pub some_if : Bool → ℕ → List ℕ
some_if b n = if b then n ∷ [] else []

greatest_some : (b : Bool) (n : ℕ) → greatest_of (some_if b n) ≡ only_if b n
greatest_some true n = omega arith
greatest_some false n = refl

pub greatest_collected : (n : ℕ) (p : ℕ → Bool) (f : ℕ → ℕ)
    → greatest_of (collect_below n (λ k. some_if (p k) (f k))) ≡ greatest_below n (λ k. only_if (p k) (f k))
greatest_collected zero p f = refl
greatest_collected (suc n) p f =
    let first : greatest_of (collect_below n (λ k. some_if (p k) (f k))) ≡ greatest_below n (λ k. only_if (p k) (f k)) = greatest_collected n p f in
    let last : greatest_of (some_if (p n) (f n)) ≡ only_if (p n) (f n) = greatest_some (p n) (f n) in
    greatest_of-append (collect_below n (λ k. some_if (p k) (f k))) (some_if (p n) (f n)) ∙ omega (arith, first, last)

-- Where all pass, each has its value.
all_pass : {X : Type 0} (p : X → Bool) (f : X → ℕ) (xs : List X) → All (λ x. p x ≡ true) xs
    → greatest_of (flat_map (λ x. some_if (p x) (f x)) xs) ≡ greatest_of (map f xs)
all_pass p f [] each = refl
all_pass p f (x ∷ xs) each =
    let here : p x ≡ true = each 0 x (omega arith) in
    let rest = all_pass p f xs (λ k d l. each (suc k) d (omega (arith, l))) in
    rw here (ap (max (f x)) rest)

only_kept : (p : ℕ → Bool) (f : ℕ → ℕ) → ((k : ℕ) → p k ≡ false → f k ≡ 0) → (k : ℕ) → only_if (p k) (f k) ≡ f k
only_kept p f none k = elim (cases_Bool (p k)) [
  | inl passes ↦ only_if-true (p k) (f k) passes
  | inr fails ↦ only_if-false (p k) (f k) fails ∙ sym (none k fails)
]

-- The greatest value over the list is that over all numbers, where a number that isn't kept has none.
pub greatest_where_kept : {X : Type 0} (id : X → ℕ) (xs : List X) (p : ℕ → Bool) (f : ℕ → ℕ) (n : ℕ) → map id xs ≡ filter p (numbers n)
    → ((k : ℕ) → p k ≡ false → f k ≡ 0) → greatest_of (map (λ x. f (id x)) xs) ≡ greatest_below n f
greatest_where_kept id xs p f n same none =
    sym (all_pass (λ x. p (id x)) (λ x. f (id x)) xs (kept_pass id xs p n same))
    ∙ (ap greatest_of (collected_of_kept id xs p (λ k. some_if (p k) (f k)) n same (λ k fails. rw fails refl))
    ∙ (greatest_collected n p f ∙ (λ j. greatest_below n (λ k. only_kept p f none k j))))
