-- Tables of least keys, while things are noted in them.
use Rattle.std.proofs.Common.{◌≡◌, ℕ, ◌+◌, ◌<◌, ◌≤◌, ◌==◌, ◌&&◌, ◌||◌, Bool, true, false, List, refl, sym, ap}
use Rattle.std.proofs.Common.{◌∙◌, arith, inl, inr, leb, add-one, min, replicate}
use Rattle.std.proofs.Math.Bool.{or-false}
use Rattle.std.proofs.lemmas.List.{get_or-replicate}
use Rattle.std.proofs.lemmas.Bool.{cases_Bool, false_from_ne_true, leb-true, le-leb, eqb-true, eqb-false, ne_eqb}
use Rattle.std.proofs.lemmas.Bool.{leb-false, or_left, or_right, or_cases}
use Rattle.number_laws.specs.Tests.{any_below}
use Rattle.phase_machine.proofs.Facts.{same_bool}
use Rattle.dpcp_rules.specs.declared.tables.TheConstants.{PLACES}
use Rattle.dpcp_rules.specs.Homes.{entry_at, IsLeast}

-- Before anything is noted.
pub least_first : (place key : ℕ → ℕ) (most : ℕ) (table : List ℕ) → table ≡ replicate PLACES most → IsLeast place key most 0 table
least_first place key most table e k y l h =
    ap (λ t. leb (entry_at t k) y) e ∙ false_from_ne_true (leb (entry_at (replicate PLACES most) k) y) (λ e. high e)
  where
    high : leb (entry_at (replicate PLACES most) k) y ≡ true → ⊥
    high e = absurd (omega (arith, leb-true (entry_at (replicate PLACES most) k) y e, get_or-replicate PLACES k most 0 (omega (arith, l))))

pub fresh_table : (n most : ℕ) → n ≡ most → replicate PLACES n ≡ replicate PLACES most
fresh_table n most e = ap (replicate PLACES) e

-- The less of two is at most y where one of them is.
min_at_most : (a b y : ℕ) → leb (min a b) y ≡ (leb a y || leb b y)
min_at_most a b y = same_bool (leb (min a b) y) (leb a y || leb b y) there back where
  less : min a b ≤ y → y < a → b ≤ y
  less l above = omega arith

  there : leb (min a b) y ≡ true → (leb a y || leb b y) ≡ true
  there h = elim (cases_Bool (leb a y)) [
    | inl low ↦ or_left (leb a y) (leb b y) low
    | inr high ↦ or_right (leb a y) (leb b y) (le-leb b y (less (leb-true (min a b) y h) (leb-false a y high)))
  ]

  back : (leb a y || leb b y) ≡ true → leb (min a b) y ≡ true
  back h = elim (or_cases (leb a y) (leb b y) h) [
    | inl first ↦ let l : a ≤ y = leb-true a y first in le-leb (min a b) y (omega arith)
    | inr second ↦ let l : b ≤ y = leb-true b y second in le-leb (min a b) y (omega arith)
  ]

-- Once one thing more is noted, with its place k.
pub least_next : (place key : ℕ → ℕ) (most n k : ℕ) (old new : List ℕ) → k ≡ place n → IsLeast place key most n old
    → entry_at new k ≡ min (entry_at old k) (key n)
    → ((r : ℕ) → (r ≡ k → ⊥) → entry_at new r ≡ entry_at old r) → IsLeast place key most (n + 1) new
least_next place key most n k old new own least here others r y l h = elim (cases_Bool (place n == r)) [
  | inl same ↦
      let e : r ≡ k = sym (eqb-true (place n) r same) ∙ sym own in
      ap (λ c. leb (entry_at new c) y) e ∙ ap (λ v. leb v y) here ∙ min_at_most (entry_at old k) (key n) y
      ∙ ap (λ c. leb (entry_at old c) y || leb (key n) y) (sym e)
      ∙ ap (λ b. b || leb (key n) y) (least r y l h) ∙ at_place same
  | inr other ↦
      ap (λ v. leb v y) (others r (λ e. differ other e)) ∙ least r y l h ∙ at_other other
] where
  differ : (place n == r) ≡ false → r ≡ k → ⊥
  differ other e = eqb-false (place n) r other (sym (e ∙ own))

  at_place : (place n == r) ≡ true → (any_below n (λ i. (place i == r) && leb (key i) y) || leb (key n) y)
      ≡ any_below (n + 1) (λ i. (place i == r) && leb (key i) y)
  at_place same = rw (add-one, same) refl

  at_other : (place n == r) ≡ false
      → any_below n (λ i. (place i == r) && leb (key i) y) ≡ any_below (n + 1) (λ i. (place i == r) && leb (key i) y)
  at_other other = rw (add-one, other) (sym (or_false (any_below n (λ i. (place i == r) && leb (key i) y)))) where
    or_false : (b : Bool) → (b || false) ≡ b
    or_false true = refl
    or_false false = refl

-- A thing whose place no table has changes nothing.
pub least_skip : (place key : ℕ → ℕ) (most n : ℕ) (table : List ℕ) → IsLeast place key most n table → PLACES ≤ place n
    → IsLeast place key most (n + 1) table
least_skip place key most n table least past r y l h =
    least r y l h ∙ rw (add-one, ne_eqb (place n) r (λ e. far e)) (sym (or-false (any_below n (λ i. (place i == r) && leb (key i) y)))) where
      far : place n ≡ r → ⊥
      far e = absurd (omega (arith, l))
