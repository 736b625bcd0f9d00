-- Of each value that an exchange forms it can be found out whether it has a form.
use Rattle.std.proofs.Common.{◌≡◌, ◌⊎◌, inl, inr, ℕ, zero, suc, ◌+◌, ◌/◌, ◌^◌, ◌<◌, ◌≤◌, List, [], ◌∷◌, ◌++◌, length}
use Rattle.std.proofs.Common.{get_or, add-one, ℤ, pos, ◌-ℤ◌, ◌*ℤ◌, ◌≤ℤ◌, ◌<ℤ◌, unsigned_abs, refl, ap, ◌∙◌, sym, subst}
use Rattle.std.proofs.Common.{arith}
use Rattle.std.specs.Int.{IsGcd}
use Rattle.std.proofs.lemmas.Int.{ints}
use Rattle.std.proofs.lemmas.Bool.{cases_lt}
use Rattle.std.proofs.lemmas.List.{get_or_push, get_or_append_left, length_push}
use Rattle.fraction128.proofs.Unique.{size_positive}
use Rattle.number_laws.proofs.Order.{times_positive}
use Rattle.number_laws.proofs.Divisors.{gcd_exists}
use Rattle.fraction128.specs.Fraction.{Fraction, IsForm, IsSame, IsQuotient, IsProduct, IsDifference, over}
use Rattle.fraction128.specs.Gives.{HasNoForm, IsWideLess}
use Rattle.fraction128.specs.LowestTerms.{IsLowest, signed}
use Rattle.fraction128.proofs.Reduced.{reduced, value_kept, form_of_lowest, no_form}
use Rattle.exchange_runs.specs.Exchange.{IsLess}

-- Has the value that is asked for a form, or none?
abbrev pub IsFound : (Fraction → Type 0) → Type 0
IsFound is = ((f : Fraction) × (IsForm f) × is f) ⊎ HasNoForm is

pub value_found : (n d : ℤ) → pos 0 <ℤ d → IsFound (IsSame (over n d))
value_found n d above =
    let g : (g : ℕ) × IsGcd (unsigned_abs n) (unsigned_abs d) g = gcd_exists (unsigned_abs n) (unsigned_abs d) in
    let top : ℕ = unsigned_abs n / g.0 in
    let bottom : ℕ = unsigned_abs d / g.0 in
    let lowest : IsLowest (unsigned_abs n) (unsigned_abs d) top bottom =
    reduced (unsigned_abs n) (unsigned_abs d) g.0 (size_positive d above) g.1 in
    elim (cases_lt top (2 ^ 63)) [
      | inl small_top ↦ elim (cases_lt bottom (2 ^ 63)) [
        | inl small_bottom ↦
            inl (
              over (signed n top) (pos bottom),
              form_of_lowest n d top bottom lowest small_top small_bottom,
              record { same = value_kept n d top bottom (from_one d above) lowest },
            )
        | inr wide ↦ inr (no_form n d top bottom (from_one d above) lowest (λ both. too_large bottom (2 ^ 63) both.1 wide))
      ]
      | inr wide ↦ inr (no_form n d top bottom (from_one d above) lowest (λ both. too_large top (2 ^ 63) both.0 wide))
    ]
  where
    from_one : (x : ℤ) → pos 0 <ℤ x → pos 1 ≤ℤ x
    from_one x h = omega (arith, ints)

    too_large : (a b : ℕ) → a < b → b ≤ a → ⊥
    too_large a b h k = omega arith

pub quotient_found : (a b : Fraction) → IsForm a → pos 0 <ℤ b.num → IsFound (IsQuotient a b)
quotient_found a b form above = elim (value_found (a.num *ℤ b.den) (a.den *ℤ b.num) (times_positive a.den b.num form.positive above)) [
  | inl there ↦ inl (there.0, there.1, record { same = there.2.same })
  | inr none ↦ inr (λ c form_c is. none c form_c (record { same = is.same }))
]

pub product_found : (a b : Fraction) → IsForm a → IsForm b → IsFound (IsProduct a b)
product_found a b form_a form_b =
    elim (value_found (a.num *ℤ b.num) (a.den *ℤ b.den) (times_positive a.den b.den form_a.positive form_b.positive)) [
      | inl there ↦ inl (there.0, there.1, record { same = there.2.same })
      | inr none ↦ inr (λ c form_c is. none c form_c (record { same = is.same }))
    ]

pub difference_found : (a b : Fraction) → IsForm a → IsForm b → IsFound (IsDifference a b)
difference_found a b form_a form_b = elim (value_found ((a.num *ℤ b.den) -ℤ (b.num *ℤ a.den)) (a.den *ℤ b.den)
    (times_positive a.den b.den form_a.positive form_b.positive)) [
      | inl there ↦ inl (there.0, there.1, record { same = there.2.same })
      | inr none ↦ inr (λ c form_c is. none c form_c (record { same = is.same }))
    ]

pub less_found : (a f y : Fraction) → IsForm a → IsForm f → IsForm y → ((b : Fraction) × IsLess a f y b) ⊎ IsWideLess a f y
less_found a f y form_a form_f form_y = elim (product_found f y form_f form_y) [
  | inr none ↦ inr (inl none)
  | inl product ↦ elim (difference_found a product.0 form_a product.1) [
    | inr none ↦ inr (inr (product.0, product.1, product.2, none))
    | inl left ↦
        inl (
          left.0,
          record {
            product = product.0;
            product_form = product.1;
            is_product = product.2;
            form = left.1;
            is_difference = left.2;
          },
        )
  ]
]

-- Where each number below n is of one kind or of the other, all are of the one or some is of the other.
pub all_or_some : (A B : ℕ → Type 0) (n : ℕ) → ((k : ℕ) → k < n → A k ⊎ B k) → ((k : ℕ) → k < n → A k) ⊎ ((k : ℕ) × (k < n) × B k)
all_or_some A B zero each = inl (λ k l. absurd (omega arith))
all_or_some A B (suc n) each = elim (all_or_some A B n (λ k l. each k (omega arith))) [
  | inr some ↦ inr (some.0, omega (arith, some.1), some.2)
  | inl all ↦ elim (each n (omega arith)) [
    | inr here ↦ inr (n, omega arith, here)
    | inl last ↦ inl (λ k l. elim (cases_lt k n) [
      | inl earlier ↦ all k earlier
      | inr at ↦ let same : n ≡ k = omega arith in subst A same last
    ])
  ]
]

-- A list of the first n values of a function.
pub listed : (X : Type 0) (d : X) (n : ℕ) (f : ℕ → X) → (xs : List X) × (length xs ≡ n) × ((i : ℕ) → i < n → get_or xs i d ≡ f i)
listed X d zero f = ([], refl, λ i l. absurd (omega arith))
listed X d (suc n) f =
    let before : (xs : List X) × (length xs ≡ n) × ((i : ℕ) → i < n → get_or xs i d ≡ f i) = listed X d n f in (
      before.0 ++ f n ∷ [],
      length_push before.0 (f n) ∙ (ap (λ k. k + 1) before.1 ∙ add-one n),
      λ i l. elim (cases_lt i n) [
        | inl earlier ↦ get_or_append_left before.0 (f n ∷ []) d i (rw before.1 earlier) ∙ before.2 i earlier
        | inr at ↦ let same : i ≡ n = omega arith in get_or_push before.0 (f n) d i (before.1 ∙ sym same) ∙ ap f (sym same)
      ],
    )
