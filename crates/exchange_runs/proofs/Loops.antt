-- Steps of a search or a loop over the rows and cells of a table: what is known of the first k and of the next is known of k + 1.
use Rattle.std.proofs.Common.{◌≡◌, inl, inr, ℕ, ◌+◌, ◌<◌, ◌≤◌, add-one, List, All, ℤ, pos, ◌-ℤ◌, ◌*ℤ◌, ◌≤ℤ◌, refl, ap}
use Rattle.std.proofs.Common.{◌∙◌, sym, subst, arith}
use Rattle.std.proofs.lemmas.Int.{ints}
use Rattle.std.proofs.lemmas.Bool.{cases_lt}
use Rattle.std.proofs.lemmas.List.Elements.{All-from_get_or}
use Rattle.number_laws.proofs.Ring.{mul-one, zero-mul, mul-zero}
use Rattle.fraction128.specs.Fraction.{Fraction, IsForm, IsQuotient, IsProduct, IsDifference, IsAtMost, whole}
use Rattle.fraction128.proofs.Forms.{form_of_zero}
use Rattle.program_form.specs.Program.{ProgramDef, height}
use Rattle.exchange_runs.specs.Table.{Table, slack}
use Rattle.exchange_runs.specs.Exchange.{IsLast, HasRatio, IsRatio, IsLeastOf, IsLess, IsExchange}
use Rattle.exchange_runs.specs.Run.{Reached}
use Rattle.exchange_runs.specs.Readings.{IsValueOf, AreDuals}
use Rattle.exchange_runs.proofs.Signs.{turned}
use Rattle.exchange_runs.proofs.Leasts.{least_without, least_kept, least_replaced}

-- A run goes on by an exchange.
pub reached_next : (p : ProgramDef) (k : ℕ) (t u : Table) (e r : ℕ) → Reached p k t → IsExchange p t u e r → Reached p (k + 1) u
reached_next p k t u e r h x = rw add-one (t, e, r, h, x)

-- A row without a ratio changes nothing.
pub least_skip : (w : ℕ) (t : Table) (e k r : ℕ) (f : Fraction) → IsLeastOf w t e k r f → (HasRatio t e k → ⊥) → IsLeastOf w t e (k + 1) r f
least_skip w t e k r f h none = least_without IsForm w t e k r f h none

-- A row whose ratio does not come before the least changes nothing.
pub least_keep : (w : ℕ) (t : Table) (e k r : ℕ) (f g : Fraction) → IsLeastOf w t e k r f → IsRatio w t e k g → IsAtMost f g
    → (IsAtMost g f → t.basic r ≤ t.basic k) → IsLeastOf w t e (k + 1) r f
least_keep w t e k r f g h is at_most tie = least_kept IsForm w t e k r f g h is at_most tie

-- A row whose ratio comes before the least is the least now.
pub least_take : (w : ℕ) (t : Table) (e k r : ℕ) (f g : Fraction) → IsLeastOf w t e k r f → HasRatio t e k
    → IsRatio w t e k g → IsAtMost g f
    → (IsAtMost f g → t.basic k ≤ t.basic r) → IsLeastOf w t e (k + 1) k g
least_take w t e k r f g h has is at_most tie = least_replaced IsForm w t e k r f g (λ c form. form.positive) h has is at_most tie

no_product : (f y : Fraction) → f.num *ℤ y.num ≡ pos 0 → IsProduct f y (whole (pos 0))
no_product f y none = record { same = rw none (zeros (f.den *ℤ y.den) (pos 1)) }
  where
    zeros : (a b : ℤ) → pos 0 *ℤ a ≡ pos 0 *ℤ b
    zeros a b = omega (arith, ints)

less_nothing : (a : Fraction) → IsDifference a (whole (pos 0)) a
less_nothing a = record { same = nothing a.num a.den }
  where
    nothing : (n d : ℤ) → n *ℤ (d *ℤ pos 1) ≡ ((n *ℤ pos 1) -ℤ (pos 0 *ℤ d)) *ℤ d
    nothing n d = ap (λ x. n *ℤ x) (mul-one d) ∙ ap (λ x. x *ℤ d) (back n d)
      where
        back : (x y : ℤ) → x ≡ (x *ℤ pos 1) -ℤ (pos 0 *ℤ y)
        back x y = omega (arith, ints)

-- If the factor is zero, nothing is subtracted. So such a row stays as it is.
pub less_of_zero : (a f y : Fraction) → f.num ≡ pos 0 → IsForm a → IsLess a f y a
less_of_zero a f y zero_f form = record {
  product = whole (pos 0);
  product_form = form_of_zero;
  is_product = no_product f y (ap (λ x. x *ℤ y.num) zero_f ∙ zero-mul y.num);
  form = form;
  is_difference = less_nothing a;
}

-- nor where the cell of the leaving row is zero
pub less_at_zero : (a f y : Fraction) → y.num ≡ pos 0 → IsForm a → IsLess a f y a
less_at_zero a f y zero_y form = record {
  product = whole (pos 0);
  product_form = form_of_zero;
  is_product = no_product f y (ap (λ x. f.num *ℤ x) zero_y ∙ mul-zero f.num);
  form = form;
  is_difference = less_nothing a;
}

-- Zero divided is zero.
pub quotient_of_zero : (a b : Fraction) → a.num ≡ pos 0 → IsQuotient a b (whole (pos 0))
quotient_of_zero a b zero_a = record { same = rw zero_a (zeros (a.den *ℤ b.num) b.den) }
  where
    zeros : (x y : ℤ) → pos 0 *ℤ x ≡ (pos 0 *ℤ y) *ℤ pos 1
    zeros x y = omega (arith, ints)

-- The value of a variable, of no rows and of one more.
pub value_none : (w : ℕ) (t : Table) (v : ℕ) → IsValueOf w t 0 v (whole (pos 0))
value_none w t v = inr (λ i l. absurd (omega arith), refl)

pub value_here : (w : ℕ) (t : Table) (k v : ℕ) → t.basic k ≡ v → IsValueOf w t (k + 1) v (t.cell k w)
value_here w t k v is = inl (k, omega arith, is, refl)

pub value_more : (w : ℕ) (t : Table) (k v : ℕ) (f : Fraction) → (t.basic k ≡ v → ⊥) → IsValueOf w t k v f → IsValueOf w t (k + 1) v f
value_more w t k v f other h = elim h [
  | inl there ↦ inl (there.0, omega (arith, there.1), there.2, there.3)
  | inr none ↦ inr (
    λ i l. elim (cases_lt i k) [
      | inl earlier ↦ none.0 i earlier
      | inr here ↦ let same : i ≡ k = omega arith in rw same other
    ],
    none.1,
  )
]

-- The duals of the last table are not below zero.
pub duals_not_below : (p : ProgramDef) (t : Table) (duals : List Fraction) → IsLast p t → AreDuals p t duals
    → All (λ f. pos 0 ≤ℤ f.num) duals
duals_not_below p t duals last are =
    All-from_get_or (λ f. pos 0 ≤ℤ f.num) duals (whole (pos 0)) (λ i l.
    let within : i < height p = rw (← are.dual_each) l in
    subst (λ (f : Fraction). pos 0 ≤ℤ f.num) (sym (are.duals_are i within)) (turned (last.none (slack p i) (omega (arith, within)))))
