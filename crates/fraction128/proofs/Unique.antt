-- Equal values have one form, so that any two answers of an operation are the same `Frac`.
use Rattle.std.proofs.Common.{◌≡◌, ◌*◌, ◌<◌, ℤ, pos, ◌*ℤ◌, ◌<ℤ◌, unsigned_abs, ap, ◌∙◌, sym, arith}
use Rattle.std.proofs.lemmas.Int.{ints, unsigned_abs-mul}
use Rattle.number_laws.proofs.Ring.{mul-swap_last}
use Rattle.number_laws.proofs.Order.{cancel, cancel_apart, times_apart}
use Rattle.number_laws.proofs.Divisors.{lowest_terms_once}
use Rattle.fraction128.specs.Fraction.{Fraction, IsForm, IsSame, IsSum, IsDifference, IsProduct, IsQuotient, over}

-- A number above zero has a size above zero.
pub size_positive : (z : ℤ) → pos 0 <ℤ z → 0 < unsigned_abs z
size_positive z h = omega (arith, ints)

same_positive : (y z : ℤ) → pos 0 <ℤ y → pos 0 <ℤ z → unsigned_abs y ≡ unsigned_abs z → y ≡ z
same_positive y z h k e = omega (arith, ints)

same_parts : (f g : Fraction) → f.num ≡ g.num → f.den ≡ g.den → f ≡ g
same_parts f g p q = ap (λ n. over n f.den) p ∙ ap (λ d. over g.num d) q

pub same_form : (f g : Fraction) → IsForm f → IsForm g → f.num *ℤ g.den ≡ g.num *ℤ f.den → f ≡ g
same_form f g h k e =
    let sizes : unsigned_abs f.num * unsigned_abs g.den ≡ unsigned_abs g.num * unsigned_abs f.den =
    sym (unsigned_abs-mul f.num g.den) ∙ (ap unsigned_abs e ∙ unsigned_abs-mul g.num f.den) in
    let once : (unsigned_abs f.num ≡ unsigned_abs g.num) × (unsigned_abs f.den ≡ unsigned_abs g.den) = lowest_terms_once
    _ _ _ _ (size_positive f.den h.positive) (size_positive g.den k.positive) h.lowest k.lowest sizes in
    let dens : f.den ≡ g.den = same_positive f.den g.den h.positive k.positive once.1 in
    let nums : f.num ≡ g.num = cancel f.num g.num g.den k.positive (e ∙ ap (λ d. g.num *ℤ d) dens) in
    same_parts f g nums dens

pub apart_of_positive : (z : ℤ) → pos 0 <ℤ z → z ≡ pos 0 → ⊥
apart_of_positive z h e = omega (arith, ints)

-- one value n / d, for a d that isn't 0, has one form
pub one_over : (n d : ℤ) (f g : Fraction) → (d ≡ pos 0 → ⊥) → IsForm f → IsForm g → f.num *ℤ d ≡ n *ℤ f.den
    → g.num *ℤ d ≡ n *ℤ g.den → f ≡ g
one_over n d f g apart h k p q =
    let left : (f.num *ℤ g.den) *ℤ d ≡ (n *ℤ f.den) *ℤ g.den = mul-swap_last f.num g.den d ∙ ap (λ z. z *ℤ g.den) p in
    let right : (g.num *ℤ f.den) *ℤ d ≡ (n *ℤ g.den) *ℤ f.den = mul-swap_last g.num f.den d ∙ ap (λ z. z *ℤ f.den) q in
    same_form f g h k (cancel_apart (f.num *ℤ g.den) (g.num *ℤ f.den) d apart (left ∙ (mul-swap_last n f.den g.den ∙ sym right)))

dens_apart : (a b : Fraction) → IsForm a → IsForm b → a.den *ℤ b.den ≡ pos 0 → ⊥
dens_apart a b h k = times_apart a.den b.den (apart_of_positive a.den h.positive) (apart_of_positive b.den k.positive)

pub one_same : (a f g : Fraction) → IsForm a → IsForm f → IsForm g → IsSame a f → IsSame a g → f ≡ g
one_same a f g ha h k p q = one_over a.num a.den f g (apart_of_positive a.den ha.positive) h k p.same q.same

pub one_sum : (a b f g : Fraction) → IsForm a → IsForm b → IsForm f → IsForm g → IsSum a b f → IsSum a b g → f ≡ g
one_sum a b f g ha hb h k p q = one_over _ (a.den *ℤ b.den) f g (dens_apart a b ha hb) h k p.same q.same

pub one_difference : (a b f g : Fraction) → IsForm a → IsForm b → IsForm f → IsForm g → IsDifference a b f → IsDifference a b g → f ≡ g
one_difference a b f g ha hb h k p q = one_over _ (a.den *ℤ b.den) f g (dens_apart a b ha hb) h k p.same q.same

pub one_product : (a b f g : Fraction) → IsForm a → IsForm b → IsForm f → IsForm g → IsProduct a b f → IsProduct a b g → f ≡ g
one_product a b f g ha hb h k p q = one_over _ (a.den *ℤ b.den) f g (dens_apart a b ha hb) h k p.same q.same

pub one_quotient : (a b f g : Fraction) → IsForm a → (b.num ≡ pos 0 → ⊥) → IsForm f → IsForm g → IsQuotient a b f → IsQuotient a b g → f ≡ g
one_quotient a b f g ha apart h k p q =
    one_over _ (a.den *ℤ b.num) f g (times_apart a.den b.num (apart_of_positive a.den ha.positive) apart) h k p.same q.same
