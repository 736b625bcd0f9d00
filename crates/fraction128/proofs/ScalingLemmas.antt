-- Least common denominators and numbers over them.
use Rattle.std.proofs.Common.{◌≡◌, ℕ, zero, suc, take, get_or, add-one, take_all, ◌*◌, ◌/◌, ◌<◌, ◌≤◌, ◌^◌, inl, inr}
use Rattle.std.proofs.Common.{List, [], ◌∷◌, ◌++◌, length, All, Contains, ℤ, pos, negsuc, ◌*ℤ◌, ◌≤ℤ◌, ◌<ℤ◌}
use Rattle.std.proofs.Common.{unsigned_abs, Result, Ok, Err, ap, ◌∙◌, sym, subst, arith, to_z, of_z, w64}
use Rattle.std.specs.Int.{IsGcd, ◌∣◌}
use Rattle.std.proofs.lemmas.List.{take_more}
use Rattle.std.proofs.lemmas.Int.{ints, unsigned_abs-mul}
use Rattle.std.proofs.lemmas.List.Elements.{All-nil, All-push, All-weaker, All-contains, All-contains_itself}
use Rattle.std.proofs.lemmas.List.Elements.{Contains-append_left, Contains-push}
use Rattle.std.proofs.Math.Nat.{dvd_antisymm, one-dvd, dvd_trans, le_of_dvd, pos_of_dvd_of_pos, dvd-mul_right, mul-pos}
use Rattle.std.proofs.Math.Nat.{div-mul_cancel, le_of_mul-le-mul_right, mul-le-mul_left}
use Rattle.number_laws.proofs.Divisors.{gcd_exists, common_least, common_left, common_right}
use Rattle.fraction128.specs.Fraction.{Fraction, IsForm, whole}
use Rattle.fraction128.specs.Scaling.{IsCommon, IsLeastCommon, IsScaled, IsWideOver, Serves, GivesCommon, fraction_at}
use Rattle.fraction128.proofs.Products.{own_part_read}
use Rattle.fraction128.proofs.Unique.{size_positive}
use Rattle.fraction128.specs.declared.Wide.{Wide}

-- no denominators are served by 1
pub least_none : IsLeastCommon [] 1
least_none = record {
  positive = omega arith;
  common = All-nil (λ f. unsigned_abs f.den ∣ 1);
  least = λ k h. one-dvd k;
}

pub common_front : (fs : List Fraction) (f : Fraction) (k : ℕ) → IsCommon (fs ++ f ∷ []) k → IsCommon fs k
common_front fs f k h =
    All-weaker (Contains fs) (λ e. unsigned_abs e.den ∣ k)
    (λ e inside.
    All-contains (λ x. unsigned_abs x.den ∣ k) (fs ++ f ∷ []) e h (Contains-append_left fs (f ∷ []) e inside)) fs
    (All-contains_itself fs)

pub common_last : (fs : List Fraction) (f : Fraction) (k : ℕ) → IsCommon (fs ++ f ∷ []) k → unsigned_abs f.den ∣ k
common_last fs f k h = All-contains (λ x. unsigned_abs x.den ∣ k) (fs ++ f ∷ []) f h (Contains-push fs f)

-- one more denominator
pub least_more : (fs : List Fraction) (f : Fraction) (l g : ℕ) → pos 0 <ℤ f.den → IsGcd l (unsigned_abs f.den) g
    → IsLeastCommon fs l → IsLeastCommon (fs ++ f ∷ []) (l / g * unsigned_abs f.den)
least_more fs f l g pd gcd h =
    let d : ℕ = unsigned_abs f.den in
    let above : 0 < d = size_positive f.den pd in
    let common_above : 0 < g = pos_of_dvd_of_pos gcd.1 above in
    let part : l / g ∣ l = subst (λ (n : ℕ). l / g ∣ n) (div-mul_cancel g gcd.0) (dvd-mul_right (l / g) g) in
    let part_above : 0 < l / g = pos_of_dvd_of_pos part h.positive in
    record {
      positive = mul-pos part_above above;
      common = All-push (λ e. unsigned_abs e.den ∣ l / g * d) fs f
          (All-weaker (λ e. unsigned_abs e.den ∣ l) (λ e. unsigned_abs e.den ∣ l / g * d)
          (λ e q. dvd_trans (unsigned_abs e.den) q (common_left l d g gcd)) fs h.common) (common_right l d g);
      least = λ k q. common_least l d g k common_above gcd (h.least k (common_front fs f k q)) (common_last fs f k q);
    }

-- a whole number more leaves it as it is
least_kept : (fs : List Fraction) (f : Fraction) (l : ℕ) → unsigned_abs f.den ≡ 1 → IsLeastCommon fs l → IsLeastCommon (fs ++ f ∷ []) l
least_kept fs f l one h = record {
  positive = h.positive;
  common = All-push (λ e. unsigned_abs e.den ∣ l) fs f h.common (subst (λ (n : ℕ). n ∣ l) (sym one) (one-dvd l));
  least = λ k q. h.least k (common_front fs f k q);
}

pub common_kept : (r : Result ℕ Wide) (fs : List Fraction) (f : Fraction) → unsigned_abs f.den ≡ 1 → GivesCommon r fs
    → GivesCommon r (fs ++ f ∷ [])
common_kept (Ok l) fs f one h = (least_kept fs f l one h.0, h.1)
common_kept (Err w) fs f one h = (h.0, least_kept fs f h.0 one h.1, h.2)

-- it never falls
pub least_grows : (fs : List Fraction) (f : Fraction) (l : ℕ) → pos 0 <ℤ f.den → IsLeastCommon fs l
    → (m : ℕ) × (IsLeastCommon (fs ++ f ∷ []) m) × (l ≤ m)
least_grows fs f l pd h =
    let g : (g : ℕ) × IsGcd l (unsigned_abs f.den) g = gcd_exists l (unsigned_abs f.den) in
    let more : IsLeastCommon (fs ++ f ∷ []) (l / g.0 * unsigned_abs f.den) = least_more fs f l g.0 pd g.1 h in
    (l / g.0 * unsigned_abs f.den, more, le_of_dvd more.positive (common_left l (unsigned_abs f.den) g.0 g.1))

-- the parts of a value, as the code reads them
pub den_read : (f : Fraction) (x : ℤ) → IsForm f → x ≡ f.den → unsigned_abs (to_z w64 (of_z w64 x)) ≡ unsigned_abs f.den
den_read f x form is = ap (λ z. unsigned_abs (to_z w64 (of_z w64 z))) is ∙ ap unsigned_abs (own_part_read f.den form.small_den)

pub num_read : (f : Fraction) (x : ℤ) → IsForm f → x ≡ f.num → unsigned_abs (to_z w64 (of_z w64 x)) ≡ unsigned_abs f.num
num_read f x form is = ap (λ z. unsigned_abs (to_z w64 (of_z w64 z))) is ∙ ap unsigned_abs (own_part_read f.num form.small_num)

pub gcd_above : (l d g : ℕ) (f : Fraction) → IsForm f → d ≡ unsigned_abs f.den → IsGcd l d g → 0 < g
gcd_above l d g f form is gcd =
    let above : 0 < unsigned_abs f.den = size_positive f.den form.positive in
    pos_of_dvd_of_pos gcd.1 (rw is above)

pub common_after_ok : (r : Result ℕ Wide) (fs : List Fraction) (f : Fraction) (l d g : ℕ) → r ≡ Ok l → IsForm f
    → d ≡ unsigned_abs f.den → IsGcd l d g → GivesCommon r fs → IsLeastCommon (fs ++ f ∷ []) (l / g * d)
common_after_ok r fs f l d g is form same gcd h =
    let there : GivesCommon (Ok l) fs = subst (λ (s : Result ℕ Wide). GivesCommon s fs) is h in
    rw same (least_more fs f l g form.positive (subst (λ (n : ℕ). IsGcd l n g) same gcd) there.0)

pub common_after_wide : (r : Result ℕ Wide) (w : Wide) (fs : List Fraction) (f : Fraction) → r ≡ Err w → IsForm f
    → GivesCommon r fs → (m : ℕ) × (IsLeastCommon (fs ++ f ∷ []) m) × (2 ^ 63 ≤ m)
common_after_wide r w fs f is form h =
    let there : GivesCommon (Err w) fs = subst (λ (s : Result ℕ Wide). GivesCommon s fs) is h in
    let more : (m : ℕ) × (IsLeastCommon (fs ++ f ∷ []) m) × (there.0 ≤ m) = least_grows fs f there.0 form.positive there.1 in
    (more.0, more.1, omega (arith, there.2, more.2))

-- the number over a multiple of the denominator
pub scaled_over : (l : ℕ) (f : Fraction) → IsForm f → pos 0 ≤ℤ f.num → unsigned_abs f.den ∣ l
    → IsScaled l f (l / unsigned_abs f.den * unsigned_abs f.num)
scaled_over l f form h q = record { same = parts f.num f.den form.positive h q }
  where
    parts : (n d : ℤ) → pos 0 <ℤ d → pos 0 ≤ℤ n → unsigned_abs d ∣ l → pos (l / unsigned_abs d * unsigned_abs n) *ℤ d ≡ n *ℤ pos l
    parts (pos n) (pos d) pd pn r =
        let whole : l / d * d ≡ l = div-mul_cancel d r in
        omega (arith, ints, ap (λ m. n * m) whole)
    parts n (negsuc d) pd pn r = absurd (omega (arith, ints))
    parts (negsuc n) d pd pn r = absurd (omega (arith, ints))

-- there is a least common denominator
least_upto : (fs : List Fraction) → All IsForm fs → (n : ℕ) → n ≤ length fs → (l : ℕ) × IsLeastCommon (take n fs) l
least_upto fs forms zero h = (1, least_none)
least_upto fs forms (suc n) h =
    let below : (l : ℕ) × IsLeastCommon (take n fs) l = least_upto fs forms n (omega arith) in
    let inside : n < length fs = omega arith in
    let next : Fraction = get_or fs n (whole (pos 0)) in
    let more : (m : ℕ) × (IsLeastCommon (take n fs ++ next ∷ []) m) × (below.0 ≤ m) =
    least_grows (take n fs) next below.0 (forms n (whole (pos 0)) inside).positive below.1 in
    (more.0, subst (λ (xs : List Fraction). IsLeastCommon xs more.0) (sym (take-suc_is fs n inside)) more.1)
  where
    take-suc_is : (xs : List Fraction) (i : ℕ) → i < length xs → take (suc i) xs ≡ take i xs ++ get_or xs i (whole (pos 0)) ∷ []
    take-suc_is xs i lt = rw (← add-one i) (take_more xs i (whole (pos 0)) lt)

pub least_exists : (fs : List Fraction) → All IsForm fs → (l : ℕ) × IsLeastCommon fs l
least_exists fs forms =
    let all : (l : ℕ) × IsLeastCommon (take (length fs) fs) l = least_upto fs forms (length fs) (omega arith) in
    (all.0, subst (λ (xs : List Fraction). IsLeastCommon xs all.0) (take_all (length fs) fs (omega arith)) all.1)

-- and only one
pub one_least : (fs : List Fraction) (l m : ℕ) → IsLeastCommon fs l → IsLeastCommon fs m → l ≡ m
one_least fs l m h k = dvd_antisymm (h.least m k.common) (k.least l h.common)

sizes_of : (f : Fraction) (l k : ℕ) → IsScaled l f k → k * unsigned_abs f.den ≡ unsigned_abs f.num * l
sizes_of f l k h = sym (unsigned_abs-mul (pos k) f.den) ∙ (ap unsigned_abs h.same ∙ unsigned_abs-mul f.num (pos l))

-- where the least is too wide, no other common denominator serves
pub none_serves : (fs : List Fraction) (l : ℕ) → All IsForm fs → IsLeastCommon fs l → IsWideOver l fs → (m : ℕ) → Serves m fs → ⊥
none_serves fs l forms h wide m serves =
    let below : l ≤ m = le_of_dvd serves.positive (h.least m serves.common) in
    elim wide [
      | inl over ↦ absurd (omega (arith, serves.small))
      | inr w ↦
          let other : (k : ℕ) × (IsScaled m (fraction_at fs w.0) k) × (k < 2 ^ 63) = serves.each w.0 w.2 in
          let f : Fraction = fraction_at fs w.0 in
          let form : IsForm f = forms w.0 (whole (pos 0)) w.2 in
          absurd (too_large (unsigned_abs f.den) (unsigned_abs f.num) l m w.1 other.0
          (size_positive f.den form.positive) below (sizes_of f l w.1 w.3) (sizes_of f m other.0 other.1) w.4 other.2)
    ]
  where
    too_large : (d n a b k j : ℕ) → 0 < d → a ≤ b → k * d ≡ n * a → j * d ≡ n * b → 2 ^ 63 ≤ k → j < 2 ^ 63 → ⊥
    too_large d n a b k j pd le p q wide_k small_j =
        let grown : n * a ≤ n * b = mul-le-mul_left n le in
        let sizes : k * d ≤ j * d = omega (arith, p, q) in
        let there : k ≤ j = le_of_mul-le-mul_right {k = d} sizes pd in
        omega arith
