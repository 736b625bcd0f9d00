-- Tests of tables that are given: where they pass, one is the other after an exchange.
use Rattle.std.proofs.Common.{◌≡◌, inl, inr, ℕ, zero, suc, ◌+◌, ◌*◌, ◌/◌, ◌%◌, ◌<◌, ◌≤◌, ◌==◌, Bool, true, false, ◌&&◌}
use Rattle.std.proofs.Common.{◌||◌, nat_lt, nat_le, if◌then◌else◌, ℤ, pos, negsuc, ◌-ℤ◌, ◌*ℤ◌, ◌≤ℤ◌, ◌<ℤ◌, unsigned_abs}
use Rattle.std.proofs.Common.{ap, ◌∙◌, sym, subst, arith}
use Rattle.std.proofs.lemmas.Int.{ints}
use Rattle.std.proofs.lemmas.Bool.{and_parts, or_cases, cases_lt, ltb-true, leb-true, eqb-true}
use Rattle.std.proofs.lemmas.Bool.Decides.{Decides-int_eq}
use Rattle.std.specs.Int.{◌∣◌}
use Rattle.std.specs.Ordering.{int_eq}
use Rattle.std.proofs.Math.Nat.{eq-one_of_dvd-one, dvd-add_iff_right, div-add-mod', dvd-mul_left_of_dvd, dvd_of_mod-eq-zero, dvd_trans}
use lib.Signed.{le_z, lt_z}
use Rattle.number_laws.proofs.Order.{above_zero}
use Rattle.number_laws.specs.Divisors.{IsCoprime}
use Rattle.fraction128.specs.Fraction.{Fraction, IsForm, IsQuotient, IsAtMost, over, whole}
use Rattle.fraction128.specs.LowestTerms.{signed}
use Rattle.fraction128.proofs.Forms.{form_of_zero}
use Rattle.number_laws.specs.Tests.{all_below}
use Rattle.number_laws.proofs.TestLaws.{all_below-each}
use Rattle.program_form.specs.Program.{ProgramDef, height}
use Rattle.exchange_runs.specs.Table.{Table, variables, objective}
use Rattle.exchange_runs.specs.Exchange.{IsEntering, IsLast, HasRatio, IsRatio, IsLeastOf, IsLess, IsExchange}
use Rattle.exchange_runs.proofs.Loops.{less_at_zero, quotient_of_zero}

no_divisor : (n d : ℕ) → (d == 1 || (n % d == 1 || (n + 1) % d == 0)) ≡ true → IsCoprime n d
no_divisor n d h e in_n in_d = elim (or_cases (d == 1) (n % d == 1 || (n + 1) % d == 0) h) [
  | inl one ↦ eq-one_of_dvd-one (subst (λ (m : ℕ). e ∣ m) (eqb-true d 1 one) in_d)
  | inr rest ↦ elim (or_cases (n % d == 1) ((n + 1) % d == 0) rest) [
    | inl left_one ↦
        let split : n ≡ n / d * d + 1 = sym (ap (λ m. n / d * d + m) (sym (eqb-true (n % d) 1 left_one)) ∙ div-add-mod' n d) in
        eq-one_of_dvd-one ((dvd-add_iff_right e {m = n / d * d} {n = 1} (dvd-mul_left_of_dvd e in_d (n / d))).1
        (subst (λ (m : ℕ). e ∣ m) split in_n))
    | inr one_short ↦
        let next : e ∣ n + 1 = dvd_trans e in_d (dvd_of_mod-eq-zero d (eqb-true ((n + 1) % d) 0 one_short)) in
        eq-one_of_dvd-one ((dvd-add_iff_right e {m = n} {n = 1} in_n).1 next)
  ]
]

abbrev small_form : ℤ → ℤ → Bool
small_form n (pos d) =
    nat_lt 0 d && (nat_lt (unsigned_abs n) 9223372036854775808
    && (nat_lt d 9223372036854775808 && (d == 1 || (unsigned_abs n % d == 1 || (unsigned_abs n + 1) % d == 0))))
small_form n (negsuc d) = false

form_of_test : (n d : ℤ) → small_form n d ≡ true → IsForm (over n d)
form_of_test n (pos d) h =
    let above = and_parts (nat_lt 0 d) _ h in
    let small = and_parts (nat_lt (unsigned_abs n) 9223372036854775808) _ above.1 in
    let rest = and_parts (nat_lt d 9223372036854775808) _ small.1 in
    record {
      positive = above_zero d (ltb-true 0 d above.0);
      small_num = ltb-true (unsigned_abs n) 9223372036854775808 small.0;
      small_den = ltb-true d 9223372036854775808 rest.0;
      lowest = no_divisor (unsigned_abs n) d rest.1;
    }
form_of_test n (negsuc d) h = cc

abbrev pub form_test : Fraction → Bool
form_test f = small_form f.num f.den

pub form_from : (f : Fraction) → form_test f ≡ true → IsForm f
form_from f h = form_of_test f.num f.den h

-- some steps of Euclid's algorithm, to find lowest terms; that they are so is tested
abbrev divisor_by : ℕ → ℕ → ℕ → ℕ
divisor_by zero a b = a
divisor_by (suc n) a b = if b == 0 then a else divisor_by n b (a % b)

abbrev lowest : ℤ → ℤ → Fraction
lowest n d =
    over (signed n (unsigned_abs n / divisor_by 6 (unsigned_abs n) (unsigned_abs d)))
    (pos (unsigned_abs d / divisor_by 6 (unsigned_abs n) (unsigned_abs d)))

abbrev pub product_found : Fraction → Fraction → Fraction
product_found f y = lowest (f.num *ℤ y.num) (f.den *ℤ y.den)

abbrev pub ratio_found : Fraction → Fraction → Fraction
ratio_found a b = lowest (a.num *ℤ b.den) (a.den *ℤ b.num)

abbrev pub quotient_test : Fraction → Fraction → Fraction → Bool
quotient_test a b c = form_test c && int_eq (c.num *ℤ (a.den *ℤ b.num)) ((a.num *ℤ b.den) *ℤ c.den)

abbrev pub less_test : Fraction → Fraction → Fraction → Fraction → Bool
less_test a f y b =
    (form_test (product_found f y) && int_eq ((product_found f y).num *ℤ (f.den *ℤ y.den)) ((f.num *ℤ y.num) *ℤ (product_found f y).den))
    && (form_test b && int_eq (b.num *ℤ (a.den *ℤ (product_found f y).den))
    (((a.num *ℤ (product_found f y).den) -ℤ ((product_found f y).num *ℤ a.den)) *ℤ b.den))

pub quotient_from : (a b c : Fraction) → quotient_test a b c ≡ true → IsForm c × IsQuotient a b c
quotient_from a b c h =
    let parts = and_parts (form_test c) _ h in
    (form_from c parts.0, record { same = (Decides-int_eq _ _).0 parts.1 })

pub less_from : (a f y b : Fraction) → less_test a f y b ≡ true → IsLess a f y b
less_from a f y b h =
    let halves = and_parts
    (form_test (product_found f y)
    && int_eq ((product_found f y).num *ℤ (f.den *ℤ y.den)) ((f.num *ℤ y.num) *ℤ (product_found f y).den)) _ h in
    let first = and_parts (form_test (product_found f y)) _ halves.0 in
    let second = and_parts (form_test b) _ halves.1 in
    record {
      product = product_found f y;
      product_form = form_from (product_found f y) first.0;
      is_product = record { same = (Decides-int_eq _ _).0 first.1 };
      form = form_from b second.0;
      is_difference = record { same = (Decides-int_eq _ _).0 second.1 };
    }

not_above : (x : ℤ) → le_z x (pos 0) ≡ true → pos 0 <ℤ x → ⊥
not_above x h k = omega (arith, ints)

at_most_from : (x y : ℤ) → le_z x y ≡ true → x ≤ℤ y
at_most_from x y h = omega (arith, ints)

below_from : (x y : ℤ) → lt_z x y ≡ true → x <ℤ y
below_from x y h = omega (arith, ints)

not_back : (x y : ℤ) → lt_z x y ≡ true → y ≤ℤ x → ⊥
not_back x y h k = omega (arith, ints)

abbrev pub none_above_test : ℕ → ProgramDef → Table → Bool
none_above_test n p t = all_below n (λ v. le_z (objective p t v).num (pos 0))

none_above_from : (n : ℕ) (p : ProgramDef) (t : Table) → none_above_test n p t ≡ true → (v : ℕ) → v < n → (objective p t v).num ≤ℤ pos 0
none_above_from n p t h v l = at_most_from (objective p t v).num (pos 0) (all_below-each n (λ k. le_z (objective p t k).num (pos 0)) h v l)

pub last_from : (p : ProgramDef) (t : Table) → none_above_test (variables p) p t ≡ true → IsLast p t
last_from p t h = record { none = none_above_from (variables p) p t h }

abbrev pub entering_test : ProgramDef → Table → ℕ → Bool
entering_test p t e = nat_lt e (variables p) && (lt_z (pos 0) (objective p t e).num && none_above_test e p t)

pub entering_from : (p : ProgramDef) (t : Table) (e : ℕ) → entering_test p t e ≡ true → IsEntering p t e
entering_from p t e h =
    let parts = and_parts (nat_lt e (variables p)) _ h in
    let rest = and_parts (lt_z (pos 0) (objective p t e).num) _ parts.1 in
    record {
      within = ltb-true e (variables p) parts.0;
      above = below_from (pos 0) (objective p t e).num rest.0;
      least = none_above_from e p t rest.1;
    }

-- Has row i no ratio, or one that is at least f, and with its basic variable at least that of r where they are equal?
abbrev pub behind_test : ℕ → Table → ℕ → ℕ → Fraction → ℕ → Fraction → Bool
behind_test w t e r f i g =
    le_z (t.cell i e).num (pos 0)
    || (quotient_test (t.cell i w) (t.cell i e) g && (le_z (f.num *ℤ g.den) (g.num *ℤ f.den)
    && (lt_z (f.num *ℤ g.den) (g.num *ℤ f.den) || nat_le (t.basic r) (t.basic i))))

behind_from : (w : ℕ) (t : Table) (e r : ℕ) (f : Fraction) (i : ℕ) (g : Fraction) → behind_test w t e r f i g ≡ true → HasRatio t e i
    → (IsRatio w t e i g) × (IsAtMost f g) × (IsAtMost g f → t.basic r ≤ t.basic i)
behind_from w t e r f i g h has = elim (or_cases (le_z (t.cell i e).num (pos 0)) _ h) [
  | inl none ↦ absurd (not_above (t.cell i e).num none has.above)
  | inr ratio ↦
      let parts = and_parts (quotient_test (t.cell i w) (t.cell i e) g) _ ratio in
      let is : IsForm g × IsQuotient (t.cell i w) (t.cell i e) g = quotient_from (t.cell i w) (t.cell i e) g parts.0 in
      let rest = and_parts (le_z (f.num *ℤ g.den) (g.num *ℤ f.den)) _ parts.1 in (
        record { form = is.0; quotient = is.1 },
        record { le = at_most_from (f.num *ℤ g.den) (g.num *ℤ f.den) rest.0 },
        λ back. elim (or_cases (lt_z (f.num *ℤ g.den) (g.num *ℤ f.den)) _ rest.1) [
          | inl below ↦ absurd (not_back (f.num *ℤ g.den) (g.num *ℤ f.den) below back.le)
          | inr tie ↦ leb-true (t.basic r) (t.basic i) tie
        ],
      )
]

abbrev pub leaving_test : ProgramDef → Table → ℕ → ℕ → Fraction → Bool
leaving_test p t e r f =
    nat_lt r (height p)
    && (lt_z (pos 0) (t.cell r e).num
    && (quotient_test (t.cell r (variables p)) (t.cell r e) f
    && all_below (height p) (λ i. behind_test (variables p) t e r f i (ratio_found (t.cell i (variables p)) (t.cell i e)))))

pub leaving_from : (p : ProgramDef) (t : Table) (e r : ℕ) (f : Fraction) → leaving_test p t e r f ≡ true
    → IsLeastOf (variables p) t e (height p) r f
leaving_from p t e r f h =
    let parts = and_parts (nat_lt r (height p)) _ h in
    let above = and_parts (lt_z (pos 0) (t.cell r e).num) _ parts.1 in
    let rest = and_parts (quotient_test (t.cell r (variables p)) (t.cell r e) f) _ above.1 in
    let is : IsForm f × IsQuotient (t.cell r (variables p)) (t.cell r e) f = quotient_from (t.cell r (variables p)) (t.cell r e) f rest.0 in
    record {
      within = ltb-true r (height p) parts.0;
      has = record { above = below_from (pos 0) (t.cell r e).num above.0 };
      ratio = record { form = is.0; quotient = is.1 };
      least = λ i l has.
          let g : Fraction = ratio_found (t.cell i (variables p)) (t.cell i e) in
          let behind = behind_from (variables p) t e r f i g
          (all_below-each (height p)
          (λ j. behind_test (variables p) t e r f j (ratio_found (t.cell j (variables p)) (t.cell j e))) rest.1 i l)
          has in
          (g, behind.0, behind.1, behind.2);
    }

abbrev pub divided_test : ProgramDef → Table → Table → ℕ → ℕ → Bool
divided_test p t u e r = all_below (variables p + 1) (λ v. quotient_test (t.cell r v) (t.cell r e) (u.cell r v))

abbrev pub taken_test : ProgramDef → Table → Table → ℕ → ℕ → Bool
taken_test p t u e r =
    all_below (height p + 1)
    (λ i. i == r || all_below (variables p + 1) (λ v. less_test (t.cell i v) (t.cell i e) (u.cell r v) (u.cell i v)))

abbrev pub basis_test : ProgramDef → Table → Table → ℕ → ℕ → Bool
basis_test p t u e r = u.basic r == e && all_below (height p) (λ i. i == r || u.basic i == t.basic i)

-- Is zero past the place of the limit?
abbrev pub IsZeroPast : ProgramDef → Table → Type 0
IsZeroPast p t = (i v : ℕ) → variables p < v → t.cell i v ≡ whole (pos 0)

pub exchange_from : (p : ProgramDef) (t u : Table) (e r : ℕ) (f : Fraction) → IsZeroPast p t → IsZeroPast p u
    → entering_test p t e ≡ true → leaving_test p t e r f ≡ true → divided_test p t u e r ≡ true
    → taken_test p t u e r ≡ true → basis_test p t u e r ≡ true
    → IsExchange p t u e r
exchange_from p t u e r f past_t past_u entering leaving divided taken basis =
    let each_divided : (v : ℕ) → IsForm (u.cell r v) × IsQuotient (t.cell r v) (t.cell r e) (u.cell r v) =
    λ v. elim (cases_lt v (variables p + 1)) [
      | inl within ↦
          quotient_from (t.cell r v) (t.cell r e) (u.cell r v)
          (all_below-each (variables p + 1) (λ k. quotient_test (t.cell r k) (t.cell r e) (u.cell r k)) divided v within)
      | inr past ↦
          let at_t : t.cell r v ≡ whole (pos 0) = past_t r v (omega (arith, past)) in
          let at_u : u.cell r v ≡ whole (pos 0) = past_u r v (omega (arith, past)) in
          (rw at_u form_of_zero, rw at_u (quotient_of_zero (t.cell r v) (t.cell r e) (ap (λ c. c.num) at_t)))
    ] in
    let parts = and_parts (u.basic r == e) _ basis in
    record {
      enters = entering_from p t e entering;
      leaves = record { ratio = f; least = leaving_from p t e r f leaving };
      divided_form = λ v. (each_divided v).0;
      divided = λ v. (each_divided v).1;
      taken = λ i v l away. elim (cases_lt v (variables p + 1)) [
        | inl within ↦
            let row = other_row (height p + 1)
            (λ j. all_below (variables p + 1) (λ k. less_test (t.cell j k) (t.cell j e) (u.cell r k) (u.cell j k))) r
            taken i (omega (arith, l)) away in
            less_from (t.cell i v) (t.cell i e) (u.cell r v) (u.cell i v)
            (all_below-each (variables p + 1) (λ k. less_test (t.cell i k) (t.cell i e) (u.cell r k) (u.cell i k)) row v within)
        | inr past ↦
            let beyond : variables p < v = omega (arith, past) in
            let same : u.cell i v ≡ t.cell i v = past_u i v beyond ∙ sym (past_t i v beyond) in
            rw same (less_at_zero (t.cell i v) (t.cell i e) (u.cell r v) (ap (λ c. c.num) (past_u r v beyond))
            (rw (past_t i v beyond) form_of_zero))
      ];
      entered = eqb-true (u.basic r) e parts.0;
      stayed = λ i l away. eqb-true (u.basic i) (t.basic i) (other_row (height p) (λ j. u.basic j == t.basic j) r parts.1 i l away);
    }
  where
    other_row : (n : ℕ) (test : ℕ → Bool) (k : ℕ) → all_below n (λ j. j == k || test j) ≡ true → (i : ℕ) → i < n
        → (i ≡ k → ⊥) → test i ≡ true
    other_row n test k h i l away = elim (or_cases (i == k) (test i) (all_below-each n (λ j. j == k || test j) h i l)) [
      | inl same ↦ absurd (away (eqb-true i k same))
      | inr passes ↦ passes
    ]
