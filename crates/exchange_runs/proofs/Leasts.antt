-- The least of the ratios of a table's first rows, row by row, whatever else a ratio must be: its denominator is above zero.
use Rattle.std.proofs.Common.{◌≡◌, ◌⊎◌, inl, inr, ℕ, zero, suc, ◌+◌, ◌<◌, ◌≤◌, add-one, pos, ◌*ℤ◌, ◌<ℤ◌, subst, arith}
use Rattle.std.proofs.lemmas.Int.{by_lt_z}
use Rattle.std.proofs.lemmas.Bool.{cases_lt}
use lib.Signed.{≤ℤ_refl, clash_ℤ}
use Rattle.number_laws.proofs.Order.{weaker}
use Rattle.number_laws.proofs.Comparison.{chained_le}
use Rattle.fraction128.specs.Fraction.{Fraction, IsAtMost}
use Rattle.exchange_runs.specs.Table.{Table}
use Rattle.exchange_runs.specs.Exchange.{HasRatio, IsRatioOver, IsLeastOver}

-- Has each such value a denominator above zero?
abbrev pub AreFractions : (Fraction → Type 0) → Type 0
AreFractions IsCell = (f : Fraction) → IsCell f → pos 0 <ℤ f.den

at_most_through : (IsCell : Fraction → Type 0) (a b c : Fraction) → AreFractions IsCell → IsCell a → IsCell b → IsCell c
    → IsAtMost a b → IsAtMost b c → IsAtMost a c
at_most_through IsCell a b c are fa fb fc h k =
    record { le = chained_le a.num b.num c.num a.den b.den c.den (are a fa) (are b fb) (are c fc) h.le k.le }

-- The first row with a ratio has the least so far.
pub first_has_least : (IsCell : Fraction → Type 0) (w : ℕ) (t : Table) (e k : ℕ) (f : Fraction)
    → ((i : ℕ) → i < k → HasRatio t e i → ⊥) → HasRatio t e k
    → IsRatioOver IsCell w t e k f → IsLeastOver IsCell w t e (k + 1) k f
first_has_least IsCell w t e k f none has is = record {
  within = omega arith;
  has = has;
  ratio = is;
  least = λ i l h. elim (cases_lt i k) [
    | inl earlier ↦ absurd (none i earlier h)
    | inr here ↦ let same : i ≡ k = omega arith in rw same (f, is, record { le = ≤ℤ_refl _ }, λ back. omega arith)
  ];
}

-- A row without a ratio changes nothing.
pub least_without : (IsCell : Fraction → Type 0) (w : ℕ) (t : Table) (e k r : ℕ) (f : Fraction)
    → IsLeastOver IsCell w t e k r f → (HasRatio t e k → ⊥)
    → IsLeastOver IsCell w t e (k + 1) r f
least_without IsCell w t e k r f h none = record {
  within = omega (arith, h.within);
  has = h.has;
  ratio = h.ratio;
  least = λ i l has. elim (cases_lt i k) [
    | inl earlier ↦ h.least i earlier has
    | inr here ↦ let same : i ≡ k = omega arith in absurd (none (rw (← same) has))
  ];
}

-- A row whose ratio does not come before the least changes nothing.
pub least_kept : (IsCell : Fraction → Type 0) (w : ℕ) (t : Table) (e k r : ℕ) (f g : Fraction)
    → IsLeastOver IsCell w t e k r f → IsRatioOver IsCell w t e k g
    → IsAtMost f g → (IsAtMost g f → t.basic r ≤ t.basic k) → IsLeastOver IsCell w t e (k + 1) r f
least_kept IsCell w t e k r f g h is at_most tie = record {
  within = omega (arith, h.within);
  has = h.has;
  ratio = h.ratio;
  least = λ i l has. elim (cases_lt i k) [
    | inl earlier ↦ h.least i earlier has
    | inr here ↦ let same : i ≡ k = omega arith in rw same (g, is, at_most, tie)
  ];
}

-- A row whose ratio comes before the least is the least now.
pub least_replaced : (IsCell : Fraction → Type 0) (w : ℕ) (t : Table) (e k r : ℕ) (f g : Fraction) → AreFractions IsCell
    → IsLeastOver IsCell w t e k r f
    → HasRatio t e k → IsRatioOver IsCell w t e k g → IsAtMost g f → (IsAtMost f g → t.basic k ≤ t.basic r)
    → IsLeastOver IsCell w t e (k + 1) k g
least_replaced IsCell w t e k r f g are h has_k is at_most tie = record {
  within = omega arith;
  has = has_k;
  ratio = is;
  least = λ i l has. elim (cases_lt i k) [
    | inl earlier ↦
        let of_i = h.least i earlier has in (
          of_i.0,
          of_i.1,
          at_most_through IsCell g f of_i.0 are is.form h.ratio.form of_i.1.form at_most of_i.2,
          λ back.
              let f_back : IsAtMost f g = at_most_through IsCell f of_i.0 g are h.ratio.form of_i.1.form is.form of_i.2 back in
              let i_back : IsAtMost of_i.0 f = at_most_through IsCell of_i.0 g f are of_i.1.form is.form h.ratio.form back at_most in
              omega (arith, tie f_back, of_i.3 i_back),
        )
    | inr here ↦ let same : i ≡ k = omega arith in rw same (g, is, record { le = ≤ℤ_refl _ }, λ back. omega arith)
  ];
}

-- One more row with a ratio: it takes the place of the least, or does not.
least_more : (IsCell : Fraction → Type 0) (w : ℕ) (t : Table) (e k r : ℕ) (f g : Fraction) → AreFractions IsCell
    → IsLeastOver IsCell w t e k r f → HasRatio t e k
    → IsRatioOver IsCell w t e k g → (s : ℕ) × (m : Fraction) × IsLeastOver IsCell w t e (k + 1) s m
least_more IsCell w t e k r f g are h has is =
    by_lt_z (f.num *ℤ g.den) (g.num *ℤ f.den)
    (λ below. (r, f, least_kept IsCell w t e k r f g h is (record { le = weaker below }) (λ back. clash_ℤ below back.le)))
    (λ at_most. by_lt_z (g.num *ℤ f.den) (f.num *ℤ g.den)
    (λ below. (
      k,
      g,
      least_replaced IsCell w t e k r f g are h has is (record { le = at_most })
          (λ back. clash_ℤ below back.le),
    ))
    (λ equal. elim (cases_lt (t.basic k) (t.basic r)) [
      | inl first ↦ (k, g, least_replaced IsCell w t e k r f g are h has is (record { le = at_most }) (λ back. omega (arith, first)))
      | inr behind ↦ (r, f, least_kept IsCell w t e k r f g h is (record { le = equal }) (λ back. behind))
    ]))

-- Of the first k rows none has a ratio, or one has the least.
pub least_among : (IsCell : Fraction → Type 0) (w : ℕ) (t : Table) (e k : ℕ) → AreFractions IsCell
    → ((i : ℕ) → i < k → HasRatio t e i → (g : Fraction) × IsRatioOver IsCell w t e i g)
    → ((i : ℕ) → i < k → HasRatio t e i → ⊥) ⊎ ((r : ℕ) × (f : Fraction) × IsLeastOver IsCell w t e k r f)
least_among IsCell w t e zero are ratios = inl (λ i l has. omega arith)
least_among IsCell w t e (suc k) are ratios =
    by_lt_z (pos 0) (t.cell k e).num
    (λ above.
    let has : HasRatio t e k = record { above = above } in
    let g : (g : Fraction) × IsRatioOver IsCell w t e k g = ratios k (omega arith) has in
    elim (least_among IsCell w t e k are (λ i l. ratios i (omega arith))) [
      | inl none ↦ inr (
        k,
        g.0,
        subst (λ (n : ℕ). IsLeastOver IsCell w t e n k g.0) (add-one k)
            (first_has_least IsCell w t e k g.0 none has g.1),
      )
      | inr least ↦
          let more = least_more IsCell w t e k least.0 least.1 g.0 are least.2 has g.1 in
          inr (more.0, more.1, subst (λ (n : ℕ). IsLeastOver IsCell w t e n more.0 more.1) (add-one k) more.2)
    ])
    (λ below.
    let none_here : HasRatio t e k → ⊥ = λ has. clash_ℤ has.above below in
    elim (least_among IsCell w t e k are (λ i l. ratios i (omega arith))) [
      | inl none ↦ inl (λ i l has. elim (cases_lt i k) [
        | inl earlier ↦ none i earlier has
        | inr last ↦ let same : i ≡ k = omega arith in none_here (subst (λ (n : ℕ). HasRatio t e n) same has)
      ])
      | inr least ↦
          inr (
            least.0,
            least.1,
            subst (λ (n : ℕ). IsLeastOver IsCell w t e n least.0 least.1) (add-one k)
                (least_without IsCell w t e k least.0 least.1 least.2 none_here),
          )
    ])
