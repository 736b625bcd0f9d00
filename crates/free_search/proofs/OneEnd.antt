-- A program's run ends in one way. So its end is written in one way: the duals of each end are the same numbers.
use Rattle.std.proofs.Common.{◌≡◌, inl, inr, ℕ, ◌+◌, ◌*◌, ◌<◌, ◌≤◌, ◌^◌, List, slice_index, ℤ, pos, neg_ℤ, unsigned_abs}
use Rattle.std.proofs.Common.{◌+ℤ◌, ◌*ℤ◌, ◌≤ℤ◌, ◌<ℤ◌, ap, ap₂, ◌∙◌, sym, subst, arith}
use Rattle.std.proofs.Math.Nat.{mul-le-mul_left, lt_of_mul-lt-mul_right}
use Rattle.std.proofs.Math.Pow.{pow_mono}
use Rattle.std.proofs.lemmas.Int.{ints}
use Rattle.std.proofs.lemmas.Bool.{cases_lt}
use Rattle.std.proofs.lemmas.Grind.{same_number_lists}
use Rattle.number_laws.proofs.Ring.{mul-comm, mul-swap_last, mul-add_right}
use Rattle.number_laws.proofs.Order.{weaker, above_zero, times_le, times_lt, cancel_le, cancel_lt}
use Rattle.fraction128.specs.Fraction.{Fraction, IsSame, over}
use Rattle.fraction128.specs.Scaling.{IsScaled}
use Rattle.fraction128.proofs.Unique.{size_positive}
use Rattle.program_form.specs.Program.{ProgramDef, height}
use Rattle.program_form.specs.Certificate.{DualDef}
use Rattle.program_form.specs.Points.{IsGreatestReached}
use Rattle.program_form.specs.Duals.{dual_total, dual_value}
use Rattle.program_form.specs.Optimum.{IsOptimum}
use Rattle.program_form.proofs.Duality.{optimum_reached}
use Rattle.exchange_runs.specs.Table.{Table, slack, objective}
use Rattle.exchange_runs.specs.Exchange.{IsLast}
use Rattle.exchange_runs.specs.Readings.{dual_at}
use Rattle.exchange_runs.proofs.Signs.{turned, same_natural}
use Rattle.exchange_runs.proofs.Shown.{Shows, shows_at, shows_minus, shows_at_most_zero}
use Rattle.exchange_runs.proofs.Shadows.{IsShadow, shadow_over}
use Rattle.exchange_runs.proofs.FreeRuns.{FreeTrace, trace_of, are_fractions}
use Rattle.exchange_runs.specs.Unbounded.{IsFraction}
use Rattle.exchange_runs.proofs.OneEnd.{IsSameState, same_tables, no_later_end}
use Rattle.exchange_runs.proofs.Best.{scale_of, dual_num, size_is, scaled_shown, shown_scaled, scaled_total, optimum_at, optimum_of}
use Rattle.free_search.specs.Rounding.{IsUp}
use Rattle.free_search.specs.Ends.{IsEndAfter, IsRoundedUp, IsRoundedDual, IsExactDual, HasGreatDual}
use Rattle.free_search.specs.Ends.{IsFinestDual, IsFoundDual}

-- Are these the duals of the rows: x r over d for row r?
pub record AreDualNumbers (p : ProgramDef) (t : Table) (d : ℕ) (x : ℕ → ℕ) : Type 0 where
  pub positive : 0 < d
  pub shows : (r : ℕ) → r < height p → Shows (pos d) (pos (x r)) (dual_at p t r)

numbers_behind : (p : ProgramDef) (t : Table) (d : ℤ) (z : ℕ → ℕ → ℤ) → IsShadow p t d z → IsLast p t
    → AreDualNumbers p t (scale_of d) (dual_num p z)
numbers_behind p t d z h last = record {
  positive = size_positive d h.positive;
  shows = λ r l.
      let cell : ℤ = z (height p) (slack p r) in
      let shown : Shows d cell (objective p t (slack p r)) = h.shows (height p) (slack p r) (omega arith) in
      let below : cell ≤ℤ pos 0
      = shows_at_most_zero d cell (objective p t (slack p r)) h.positive shown (last.none (slack p r) (omega arith)) in
      shows_at d (pos (scale_of d)) (neg_ℤ cell) (pos (dual_num p z r)) (dual_at p t r) (sym (size_is d (weaker h.positive)))
      (sym (size_is (neg_ℤ cell) (turned below))) (shows_minus d cell (objective p t (slack p r)) shown);
}

-- Have two tables the same duals?
pub record ShareDuals (p : ProgramDef) (t u : Table) : Type 0 where
  pub d : ℕ
  pub x : ℕ → ℕ
  pub one : AreDualNumbers p t d x
  pub other : AreDualNumbers p u d x

pub the_other_way : (p : ProgramDef) (t u : Table) → ShareDuals p t u → ShareDuals p u t
the_other_way p t u h = record { d = h.d; x = h.x; one = h.other; other = h.one }

numbers_agree : (p : ProgramDef) (u : Table) (d e : ℕ) (x y : ℕ → ℕ) → e ≡ d → ((r : ℕ) → y r ≡ x r) → AreDualNumbers p u e y
    → AreDualNumbers p u d x
numbers_agree p u d e x y same each h = record {
  positive = rw (← same) h.positive;
  shows = λ r l. rw (← same, ← each r) (h.shows r l);
}

share_at : (p : ProgramDef) (k : ℕ) (t u : Table) → IsEndAfter p k t → IsEndAfter p k u → ShareDuals p t u
share_at p k t u end other =
    let h : FreeTrace p k t = trace_of p k t end.reached in
    let g : FreeTrace p k u = trace_of p k u other.reached in
    let same : IsSameState p (h.states k) (g.states k) = same_tables p k k k t u h g (omega arith) (omega arith) in
    let dens : g.d ≡ h.d = ap (λ s. s.d) (sym g.at_end) ∙ (sym same.d ∙ ap (λ s. s.d) h.at_end) in
    let cells : (i v : ℕ) → g.z i v ≡ h.z i v
    = λ i v. ap (λ s. s.z i v) (sym g.at_end) ∙ (sym (same.z i v) ∙ ap (λ s. s.z i v) h.at_end) in
    record {
      d = scale_of h.d;
      x = dual_num p h.z;
      one = numbers_behind p t h.d h.z h.shadow end.last;
      other = numbers_agree p u (scale_of h.d) (scale_of g.d) (dual_num p h.z) (dual_num p g.z) (ap (λ a. unsigned_abs a) dens)
          (λ r. ap (λ a. unsigned_abs (neg_ℤ a)) (cells (height p) (slack p r)))
          (numbers_behind p u g.d g.z g.shadow other.last);
    }

-- All ends have the same duals.
pub share_duals : (p : ProgramDef) (k j : ℕ) (t u : Table) → IsEndAfter p k t → IsEndAfter p j u → ShareDuals p t u
share_duals p k j t u end other =
    let back : j ≤ k = no_later_end p k j t u end.reached end.last other.reached in
    let up : k ≤ j = no_later_end p j k u t other.reached other.last end.reached in
    let same : j ≡ k = omega arith in
    share_at p k t u end (subst (λ (n : ℕ). IsEndAfter p n u) same other)

-- What is rounded up depends on the value alone.
up_same : (f g : Fraction) (m k : ℕ) → pos 0 <ℤ f.den → pos 0 <ℤ g.den → IsSame f g → IsRoundedUp f m k → IsRoundedUp g m k
up_same f g m k some above same h =
    let numbers : (g.num *ℤ pos m) *ℤ f.den ≡ (f.num *ℤ pos m) *ℤ g.den
    = mul-swap_last g.num (pos m) f.den ∙ (ap (λ a. a *ℤ pos m) same.same ∙ mul-swap_last f.num g.den (pos m)) in
    let products : (pos k *ℤ g.den) *ℤ f.den ≡ (pos k *ℤ f.den) *ℤ g.den = mul-swap_last (pos k) g.den f.den in
    let sums : ((g.num *ℤ pos m) +ℤ g.den) *ℤ f.den ≡ ((f.num *ℤ pos m) +ℤ f.den) *ℤ g.den
    = mul-add_right (g.num *ℤ pos m) g.den f.den
    ∙ (ap₂ ◌+ℤ◌ numbers (mul-comm g.den f.den) ∙ sym (mul-add_right (f.num *ℤ pos m) f.den g.den)) in
    record {
      not_below = cancel_le (g.num *ℤ pos m) (pos k *ℤ g.den) f.den some
          (rw (numbers, products) (times_le (f.num *ℤ pos m) (pos k *ℤ f.den) g.den (weaker above) h.not_below));
      least = cancel_lt (pos k *ℤ g.den) ((g.num *ℤ pos m) +ℤ g.den) f.den some
          (rw (products, sums) (times_lt (pos k *ℤ f.den) ((f.num *ℤ pos m) +ℤ f.den) g.den above h.least));
    }

pub up_shown : (d x m k : ℕ) (f : Fraction) → 0 < d → Shows (pos d) (pos x) f → IsRoundedUp f m k → IsUp x d m k
up_shown d x m k f some shown h =
    let up : IsRoundedUp (over (pos x) (pos d)) m k
    = up_same f (over (pos x) (pos d)) m k shown.positive (above_zero d some) (record { same = sym shown.same }) h in
    (omega (arith, ints, up.not_below), omega (arith, ints, up.least))

shown_up : (d x m k : ℕ) (f : Fraction) → 0 < d → Shows (pos d) (pos x) f → IsUp x d m k → IsRoundedUp f m k
shown_up d x m k f some shown h =
    up_same (over (pos x) (pos d)) f m k (above_zero d some) shown.positive (record { same = shown.same })
    (record { not_below = omega (arith, ints, h.0); least = omega (arith, ints, h.1) })

-- So all that is said of the duals of one end holds of the other.
up_moves : (p : ProgramDef) (t u : Table) (r m k : ℕ) → ShareDuals p t u → r < height p → IsRoundedUp (dual_at p t r) m k
    → IsRoundedUp (dual_at p u r) m k
up_moves p t u r m k h l up =
    shown_up h.d (h.x r) m k (dual_at p u r) h.one.positive (h.other.shows r l)
    (up_shown h.d (h.x r) m k (dual_at p t r) h.one.positive (h.one.shows r l) up)

scaled_moves : (p : ProgramDef) (t u : Table) (r m k : ℕ) → ShareDuals p t u → r < height p → IsScaled m (dual_at p t r) k
    → IsScaled m (dual_at p u r) k
scaled_moves p t u r m k h l scaled =
    shown_scaled (pos h.d) (pos (h.x r)) (dual_at p u r) m k (above_zero h.d h.one.positive) (h.other.shows r l)
    (scaled_shown (pos h.d) (pos (h.x r)) (dual_at p t r) m k (h.one.shows r l) scaled)

pub rounded_moves : (p : ProgramDef) (t u : Table) (w : DualDef) → ShareDuals p t u → IsRoundedDual p t w → IsRoundedDual p u w
rounded_moves p t u w h is = record {
  number_each = is.number_each;
  positive = is.positive;
  small_den = is.small_den;
  rounded = λ r l. up_moves p t u r w.den (slice_index w.num r) h l (is.rounded r l);
  small = is.small;
}

exact_moves : (p : ProgramDef) (t u : Table) (w : DualDef) → ShareDuals p t u → IsExactDual p t w → IsExactDual p u w
exact_moves p t u w h is = record {
  rounded = rounded_moves p t u w h is.rounded;
  exact = λ r l. scaled_moves p t u r w.den (slice_index w.num r) h l (is.exact r l);
}

great_moves : (p : ProgramDef) (t u : Table) (m : ℕ) → ShareDuals p t u → HasGreatDual p t m → HasGreatDual p u m
great_moves p t u m h great =
    (great.0, great.1, great.2, up_moves p t u great.0 m great.2 h great.1 great.3, great.4)

finest_moves : (p : ProgramDef) (t u : Table) (w : DualDef) → ShareDuals p t u → IsFinestDual p t w → IsFinestDual p u w
finest_moves p t u w h is = record {
  power = is.power;
  den = is.den;
  rounded = rounded_moves p t u w h is.rounded;
  greatest = elim is.greatest [
    | inl most ↦ inl most
    | inr great ↦ inr (great_moves p t u (2 ^ (is.power + 1)) h great)
  ];
}

found_moves : (p : ProgramDef) (t u : Table) (w : DualDef) → ShareDuals p t u → IsFoundDual p t w → IsFoundDual p u w
found_moves p t u w h (inl lowest) =
    inl (record {
      exact = exact_moves p t u w h lowest.exact;
      least = λ other is. lowest.least other (exact_moves p u t other (the_other_way p t u h) is);
    })
found_moves p t u w h (inr none) =
    inr (λ other is. none.0 other (exact_moves p u t other (the_other_way p t u h) is), finest_moves p t u w h none.1)

-- Over a greater denominator the rounded number isn't less.
up_at_most : (n d m j k l : ℕ) → m ≤ j → IsUp n d m k → IsUp n d j l → k ≤ l
up_at_most n d m j k l most h g =
    let grows : n * m ≤ n * j = mul-le-mul_left n most in
    let less : k * d < (l + 1) * d = omega (arith, h.1, g.0, grows) in
    let below : k < l + 1 = lt_of_mul-lt-mul_right d less in
    omega (arith, below)

dual_at_most : (p : ProgramDef) (t u : Table) (r m j k l : ℕ) → ShareDuals p t u → r < height p → m ≤ j → IsRoundedUp (dual_at p t r) m k
    → IsRoundedUp (dual_at p t r) j l → k ≤ l
dual_at_most p t u r m j k l h within most up other =
    up_at_most (h.x r) h.d m j k l most (up_shown h.d (h.x r) m k (dual_at p t r) h.one.positive (h.one.shows r within) up)
    (up_shown h.d (h.x r) j l (dual_at p t r) h.one.positive (h.one.shows r within) other)

-- So a great dual over m is great over each greater denominator, and no dual of 63 bits is written there.
not_great_below : (p : ProgramDef) (t u : Table) (m : ℕ) (w : DualDef) → ShareDuals p t u → IsRoundedDual p t w → m ≤ w.den
    → HasGreatDual p t m → ⊥
not_great_below p t u m w h is most great =
    let r : ℕ = great.0 in
    let more : great.2 ≤ slice_index w.num r
    = dual_at_most p t u r m w.den great.2 (slice_index w.num r) h great.1 most great.3 (is.rounded r great.1) in
    too_small great.2 (slice_index w.num r) (2 ^ 63) great.4 more (is.small r great.1)
  where
    too_small : (a b c : ℕ) → c ≤ a → a ≤ b → b < c → ⊥
    too_small a b c h l k = omega arith

found_rounded : (p : ProgramDef) (t : Table) (w : DualDef) → IsFoundDual p t w → IsRoundedDual p t w
found_rounded p t w (inl lowest) = lowest.exact.rounded
found_rounded p t w (inr none) = none.1.rounded

-- If a dual is written, then no end is too great.
pub written_fits : (p : ProgramDef) (k j : ℕ) (t u : Table) (d : DualDef) → IsEndAfter p k t → IsEndAfter p j u → IsFoundDual p t d
    → HasGreatDual p u 1 → ⊥
written_fits p k j t u d end other found great =
    let h : ShareDuals p t u = share_duals p k j t u end other in
    let is : IsRoundedDual p t d = found_rounded p t d found in
    not_great_below p t u 1 d h is is.positive (great_moves p u t 1 (the_other_way p t u h) great)

dual_is : (d e : DualDef) → d.den ≡ e.den → d.num ≡ e.num → d ≡ e
dual_is d e p q = ap₂ (λ (m : ℕ) (ks : List ℕ). let a : DualDef = record { den = m; num = ks } in a) p q

-- Over one denominator there is one rounded dual.
rounded_once : (p : ProgramDef) (t u : Table) (d e : DualDef) → ShareDuals p t u → d.den ≡ e.den → IsRoundedDual p t d
    → IsRoundedDual p t e → d ≡ e
rounded_once p t u d e h dens is other =
    dual_is d e dens
    (same_number_lists d.num e.num (is.number_each ∙ sym other.number_each) (λ r l.
    let within : r < height p = rw (← is.number_each) l in
    let up : slice_index d.num r ≤ slice_index e.num r
    = dual_at_most p t u r d.den e.den (slice_index d.num r) (slice_index e.num r) h within (omega (arith, dens)) (is.rounded r within)
    (other.rounded r within) in
    let back : slice_index e.num r ≤ slice_index d.num r
    = dual_at_most p t u r e.den d.den (slice_index e.num r) (slice_index d.num r) h within (omega (arith, dens)) (other.rounded r within)
    (is.rounded r within) in
    omega (arith, up, back)))

-- No rounded dual is over a greater power of two than the finest.
pub power_most : (p : ProgramDef) (t u : Table) (d e : DualDef) (m : ℕ) → ShareDuals p t u → (is : IsFinestDual p t d) → IsRoundedDual p t e
    → e.den ≡ 2 ^ m → m ≤ is.power
power_most p t u d e m h is other den = elim (cases_lt is.power m) [
  | inr most ↦ most
  | inl later ↦
      let small : 2 ^ m < 2 ^ 63 = rw (← den) other.small_den in
      let least : m < 63 = elim (cases_lt m 63) [
        | inl few ↦ few
        | inr many ↦ absurd (clash (2 ^ m) (2 ^ 63) small (pow_mono many))
      ] in
      elim is.greatest [
        | inl most ↦ absurd (omega (arith, most, least, later))
        | inr great ↦
            let up : 2 ^ (is.power + 1) ≤ e.den = rw den (pow_mono (omega (arith, later))) in
            absurd (not_great_below p t u (2 ^ (is.power + 1)) e h other up great)
      ]
]
  where
    clash : (a b : ℕ) → a < b → b ≤ a → ⊥
    clash a b h l = omega arith

found_once : (p : ProgramDef) (t u : Table) (d e : DualDef) → ShareDuals p t u → IsFoundDual p t d → IsFoundDual p t e → d ≡ e
found_once p t u d e h (inl one) (inl other) =
    let up : d.den ≤ e.den = one.least e other.exact in
    let back : e.den ≤ d.den = other.least d one.exact in
    rounded_once p t u d e h (omega (arith, up, back)) one.exact.rounded other.exact.rounded
found_once p t u d e h (inl one) (inr none) = absurd (none.0 d one.exact)
found_once p t u d e h (inr none) (inl one) = absurd (none.0 e one.exact)
found_once p t u d e h (inr one) (inr other) =
    let up : other.1.power ≤ one.1.power = power_most p t u d e other.1.power h one.1 other.1.rounded other.1.den in
    let back : one.1.power ≤ other.1.power = power_most p t u e d one.1.power h other.1 one.1.rounded one.1.den in
    let powers : one.1.power ≡ other.1.power = omega (arith, up, back) in
    rounded_once p t u d e h (one.1.den ∙ (ap (λ (n : ℕ). 2 ^ n) powers ∙ sym other.1.den)) one.1.rounded other.1.rounded

-- One dual is written.
pub written_once : (p : ProgramDef) (k j : ℕ) (t u : Table) (d e : DualDef) → IsEndAfter p k t → IsEndAfter p j u → IsFoundDual p t d
    → IsFoundDual p u e → d ≡ e
written_once p k j t u d e end other found written =
    let h : ShareDuals p t u = share_duals p k j t u end other in
    found_once p t u d e h found (found_moves p u t e (the_other_way p t u h) written)

-- The total of an exact dual over its denominator is the optimum.
exact_optimum : (p : ProgramDef) (k : ℕ) (t : Table) (w : DualDef) → IsEndAfter p k t → IsExactDual p t w
    → IsOptimum p (dual_total p (λ r. slice_index w.num r)) w.den
exact_optimum p k t w end is =
    let behind : (d : ℤ) × (z : ℕ → ℕ → ℤ) × IsShadow p t d z = shadow_over IsFraction p k t are_fractions end.reached in
    let s : ℕ = scale_of behind.0 in
    let numbers : ℕ → ℕ = dual_num p behind.1 in
    let duals : AreDualNumbers p t s numbers = numbers_behind p t behind.0 behind.1 behind.2 end.last in
    let same : (r : ℕ) → r < height p → slice_index w.num r * s ≡ numbers r * w.den
    = λ r l. same_natural (slice_index w.num r * s) (numbers r * w.den)
    (scaled_shown (pos s) (pos (numbers r)) (dual_at p t r) w.den (slice_index w.num r) (duals.shows r l) (is.exact r l)) in
    optimum_at p (dual_total p numbers) s (dual_total p (λ r. slice_index w.num r)) w.den (omega (arith, is.rounded.positive))
    (sym (scaled_total p s w.den numbers (λ r. slice_index w.num r) same))
    (optimum_of p t behind.0 behind.1 behind.2 end.last)

found_exact : (p : ProgramDef) (t : Table) (w d : DualDef) → IsExactDual p t w → IsFoundDual p t d → IsExactDual p t d
found_exact p t w d is (inl lowest) = lowest.exact
found_exact p t w d is (inr none) = absurd (none.0 w is)

-- If there is an exact dual, then the one that is written has the optimum as its value.
pub written_keeps : (p : ProgramDef) (k j : ℕ) (t u : Table) (w d : DualDef) → IsEndAfter p k t → IsEndAfter p j u → IsExactDual p t w
    → IsFoundDual p u d → IsGreatestReached p (dual_value p d.den (λ r. slice_index d.num r))
written_keeps p k j t u w d end other is found =
    let h : ShareDuals p t u = share_duals p k j t u end other in
    let at : IsExactDual p u w = exact_moves p t u w h is in
    optimum_reached p (dual_total p (λ r. slice_index d.num r)) d.den
    (exact_optimum p j u d other (found_exact p u w d at found))
