-- A program's run ends in one way, and so does a walk.
use Rattle.std.proofs.Common.{◌≡◌, ◌∙◌, ◌⊎◌, inl, inr, ℕ, ◌+◌, ◌*◌, ◌^◌, ◌<◌, ◌≤◌, List, length, refl, sym, ap, subst, arith}
use Rattle.std.proofs.Common.{ap₂, ℤ, pos, ◌*ℤ◌, ◌≤ℤ◌, ◌<ℤ◌, unsigned_abs}
use Rattle.std.specs.Prelude.{slice_index, max}
use Rattle.std.proofs.Math.Nat.{mul-le-mul_left, mul-le-mul_right, le_of_mul-le-mul_right, lt_of_mul-lt-mul_right}
use Rattle.std.proofs.Math.Pow.{pow_mono}
use Rattle.std.proofs.lemmas.Bool.{cases_lt}
use Rattle.std.proofs.lemmas.Grind.{same_number_lists}
use Rattle.std.proofs.lemmas.Int.{unsigned_abs-mul}
use Rattle.number_laws.specs.WholeSums.{only_at}
use Rattle.number_laws.proofs.TotalLaws.{total_below-agree}
use Rattle.fraction128.proofs.Unique.{size_positive}
use Rattle.program_form.specs.Certificate.{DualDef}
use Rattle.program_form.specs.Program.{ProgramDef, columns, height}
use Rattle.program_form.proofs.Duality.{one_greatest}
use Rattle.program_sources.specs.Recurrence.{SourceDef, response_with}
use Rattle.exchange_runs.specs.Exchange.{IsEntering}
use Rattle.exchange_runs.specs.Table.{Table, variables, objective}
use Rattle.exchange_runs.specs.Unbounded.{FreelyReached}
use Rattle.exchange_runs.proofs.Best.{scale_of, value_z, point_of, scaled_shown, column_shows}
use Rattle.exchange_runs.proofs.Ends.{at_variable}
use Rattle.exchange_runs.proofs.FreeRuns.{FreeTrace, trace_of, state_at}
use Rattle.exchange_runs.proofs.FreeStates.{State}
use Rattle.exchange_runs.proofs.Shadows.{IsShadow}
use Rattle.exchange_runs.proofs.Shown.{shows_above, shows_at_most_zero}
use Rattle.free_search.specs.Ends.{IsEndAfter, IsPointOf, NeedsMoreThan}
use Rattle.free_search.specs.Rounding.{IsDown, IsExact, AreWritten, AreInLowestTerms, HaveNoExact, AreWrittenDown}
use Rattle.refusal_laws.specs.Steps.{whole_worth}
use Rattle.response_fixpoint.specs.Rounds.{Valued, TooWide, OutOfUnits, Ending, EndsIn}
use Rattle.response_fixpoint.proofs.OneEnd.{HaveOneEnd, one_end}
use Rattle.settling.specs.Walks.{IsRoundedPoint, Reads, HasGreatPoint, IsWalked, WalkRuns, walk}
use Rattle.settling.specs.declared.finding.Points.{Points}
use Rattle.settling.specs.declared.finding.Points.TheVariants.{Exact, Rounded}
use Rattle.exchange_runs.proofs.OneEnd.{IsSameState, not_both, same_tables, no_later_end}
use Rattle.settling.proofs.BitLaws.{EndsFit, EndsOnce}
use Rattle.settling.proofs.FindingLaws.{EndsAtGreatest}

-- After as many exchanges as at an end nothing enters.
nothing_enters : (p : ProgramDef) (k e : ℕ) (t u : Table) → IsEndAfter p k t → FreelyReached p k u → IsEntering p u e → ⊥
nothing_enters p k e t u end other enters =
    let h : FreeTrace p k t = trace_of p k t end.reached in
    let g : FreeTrace p k u = trace_of p k u other in
    let same : IsSameState p (h.states k) (g.states k) = same_tables p k k k t u h g (omega arith) (omega arith) in
    let cell : g.z (height p) e ≡ h.z (height p) e =
    ap (λ (s : State). s.z (height p) e) (sym g.at_end) ∙ (sym (same.z (height p) e) ∙ ap (λ (s : State). s.z (height p) e) h.at_end) in
    let above : pos 0 <ℤ g.z (height p) e =
    shows_above g.d (g.z (height p) e) (objective p u e) g.shadow.positive (g.shadow.shows (height p) e (omega arith)) enters.above in
    let none : h.z (height p) e ≤ℤ pos 0 =
    shows_at_most_zero h.d (h.z (height p) e) (objective p t e) h.shadow.positive (h.shadow.shows (height p) e (omega arith))
    (end.last.none e enters.within) in
    not_both (g.z (height p) e) (h.z (height p) e) cell above none

-- A run that ends within its units doesn't need more. And all ends come after as many exchanges.
needs_no_more_units : (p : ProgramDef) (k units : ℕ) (t : Table) → IsEndAfter p k t → k < units → NeedsMoreThan p units → ⊥
needs_no_more_units p k units t end within (inl none) = omega (arith, none, within)
needs_no_more_units p k units t end within (inr (j, u, e, sum, other, enters)) =
    let most : j ≤ k = no_later_end p k j t u end.reached end.last other in
    let same : j ≡ k = omega (arith, most, sum, within) in
    nothing_enters p k e t u end (subst (λ (n : ℕ). FreelyReached p n u) same other) enters

one_number : (p : ProgramDef) (k j : ℕ) (t u : Table) → IsEndAfter p k t → IsEndAfter p j u → k ≡ j
one_number p k j t u end other =
    let back : j ≤ k = no_later_end p k j t u end.reached end.last other.reached in
    let forth : k ≤ j = no_later_end p j k u t other.reached other.last end.reached in
    omega (arith, back, forth)

-- Are these the same numbers, over two denominators?
record AreSame (num other : List ℕ) (d e : ℕ) : Type 0 where
  size : length num ≡ length other
  positive : 0 < d
  above : 0 < e
  each : (r : ℕ) → r < length num → slice_index num r * e ≡ slice_index other r * d

-- The number of a column over a denominator is its number behind the table.
column_same : (p : ProgramDef) (t : Table) (d : ℤ) (z : ℕ → ℕ → ℤ) (den : ℕ) (num : List ℕ) (c : ℕ) → IsShadow p t d z
    → IsPointOf p t den num → c < columns p → slice_index num c * scale_of d ≡ point_of p t z c * den
column_same p t d z den num c h point l =
    let value = point.values c l in
    let same : pos (slice_index num c) *ℤ d ≡ value_z p t z c *ℤ pos den =
    scaled_shown d (value_z p t z c) value.0 den (slice_index num c) (column_shows p t d z c value.0 h value.1) value.2 in
    sym (unsigned_abs-mul (pos (slice_index num c)) d) ∙ (ap unsigned_abs same ∙ unsigned_abs-mul (value_z p t z c) (pos den))

same_point : (p : ProgramDef) (s u : State) (c : ℕ) → IsSameState p s u
    → at_variable (height p) s.basic (λ i. s.z i (variables p)) c ≡ at_variable (height p) u.basic (λ i. u.z i (variables p)) c
same_point p s u c same =
    total_below-agree (height p) (λ i. only_at (s.basic i) (s.z i (variables p)) c) (λ i. only_at (u.basic i) (u.z i (variables p)) c)
    (λ i l. ap₂ (λ (b : ℕ) (x : ℤ). only_at b x c) (same.basic i l) (same.z i (variables p)))

same_ratio : (n m a b x y s t : ℕ) → 0 < s → n * s ≡ x * a → m * t ≡ y * b → s ≡ t → x ≡ y → n * b ≡ m * a
same_ratio n m a b x y s t positive one two scales points =
    let first : n * s * b ≡ x * a * b = ap (λ k. k * b) one in
    let second : m * s * a ≡ x * b * a = ap (λ k. k * a) (ap (λ k. m * k) scales ∙ (two ∙ ap (λ k. k * b) (sym points))) in
    let most : n * b ≤ m * a = le_of_mul-le-mul_right {k = s} (omega (arith, first, second)) positive in
    let least : m * a ≤ n * b = le_of_mul-le-mul_right {k = s} (omega (arith, first, second)) positive in
    omega (arith, most, least)

-- The points of two ends are the same numbers.
points_at : (p : ProgramDef) (k : ℕ) (t u : Table) (den over : ℕ) (num other : List ℕ) → FreelyReached p k t → FreelyReached p k u
    → IsPointOf p t den num → IsPointOf p u over other → AreSame num other den over
points_at p k t u den over num other reached too one two =
    let h : FreeTrace p k t = trace_of p k t reached in
    let g : FreeTrace p k u = trace_of p k u too in
    let tables : IsSameState p (h.states k) (g.states k) = same_tables p k k k t u h g (omega arith) (omega arith) in
    let here : IsSameState p (state_at t h.d h.z) (g.states k) =
    subst (λ (s : State). IsSameState p s (g.states k)) h.at_end tables in
    let same : IsSameState p (state_at t h.d h.z) (state_at u g.d g.z) =
    subst (λ (s : State). IsSameState p (state_at t h.d h.z) s) g.at_end here in
    record {
      size = one.value_each ∙ sym two.value_each;
      positive = one.positive;
      above = two.positive;
      each = λ c l.
          let within : c < columns p = rw (← one.value_each) l in
          same_ratio (slice_index num c) (slice_index other c) den over (point_of p t h.z c) (point_of p u g.z c) (scale_of h.d)
          (scale_of g.d) (size_positive h.d h.shadow.positive) (column_same p t h.d h.z den num c h.shadow one within)
          (column_same p u g.d g.z over other c g.shadow two within) (ap unsigned_abs same.d)
          (ap unsigned_abs (same_point p (state_at t h.d h.z) (state_at u g.d g.z) c same));
    }

points_agree : (p : ProgramDef) (k j : ℕ) (t u : Table) (den over : ℕ) (num other : List ℕ) → IsEndAfter p k t → IsEndAfter p j u
    → IsPointOf p t den num → IsPointOf p u over other → AreSame num other den over
points_agree p k j t u den over num other end too one two =
    let number : j ≡ k = sym (one_number p k j t u end too) in
    points_at p k t u den over num other end.reached (subst (λ (n : ℕ). FreelyReached p n u) number too.reached) one two

-- What is said of the number n over d holds of the same number, k over e.
at_most_moves : (a n k m d e : ℕ) → 0 < d → n * e ≡ k * d → a * d ≤ n * m → a * e ≤ k * m
at_most_moves a n k m d e positive same most =
    le_of_mul-le-mul_right {k = d} (omega (arith, mul-le-mul_right e most, ap (λ x. x * m) same)) positive

at_least_moves : (a n k m d e : ℕ) → 0 < d → n * e ≡ k * d → n * m ≤ a * d → k * m ≤ a * e
at_least_moves a n k m d e positive same least =
    le_of_mul-le-mul_right {k = d} (omega (arith, mul-le-mul_right e least, ap (λ x. x * m) same)) positive

exact_moves : (n k m x d e : ℕ) → 0 < d → n * e ≡ k * d → IsExact n d m x → IsExact k e m x
exact_moves n k m x d e positive same is =
    let most : x * e ≤ k * m = at_most_moves x n k m d e positive same (omega (arith, is)) in
    let least : k * m ≤ x * e = at_least_moves x n k m d e positive same (omega (arith, is)) in
    omega (arith, most, least)

down_moves : (n k m x d e : ℕ) → 0 < d → 0 < e → n * e ≡ k * d → IsDown n d m x → IsDown k e m x
down_moves n k m x d e positive above same (most, less) = (at_most_moves x n k m d e positive same most, below)
  where
    past : (n k m x d e : ℕ) → 0 < e → n * e ≡ k * d → n * m < x * d + d → x * e + e ≤ k * m → ⊥
    past n k m x d e above same less most =
        let back : (x + 1) * d ≤ n * m = at_most_moves (x + 1) k n m e d above (sym same) (omega (arith, most)) in
        omega (arith, back, less)

    below : k * m < x * e + e
    below = elim (cases_lt (k * m) (x * e + e)) [ inl few ↦ few | inr many ↦ absurd (past n k m x d e above same less many) ]

written_exact_moves : (num other : List ℕ) (d e : ℕ) (w : DualDef) → AreSame num other d e → AreWritten IsExact num d w
    → AreWritten IsExact other e w
written_exact_moves num other d e w same is = record {
  as_many = is.as_many ∙ same.size;
  positive = is.positive;
  small_den = is.small_den;
  each = λ r l.
      let here : r < length num = rw same.size l in
      exact_moves (slice_index num r) (slice_index other r) w.den (slice_index w.num r) d e same.positive (same.each r here)
      (is.each r here);
  small = λ r l. is.small r (rw same.size l);
}

written_down_moves : (num other : List ℕ) (d e : ℕ) (w : DualDef) → AreSame num other d e → AreWritten IsDown num d w
    → AreWritten IsDown other e w
written_down_moves num other d e w same is = record {
  as_many = is.as_many ∙ same.size;
  positive = is.positive;
  small_den = is.small_den;
  each = λ r l.
      let here : r < length num = rw same.size l in
      down_moves (slice_index num r) (slice_index other r) w.den (slice_index w.num r) d e same.positive same.above (same.each r here)
      (is.each r here);
  small = λ r l. is.small r (rw same.size l);
}

the_other_way : (num other : List ℕ) (d e : ℕ) → AreSame num other d e → AreSame other num e d
the_other_way num other d e same = record {
  size = sym same.size;
  positive = same.above;
  above = same.positive;
  each = λ r l. sym (same.each r (rw same.size l));
}

-- Has some number over m more than 63 bits?
abbrev AreGreatOver : List ℕ → ℕ → ℕ → Type 0
AreGreatOver num d m = (r : ℕ) × (r < length num) × (2 ^ 63 * d ≤ slice_index num r * m)

great_moves : (num other : List ℕ) (d e m : ℕ) → AreSame num other d e → AreGreatOver num d m → AreGreatOver other e m
great_moves num other d e m same (r, here, great) = (
  r,
  rw (← same.size) here,
  at_most_moves (2 ^ 63) (slice_index num r) (slice_index other r) m d e same.positive (same.each r here) great,
)

-- Are these the numbers rounded down, over the greatest power of two at which all of them have 63 bits?
record AreFinest (num : List ℕ) (d : ℕ) (w : DualDef) : Type 0 where
  power : ℕ
  den : w.den ≡ 2 ^ power
  written : AreWritten IsDown num d w
  greatest : (power ≡ 62) ⊎ AreGreatOver num d (2 ^ (power + 1))

-- Are they those, or in lowest terms? This is what `AreWrittenDown` says.
abbrev AreDown : List ℕ → ℕ → DualDef → Type 0
AreDown num d w = AreInLowestTerms num d w ⊎ (HaveNoExact num d × AreFinest num d w)

down_of : (num : List ℕ) (d : ℕ) (w : DualDef) → AreWrittenDown num d w → AreDown num d w
down_of num d w (inl lowest) = inl lowest
down_of num d w (inr (none, is)) = inr (
  none,
  record {
    power = is.power;
    den = is.den;
    written = record {
      as_many = is.rounded.as_many;
      positive = is.rounded.positive;
      small_den = is.rounded.small_den;
      each = λ r l. is.rounded.each r l;
      small = is.rounded.small;
    };
    greatest = elim is.greatest [ inl most ↦ inl most | inr great ↦ inr (great.0, great.1, great.2) ];
  },
)

numbers_move : (num other : List ℕ) (d e : ℕ) (w : DualDef) → AreSame num other d e → AreDown num d w → AreDown other e w
numbers_move num other d e w same (inl lowest) = inl record {
  exact = written_exact_moves num other d e w same lowest.exact;
  least = λ v is. lowest.least v (written_exact_moves other num e d v (the_other_way num other d e same) is);
}
numbers_move num other d e w same (inr (none, is)) = inr (
  λ v exact. none v (written_exact_moves other num e d v (the_other_way num other d e same) exact),
  record {
    power = is.power;
    den = is.den;
    written = written_down_moves num other d e w same is.written;
    greatest = elim is.greatest [ inl most ↦ inl most | inr great ↦ inr (great_moves num other d e (2 ^ (is.power + 1)) same great) ];
  },
)

-- Numbers that are rounded down have 63 bits over no greater denominator than where they are great.
no_room : (big x n m a d : ℕ) → big * d ≤ n * m → m ≤ a → n * a < x * d + d → x < big → ⊥
no_room big x n m a d great most less small =
    let grows : n * m ≤ n * a = mul-le-mul_left n most in
    let within : (x + 1) * d ≤ big * d = mul-le-mul_right d (omega (arith, small)) in
    omega (arith, great, grows, less, within)

not_great_below : (num : List ℕ) (d m : ℕ) (w : DualDef) → AreWritten IsDown num d w → m ≤ w.den → AreGreatOver num d m → ⊥
not_great_below num d m w is most (r, here, great) =
    no_room (2 ^ 63) (slice_index w.num r) (slice_index num r) m w.den d great most (is.each r here).1 (is.small r here)

exact_is_down : (num : List ℕ) (d : ℕ) (w : DualDef) → 0 < d → AreWritten IsExact num d w → AreWritten IsDown num d w
exact_is_down num d w positive is = record {
  as_many = is.as_many;
  positive = is.positive;
  small_den = is.small_den;
  each = λ r l. (omega (arith, is.each r l), omega (arith, is.each r l, positive));
  small = is.small;
}

down_is_written : (num : List ℕ) (d : ℕ) (w : DualDef) → 0 < d → AreDown num d w → AreWritten IsDown num d w
down_is_written num d w positive (inl lowest) = exact_is_down num d w positive lowest.exact
down_is_written num d w positive (inr (none, is)) = is.written

-- Over one denominator they are rounded down in one way.
at_most_once : (n m a d x y : ℕ) → m ≡ a → x * d ≤ n * m → n * a < y * d + d → x ≤ y
at_most_once n m a d x y same most less =
    let equal : n * m ≡ n * a = ap (λ k. n * k) same in
    let below : x < y + 1 = lt_of_mul-lt-mul_right d (omega (arith, equal, most, less)) in
    omega (arith, below)

dual_is : (v w : DualDef) → v.den ≡ w.den → v.num ≡ w.num → v ≡ w
dual_is v w p q = ap₂ (λ (m : ℕ) (ks : List ℕ). let a : DualDef = record { den = m; num = ks } in a) p q

written_once : (num : List ℕ) (d : ℕ) (v w : DualDef) → v.den ≡ w.den → AreWritten IsDown num d v → AreWritten IsDown num d w → v ≡ w
written_once num d v w dens one two =
    dual_is v w dens (same_number_lists v.num w.num (one.as_many ∙ sym two.as_many) (λ r l.
    let here : r < length num = rw (← one.as_many) l in
    let up : slice_index v.num r ≤ slice_index w.num r = at_most_once (slice_index num r) v.den w.den d (slice_index v.num r)
    (slice_index w.num r) dens (one.each r here).0 (two.each r here).1 in
    let back : slice_index w.num r ≤ slice_index v.num r = at_most_once (slice_index num r) w.den v.den d (slice_index w.num r)
    (slice_index v.num r) (sym dens) (two.each r here).0 (one.each r here).1 in
    omega (arith, up, back)))

-- And over one power of two.
finest_most : (num : List ℕ) (d : ℕ) (v w : DualDef) → (one : AreFinest num d v) → (two : AreFinest num d w) → two.power ≤ one.power
finest_most num d v w one two = elim (cases_lt one.power two.power) [
  | inr most ↦ most
  | inl later ↦
      let small : 2 ^ two.power < 2 ^ 63 = rw (← two.den) two.written.small_den in
      let least : two.power < 63 = elim (cases_lt two.power 63) [
        | inl few ↦ few
        | inr many ↦ absurd (clash (2 ^ two.power) (2 ^ 63) small (pow_mono many))
      ] in
      elim one.greatest [
        | inl most ↦ absurd (omega (arith, most, least, later))
        | inr great ↦
            let up : 2 ^ (one.power + 1) ≤ w.den = rw two.den (pow_mono (omega (arith, later))) in
            absurd (not_great_below num d (2 ^ (one.power + 1)) w two.written up great)
      ]
]
  where
    clash : (a b : ℕ) → a < b → b ≤ a → ⊥
    clash a b h l = omega arith

down_once : (num : List ℕ) (d : ℕ) (v w : DualDef) → 0 < d → AreDown num d v → AreDown num d w → v ≡ w
down_once num d v w positive (inl one) (inl two) =
    let up : v.den ≤ w.den = one.least w two.exact in
    let back : w.den ≤ v.den = two.least v one.exact in
    written_once num d v w (omega (arith, up, back)) (exact_is_down num d v positive one.exact) (exact_is_down num d w positive two.exact)
down_once num d v w positive (inl one) (inr (none, two)) = absurd (none v one.exact)
down_once num d v w positive (inr (none, one)) (inl two) = absurd (none w two.exact)
down_once num d v w positive (inr (none, one)) (inr (no_other, two)) =
    let up : two.power ≤ one.power = finest_most num d v w one two in
    let back : one.power ≤ two.power = finest_most num d w v two one in
    let powers : one.power ≡ two.power = omega (arith, up, back) in
    written_once num d v w (one.den ∙ (ap (λ (n : ℕ). 2 ^ n) powers ∙ sym two.den)) one.written two.written

-- So one rounded point is read, and no end is too great for it.
point_once : (p : ProgramDef) (k j : ℕ) (t u : Table) (v w : DualDef) → IsEndAfter p k t → IsEndAfter p j u → IsRoundedPoint p t v
    → IsRoundedPoint p u w → v ≡ w
point_once p k j t u v w end too (den, num, point, written) (over, other, at, as_well) =
    let same : AreSame other num over den = points_agree p j k u t over den other num too end at point in
    down_once num den v w point.positive (down_of num den v written)
    (numbers_move other num over den w same (down_of other over w as_well))

point_fits : (p : ProgramDef) (k j : ℕ) (t u : Table) (v : DualDef) → IsEndAfter p k t → IsEndAfter p j u → IsRoundedPoint p t v
    → HasGreatPoint Rounded p u → ⊥
point_fits p k j t u v end too (den, num, point, written) (over, other, at, (r, here, great)) =
    let same : AreSame other num over den = points_agree p j k u t over den other num too end at point in
    let is : AreWritten IsDown num den v = down_is_written num den v point.positive (down_of num den v written) in
    not_great_below num den 1 v is is.positive (great_moves other num over den 1 same (r, here, great))

-- The ticks that are read are one.
one_reading : (points : Points) (p : ProgramDef) (k j : ℕ) (t u : Table) (m n : ℕ) → EndsAtGreatest → IsEndAfter p k t → IsEndAfter p j u
    → Reads points p t m → Reads points p u n → m ≡ n
one_reading Exact p k j t u m n at end too one two = one_greatest p m n (at p k t m end one) (at p j u n too two)
one_reading Rounded p k j t u m n at end too (v, point, is) (w, other, are) =
    is ∙ (ap (λ (x : DualDef). whole_worth p x) (point_once p k j t u v w end too point other) ∙ sym are)

-- Where ticks are read, the point isn't too great.
no_great_point : (points : Points) (p : ProgramDef) (k j : ℕ) (t u : Table) (ticks : ℕ) → IsEndAfter p k t → IsEndAfter p j u
    → Reads points p t ticks → HasGreatPoint points p u → ⊥
no_great_point Exact p k j t u ticks end too reads great = great
no_great_point Rounded p k j t u ticks end too (v, point, is) great = point_fits p k j t u v end too point great

-- What is walked is one.
walked_once : (points : Points) (f : SourceDef) (r : List ℕ) (i left used value later last : ℕ) (dual other : DualDef) → EndsOnce
    → EndsAtGreatest → IsWalked points f r i left used value dual → IsWalked points f r i left later last other
    → Valued used value dual ≡ Valued later last other
walked_once points f r i left used value later last dual other once at one two =
    let p : ProgramDef = f.program i r in
    let number : one.exchanges ≡ two.exchanges = one_number p one.exchanges two.exchanges one.table two.table one.end two.end in
    let units : used ≡ later = omega (arith, number, one.units, two.units) in
    let ticks : one.ticks ≡ two.ticks =
    one_reading points p one.exchanges two.exchanges one.table two.table one.ticks two.ticks at one.end two.end one.reads two.reads in
    let values : value ≡ last =
    one.value_is ∙ (ap (λ (n : ℕ). max (response_with f r i n) (slice_index r i)) ticks ∙ sym two.value_is) in
    let duals : dual ≡ other =
    once p one.exchanges two.exchanges one.table two.table dual other one.end two.end one.dual_is two.dual_is in
    ap (λ (n : ℕ). Valued n value dual) units
    ∙ (ap (λ (n : ℕ). Valued later n dual) values ∙ ap (λ (d : DualDef). Valued later last d) duals)

walked_not_wide : (points : Points) (f : SourceDef) (r : List ℕ) (i left used value : ℕ) (dual : DualDef) → EndsFit → EndsAtGreatest
    → IsWalked points f r i left used value dual → WalkRuns points f r i left TooWide → ⊥
walked_not_wide points f r i left used value dual fit at walked (k, t, within, end, inl (inl great)) =
    fit (f.program i r) walked.exchanges k walked.table t dual walked.end end walked.dual_is great
walked_not_wide points f r i left used value dual fit at walked (k, t, within, end, inl (inr (n, floor, great))) =
    let p : ProgramDef = f.program i r in
    let same : n ≡ walked.whole =
    one_greatest p n walked.whole (at p k t n end floor) (at p walked.exchanges walked.table walked.whole walked.end walked.floor) in
    omega (arith, same, great, walked.counted)
walked_not_wide points f r i left used value dual fit at walked (k, t, within, end, inr (inl great)) =
    no_great_point points (f.program i r) walked.exchanges k walked.table t walked.ticks walked.end end walked.reads great
walked_not_wide points f r i left used value dual fit at walked (k, t, within, end, inr (inr (ticks, reads, great))) =
    let same : walked.ticks ≡ ticks =
    one_reading points (f.program i r) walked.exchanges k walked.table t walked.ticks ticks at walked.end end walked.reads reads in
    omega (arith, same, great, walked.small)

walked_not_more : (points : Points) (f : SourceDef) (r : List ℕ) (i left used value : ℕ) (dual : DualDef)
    → IsWalked points f r i left used value dual → WalkRuns points f r i left OutOfUnits → ⊥
walked_not_more points f r i left used value dual walked more =
    needs_no_more_units (f.program i r) walked.exchanges left walked.table walked.end (omega (arith, walked.units, walked.within)) more

wide_not_more : (points : Points) (f : SourceDef) (r : List ℕ) (i left : ℕ) → WalkRuns points f r i left TooWide
    → WalkRuns points f r i left OutOfUnits → ⊥
wide_not_more points f r i left (k, t, within, end, past) more = needs_no_more_units (f.program i r) k left t end within more

-- So each run of the walk has one end.
runs_once : (points : Points) (f : SourceDef) → EndsFit → EndsOnce → EndsAtGreatest → HaveOneEnd (walk points f)
runs_once points f fit once at r i left (Valued u v d) (Valued x y e) p q = walked_once points f r i left u v x y d e once at p q
runs_once points f fit once at r i left (Valued u v d) TooWide p q =
    absurd (walked_not_wide points f r i left u v d fit at p q)
runs_once points f fit once at r i left (Valued u v d) OutOfUnits p q = absurd (walked_not_more points f r i left u v d p q)
runs_once points f fit once at r i left TooWide (Valued u v d) p q =
    absurd (walked_not_wide points f r i left u v d fit at q p)
runs_once points f fit once at r i left TooWide TooWide p q = refl
runs_once points f fit once at r i left TooWide OutOfUnits p q = absurd (wide_not_more points f r i left p q)
runs_once points f fit once at r i left OutOfUnits (Valued u v d) p q = absurd (walked_not_more points f r i left u v d q p)
runs_once points f fit once at r i left OutOfUnits TooWide p q = absurd (wide_not_more points f r i left q p)
runs_once points f fit once at r i left OutOfUnits OutOfUnits p q = refl

pub walk_once : (points : Points) (f : SourceDef) → EndsFit → EndsOnce → EndsAtGreatest → (allowance : ℕ) (e g : Ending)
    → EndsIn (walk points f) allowance e → EndsIn (walk points f) allowance g → e ≡ g
walk_once points f fit once at = one_end (walk points f) (runs_once points f fit once at)
