-- A run over unbounded fractions goes on until no objective cell is above zero, and what it ends at is the optimum.
use Rattle.std.proofs.Common.{◌≡◌, ◌⊎◌, inl, inr, ℕ, zero, suc, ◌+◌, ◌*◌, ◌^◌, ◌<◌, ◌≤◌, List, length, slice_index, ℤ}
use Rattle.std.proofs.Common.{pos, ◌-ℤ◌, ◌*ℤ◌, ◌<ℤ◌, refl, ap, sym, subst, arith, if◌then◌else◌, nat_eq}
use Rattle.std.proofs.lemmas.Bool.{eq-eqb, ne_eqb}
use Rattle.number_laws.proofs.Order.{times_positive}
use Rattle.number_laws.specs.Sums.{sum_below}
use Rattle.number_laws.proofs.SumLaws.{sum_below-agree}
use Rattle.fraction128.specs.Fraction.{Fraction, IsQuotient, over, whole}
use Rattle.program_form.specs.Program.{ProgramDef, AreCovered, IsProgram, height, entry, limit}
use Rattle.program_form.specs.Certificate.{DualDef}
use Rattle.program_form.specs.Optimum.{IsOptimum}
use Rattle.program_form.specs.Duals.{Covers, IsOptimalDual, dual_total}
use Rattle.exchange_runs.specs.Table.{Table, variables, slack, first_number}
use Rattle.exchange_runs.specs.Exchange.{IsEntering, IsLast, HasRatio, IsLessOver, IsExchangeOver}
use Rattle.exchange_runs.specs.Readings.{value_of}
use Rattle.exchange_runs.specs.Feasible.{IsOptimumValue}
use Rattle.exchange_runs.specs.Outcomes.{EndsWithin, IsWideWithin}
use Rattle.exchange_runs.proofs.Leasts.{least_among}
use Rattle.exchange_runs.proofs.Shadows.{IsShadow, shadow_over}
use Rattle.exchange_runs.proofs.Bounded.{shadow_has_ratio}
use Rattle.exchange_runs.proofs.Found.{listed}
use Rattle.exchange_runs.proofs.Course.{entering_or_last, has_outcome}
use Rattle.exchange_runs.proofs.Best.{scale_of, dual_num, covers_of, optimum_of, optimum_value}
use Rattle.exchange_runs.specs.Unbounded.{IsFraction, FreelyReached}
use Rattle.exchange_runs.proofs.FreeRuns.{are_fractions, few_exchanges, freely}

-- a / b, f * y and a - b with no common divisor taken off
abbrev quotient : Fraction → Fraction → Fraction
quotient a b = over (a.num *ℤ b.den) (a.den *ℤ b.num)

abbrev product : Fraction → Fraction → Fraction
product f y = over (f.num *ℤ y.num) (f.den *ℤ y.den)

abbrev difference : Fraction → Fraction → Fraction
difference a b = over ((a.num *ℤ b.den) -ℤ (b.num *ℤ a.den)) (a.den *ℤ b.den)

less_exists : (a f y : Fraction) → pos 0 <ℤ a.den → pos 0 <ℤ f.den → pos 0 <ℤ y.den
    → IsLessOver IsFraction a f y (difference a (product f y))
less_exists a f y pa pf py = record {
  product = product f y;
  product_form = record { positive = times_positive f.den y.den pf py };
  is_product = record { same = refl };
  form = record { positive = times_positive a.den (f.den *ℤ y.den) pa (times_positive f.den y.den pf py) };
  is_difference = record { same = refl };
}

-- The table after an exchange.
abbrev table_after : Table → ℕ → ℕ → Table
table_after t e r = record {
  cell = λ i v. if nat_eq i r then quotient (t.cell r v) (t.cell r e) else difference (t.cell i v)
      (product (t.cell i e) (quotient (t.cell r v) (t.cell r e)));
  basic = λ i. if nat_eq i r then e else t.basic i;
}

cell_here : (t : Table) (e r v : ℕ) → (table_after t e r).cell r v ≡ quotient (t.cell r v) (t.cell r e)
cell_here t e r v = rw (eq-eqb r r refl) refl

cell_away : (t : Table) (e r i v : ℕ) → (i ≡ r → ⊥) → (table_after t e r).cell i v
    ≡ difference (t.cell i v) (product (t.cell i e) (quotient (t.cell r v) (t.cell r e)))
cell_away t e r i v away = rw (ne_eqb i r away) refl

basic_here : (t : Table) (e r : ℕ) → (table_after t e r).basic r ≡ e
basic_here t e r = rw (eq-eqb r r refl) refl

basic_away : (t : Table) (e r i : ℕ) → (i ≡ r → ⊥) → (table_after t e r).basic i ≡ t.basic i
basic_away t e r i away = rw (ne_eqb i r away) refl

-- Where a variable enters, a covered program's run goes on.
pub free_next : (p : ProgramDef) (k : ℕ) (t : Table) (e : ℕ) → AreCovered p → FreelyReached p k t → IsEntering p t e
    → (u : Table) × (r : ℕ) × IsExchangeOver IsFraction p t u e r
free_next p k t e covered reached enters =
    let behind : (d : ℤ) × (z : ℕ → ℕ → ℤ) × IsShadow p t d z = shadow_over IsFraction p k t are_fractions reached in
    let dens : (i v : ℕ) → i ≤ height p → pos 0 <ℤ (t.cell i v).den = λ i v l. (behind.2.shows i v l).positive in
    elim (least_among IsFraction (variables p) t e (height p) are_fractions (λ i l has. (
      quotient (t.cell i (variables p)) (t.cell i e),
      record {
        form = record {
          positive = times_positive (t.cell i (variables p)).den (t.cell i e).num
              (dens i (variables p) (omega arith)) has.above;
        };
        quotient = record { same = refl };
      },
    ))) [
      | inl none ↦
          let some : (i : ℕ) × (i < height p) × HasRatio t e i
          = shadow_has_ratio p t e behind.0 behind.1 covered behind.2 enters.within in
          absurd (none some.0 some.1 some.2)
      | inr least ↦
          let r : ℕ = least.0 in
          let within : r < height p = least.2.within in
          let divided : (v : ℕ) → pos 0 <ℤ (quotient (t.cell r v) (t.cell r e)).den
          = λ v. times_positive (t.cell r v).den (t.cell r e).num (dens r v (omega (arith, within))) least.2.has.above in (
            table_after t e r,
            r,
            record {
              enters = enters;
              leaves = record { ratio = least.1; least = least.2 };
              divided_form = λ v. subst IsFraction (sym (cell_here t e r v)) (record { positive = divided v });
              divided = λ v. subst (λ (f : Fraction). IsQuotient (t.cell r v) (t.cell r e) f) (sym (cell_here t e r v))
                  (record { same = refl });
              taken = λ i v l away.
                  subst (λ (y : Fraction). IsLessOver IsFraction (t.cell i v) (t.cell i e) y ((table_after t e r).cell i v))
                  (sym (cell_here t e r v))
                  (subst (λ (b : Fraction). IsLessOver IsFraction (t.cell i v) (t.cell i e) (quotient (t.cell r v) (t.cell r e)) b)
                  (sym (cell_away t e r i v away))
                  (less_exists (t.cell i v) (t.cell i e) (quotient (t.cell r v) (t.cell r e)) (dens i v l) (dens i e l) (divided v)));
              entered = basic_here t e r;
              stayed = λ i l away. basic_away t e r i away;
            },
          )
    ]

-- So each table is the last or has a next.
pub last_or_next : (p : ProgramDef) (k : ℕ) (t : Table) → AreCovered p → FreelyReached p k t → IsLast p t
    ⊎ ((u : Table) × FreelyReached p (suc k) u)
last_or_next p k t covered reached = elim (entering_or_last p t) [
  | inr last ↦ inl last
  | inl entering ↦
      let next : (u : Table) × (r : ℕ) × IsExchangeOver IsFraction p t u entering.0 r
      = free_next p k t entering.0 covered reached entering.1 in
      inr (next.0, (t, entering.0, next.1, reached, next.2))
]

goes_on : (p : ProgramDef) (n k : ℕ) (t : Table) → AreCovered p → FreelyReached p k t → k + n ≡ 2 ^ variables p → (j : ℕ) × (u : Table)
    × (FreelyReached p j u) × IsLast p u
goes_on p zero k t covered reached sum = absurd (too_many k (2 ^ variables p) sum (few_exchanges p k t reached))
  where
    too_many : (a b : ℕ) → a + 0 ≡ b → a < b → ⊥
    too_many a b e l = omega arith
goes_on p (suc n) k t covered reached sum = elim (last_or_next p k t covered reached) [
  | inl last ↦ (k, t, reached, last)
  | inr next ↦ goes_on p n (suc k) next.0 covered next.1 (one_more k n (2 ^ variables p) sum)
]
  where
    one_more : (a b c : ℕ) → a + suc b ≡ c → suc a + b ≡ c
    one_more a b c e = omega arith

-- The run of a covered program comes to an end.
pub free_run_ends : (p : ProgramDef) → AreCovered p → (k : ℕ) × (t : Table) × (FreelyReached p k t) × IsLast p t
free_run_ends p covered = goes_on p (2 ^ variables p) 0 first covered (record { cells = λ i v l. refl; basis = λ i l. refl })
    (none (2 ^ variables p))
  where
    first : Table
    first = record { cell = λ i v. whole (pos (first_number p i v)); basic = λ i. slack p i }

    none : (a : ℕ) → 0 + a ≡ a
    none a = omega arith

-- What it ends at is the optimum.
pub free_end_is_best : (p : ProgramDef) (k : ℕ) (t : Table) → FreelyReached p k t → IsLast p t → IsOptimumValue p (value_of p t)
free_end_is_best p k t reached last =
    let behind : (d : ℤ) × (z : ℕ → ℕ → ℤ) × IsShadow p t d z = shadow_over IsFraction p k t are_fractions reached in
    optimum_value p t behind.0 behind.1 behind.2 last

-- A dual by its function, as a list.
dual_listed : (p : ProgramDef) (den : ℕ) (num : ℕ → ℕ) → Covers p den num → IsOptimum p (dual_total p num) den → (d : DualDef)
    × IsOptimalDual p d
dual_listed p den num covers optimum =
    let list : (xs : List ℕ) × (length xs ≡ height p) × ((i : ℕ) → i < height p → slice_index xs i ≡ num i) = listed ℕ 0 (height p) num in
    let same : (by : ℕ → ℕ) → sum_below (height p) (λ r. num r * by r) ≡ sum_below (height p) (λ r. slice_index list.0 r * by r)
    = λ by. sum_below-agree (height p) (λ r. num r * by r) (λ r. slice_index list.0 r * by r)
    (λ r l. ap (λ x. x * by r) (sym (list.2 r l))) in (
      record { den = den; num = list.0 },
      record {
        feasible = record {
          number_each = list.1;
          covers = record { positive = covers.positive; covered = λ c l. omega (arith, covers.covered c l, same (λ r. entry p r c)) };
        };
        optimum = subst (λ (x : ℕ). IsOptimum p x den) (same (limit p)) optimum;
      },
    )

-- A covered program has an optimum, attained by a scaled point, and a feasible dual of the same value.
pub optimal_dual_exists : (p : ProgramDef) → AreCovered p → (d : DualDef) × IsOptimalDual p d
optimal_dual_exists p covered =
    let end : (k : ℕ) × (t : Table) × (FreelyReached p k t) × IsLast p t = free_run_ends p covered in
    let behind : (d : ℤ) × (z : ℕ → ℕ → ℤ) × IsShadow p end.1 d z = shadow_over IsFraction p end.0 end.1 are_fractions end.2 in
    dual_listed p (scale_of behind.0) (dual_num p behind.1) (covers_of p end.1 behind.0 behind.1 behind.2 end.3)
    (optimum_of p end.1 behind.0 behind.1 behind.2 end.3)

pub optimum_exists : (p : ProgramDef) → AreCovered p → (num : ℕ) × (den : ℕ) × IsOptimum p num den
optimum_exists p covered =
    let best : (d : DualDef) × IsOptimalDual p d = optimal_dual_exists p covered in
    (dual_total p (λ r. slice_index best.0.num r), best.0.den, best.1.optimum)

-- With more units than there are sets of variables a run ends or is wide.
pub enough_units : (p : ProgramDef) (units : ℕ) → IsProgram p → 2 ^ variables p < units
    → ((k : ℕ) × (value : Fraction) × (primal : List Fraction) × (d : DualDef) × EndsWithin p units k value primal d)
    ⊎ IsWideWithin p units
enough_units p units accepted many = elim (has_outcome p units accepted) [
  | inl ends ↦ inl ends
  | inr other ↦ elim other [
    | inl wide ↦ inr wide
    | inr more ↦ absurd (elim more [
      | inl none ↦ not_none (2 ^ variables p) units none many
      | inr exchange ↦ too_many (2 ^ variables p) units exchange.0 exchange.3
          (few_exchanges p exchange.0 exchange.1 (freely p exchange.0 exchange.1 exchange.4)) many
    ])
  ]
]
  where
    not_none : (a b : ℕ) → b ≡ 0 → a < b → ⊥
    not_none a b e l = omega arith

    too_many : (a b k : ℕ) → k + 1 ≡ b → k < a → a < b → ⊥
    too_many a b k e l m = omega arith
