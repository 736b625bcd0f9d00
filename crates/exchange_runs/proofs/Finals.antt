-- How a run ends: at the optimum, in one way.
use Rattle.std.proofs.Common.{◌≡◌, inl, inr, ℕ, ◌<◌, ◌≤◌, ◌^◌, List, length, slice_index, ℤ, pos, ◌<ℤ◌, refl, ap, ◌∙◌, sym, subst, arith}
use Rattle.std.proofs.lemmas.Bool.{cases_eq}
use Rattle.std.proofs.lemmas.List.{same_lists, get_or_default}
use Rattle.std.proofs.lemmas.Grind.{same_number_lists}
use Rattle.number_laws.proofs.Order.{cancel}
use Rattle.fraction128.specs.Fraction.{Fraction, IsForm, over, whole}
use Rattle.fraction128.specs.Scaling.{AreScaled, IsScaled, fraction_at}
use Rattle.fraction128.proofs.ScalingLemmas.{one_least}
use Rattle.program_form.specs.Program.{ProgramDef, IsProgram, columns, height}
use Rattle.program_form.specs.Certificate.{DualDef}
use Rattle.program_form.specs.Points.{IsGreatestReached}
use Rattle.program_form.specs.Duals.{IsOptimalDual, dual_total, dual_value}
use Rattle.program_form.proofs.Duality.{optimum_reached}
use Rattle.exchange_runs.specs.Table.{Table, variables, slack}
use Rattle.exchange_runs.specs.Exchange.{IsEntering}
use Rattle.exchange_runs.specs.Run.{Reached, IsExchangeRun, IsSameTable}
use Rattle.exchange_runs.specs.Readings.{value_of, minus, IsValueOf, IsPrimal, AreDuals, IsWrittenDual, IsWideEnd}
use Rattle.exchange_runs.specs.Feasible.{IsOptimumValue, IsPointWorth}
use Rattle.exchange_runs.specs.Outcomes.{EndsWithin, IsWideWithin, NeedsMoreThan}
use Rattle.exchange_runs.proofs.Shadows.{IsShadow, shadow_reached}
use Rattle.exchange_runs.proofs.Best.{optimum_value, primal_is_point, dual_is_optimal, dual_worth}
use Rattle.exchange_runs.proofs.Once.{forms, one_run, not_last, no_later, apart_in_run}
use Rattle.exchange_runs.proofs.Signs.{same_natural}

-- What a run ends at is the optimum, attained by its point, and its dual is optimal.
pub value_is_best : (p : ProgramDef) (k : ℕ) (t : Table) → IsExchangeRun p k t → IsOptimumValue p (value_of p t)
value_is_best p k t run =
    let behind : (d : ℤ) × (z : ℕ → ℕ → ℤ) × IsShadow p t d z = shadow_reached p k t run.reached in
    optimum_value p t behind.0 behind.1 behind.2 run.last

pub ends_at_optimum : (p : ProgramDef) (units k : ℕ) (value : Fraction) (primal : List Fraction) (d : DualDef)
    → EndsWithin p units k value primal d
    → IsOptimumValue p value
ends_at_optimum p units k value primal d h = rw h.read_off.is_value (value_is_best p k h.table h.run)

pub ends_at_point : (p : ProgramDef) (units k : ℕ) (value : Fraction) (primal : List Fraction) (d : DualDef)
    → EndsWithin p units k value primal d
    → IsPointWorth p primal value
ends_at_point p units k value primal d h =
    let behind : (d : ℤ) × (z : ℕ → ℕ → ℤ) × IsShadow p h.table d z = shadow_reached p k h.table h.run.reached in
    rw h.read_off.is_value (primal_is_point p h.table behind.0 behind.1 primal behind.2 h.read_off.is_primal)

pub ends_with_dual : (p : ProgramDef) (units k : ℕ) (value : Fraction) (primal : List Fraction) (d : DualDef)
    → EndsWithin p units k value primal d
    → IsOptimalDual p d
ends_with_dual p units k value primal d h =
    let behind : (d : ℤ) × (z : ℕ → ℕ → ℤ) × IsShadow p h.table d z = shadow_reached p k h.table h.run.reached in
    dual_is_optimal p h.table behind.0 behind.1 d behind.2 h.run.last h.read_off.is_dual

pub ends_equal : (p : ProgramDef) (units k : ℕ) (value : Fraction) (primal : List Fraction) (d : DualDef)
    → EndsWithin p units k value primal d
    → IsScaled d.den value (dual_total p (λ r. slice_index d.num r))
ends_equal p units k value primal d h =
    let behind : (d : ℤ) × (z : ℕ → ℕ → ℤ) × IsShadow p h.table d z = shadow_reached p k h.table h.run.reached in
    rw h.read_off.is_value (dual_worth p h.table behind.0 behind.1 d behind.2 h.run.last h.read_off.is_dual)

pub ends_greatest : (p : ProgramDef) (units k : ℕ) (value : Fraction) (primal : List Fraction) (d : DualDef)
    → EndsWithin p units k value primal d
    → IsGreatestReached p (dual_value p d.den (λ r. slice_index d.num r))
ends_greatest p units k value primal d h =
    optimum_reached p (dual_total p (λ r. slice_index d.num r)) d.den (ends_with_dual p units k value primal d h).optimum

-- One end: after as many exchanges, at the same table.
pub one_end : (p : ProgramDef) (k j : ℕ) (t u : Table) → IsProgram p → IsExchangeRun p k t → IsExchangeRun p j u → k ≡ j
one_end p k j t u accepted h i =
    let up : k ≤ j = no_later p j k u t accepted i.reached (inl i.last) h.reached in
    let back : j ≤ k = no_later p k j t u accepted h.reached (inl h.last) i.reached in
    omega arith

pub one_end_table : (p : ProgramDef) (k j : ℕ) (t u : Table) → IsProgram p → IsExchangeRun p k t → IsExchangeRun p j u → IsSameTable p t u
one_end_table p k j t u accepted h i =
    one_run p k t u accepted h.reached (subst (λ (n : ℕ). Reached p n u) (sym (one_end p k j t u accepted h i)) i.reached)

-- Same tables have the same duals, in one order.
one_list : (fs gs : List Fraction) → length fs ≡ length gs → ((i : ℕ) → i < length fs → fraction_at fs i ≡ fraction_at gs i) → fs ≡ gs
one_list fs gs len each =
    same_lists fs gs len (λ k d l.
    get_or_default fs k d (whole (pos 0)) l ∙ (each k l ∙ get_or_default gs k (whole (pos 0)) d (rw (sym len) l)))

one_duals : (p : ProgramDef) (t u : Table) (fs gs : List Fraction) → IsSameTable p t u → AreDuals p t fs → AreDuals p u gs → fs ≡ gs
one_duals p t u fs gs same h k =
    one_list fs gs (h.dual_each ∙ sym k.dual_each) (λ i l.
    let within : i < height p = rw (← h.dual_each) l in
    h.duals_are i within ∙ (ap minus (same.cells (height p) (slack p i) (omega arith)) ∙ sym (k.duals_are i within)))

duals_positive : (p : ProgramDef) (t : Table) (fs : List Fraction) → ((i v : ℕ) → i ≤ height p → IsForm (t.cell i v)) → AreDuals p t fs
    → (i : ℕ) → i < length fs → pos 0 <ℤ (fraction_at fs i).den
duals_positive p t fs form are i l =
    subst (λ (f : Fraction). pos 0 <ℤ f.den) (sym (are.duals_are i (rw (← are.dual_each) l)))
    (form (height p) (slack p i) (omega arith)).positive

-- A fraction is one number over a scale.
pub one_number : (l k j : ℕ) (f : Fraction) → pos 0 <ℤ f.den → IsScaled l f k → IsScaled l f j → k ≡ j
one_number l k j f positive h i = same_natural k j (cancel (pos k) (pos j) f.den positive (h.same ∙ sym i.same))

one_scaling : (l : ℕ) (fs : List Fraction) (ks js : List ℕ)
    → ((i : ℕ) → i < length fs → pos 0 <ℤ (fraction_at fs i).den) → AreScaled l fs ks → AreScaled l fs js → ks ≡ js
one_scaling l fs ks js positive h k =
    same_number_lists ks js (h.len ∙ sym k.len) (λ i below.
    let within : i < length fs = rw (← h.len) below in
    one_number l (slice_index ks i) (slice_index js i) (fraction_at fs i) (positive i within) (h.each i within) (k.each i within))

one_written : (p : ProgramDef) (t u : Table) (d e : DualDef) → ((i v : ℕ) → i ≤ height p → IsForm (t.cell i v)) → IsSameTable p t u
    → IsWrittenDual p t d → IsWrittenDual p u e → d ≡ e
one_written p t u d e form same h k =
    let lists : h.duals ≡ k.duals = one_duals p t u h.duals k.duals same h.are_duals k.are_duals in
    let dens : d.den ≡ e.den = one_least h.duals d.den e.den h.least (rw lists k.least) in
    let nums : d.num ≡ e.num = one_scaling d.den h.duals d.num e.num (duals_positive p t h.duals form h.are_duals)
    h.scaled (rw (dens, lists) k.scaled) in
    dual_is d.den e.den d.num e.num dens nums
  where
    dual_is : (m n : ℕ) (ks js : List ℕ) → m ≡ n → ks ≡ js
        → (let a : DualDef = record { den = m; num = ks } in a) ≡ record { den = n; num = js }
    dual_is m n ks js p q = rw (p, q) refl

-- A variable has one value.
one_value : (p : ProgramDef) (t u : Table) (v : ℕ) (f g : Fraction)
    → ((i j : ℕ) → i < height p → j < height p → (j ≡ i → ⊥) → t.basic j ≡ t.basic i → ⊥)
    → IsSameTable p t u → IsValueOf (variables p) t (height p) v f → IsValueOf (variables p) u (height p) v g → f ≡ g
one_value p t u v f g apart same h k = elim h [
  | inl here ↦ elim k [
    | inl there ↦ elim (cases_eq there.0 here.0) [
      | inl one ↦ here.3 ∙ (same.cells here.0 (variables p) (omega (arith, here.1))
          ∙ (ap (λ i. u.cell i (variables p)) (sym one) ∙ sym there.3))
      | inr two ↦ absurd (apart here.0 there.0 here.1 there.1 two (same.basis there.0 there.1 ∙ (there.2 ∙ sym here.2)))
    ]
    | inr none ↦ absurd (none.0 here.0 here.1 (sym (same.basis here.0 here.1) ∙ here.2))
  ]
  | inr none ↦ elim k [
    | inl there ↦ absurd (none.0 there.0 there.1 (same.basis there.0 there.1 ∙ there.2))
    | inr neither ↦ none.1 ∙ sym neither.1
  ]
]

one_primal : (p : ProgramDef) (t u : Table) (fs gs : List Fraction)
    → ((i j : ℕ) → i < height p → j < height p → (j ≡ i → ⊥) → t.basic j ≡ t.basic i → ⊥)
    → IsSameTable p t u → IsPrimal p t fs → IsPrimal p u gs → fs ≡ gs
one_primal p t u fs gs apart same h k =
    one_list fs gs (h.value_each ∙ sym k.value_each) (λ c l.
    let within : c < columns p = rw (← h.value_each) l in
    one_value p t u c (fraction_at fs c) (fraction_at gs c) apart same (h.values c within) (k.values c within))

-- A run that ends gives one answer.
pub one_answer : (p : ProgramDef) (m n k j : ℕ) (value worth : Fraction) (primal point : List Fraction) (d e : DualDef) → IsProgram p
    → EndsWithin p m k value primal d → EndsWithin p n j worth point e → (k ≡ j) × (value ≡ worth) × (primal ≡ point) × (d ≡ e)
one_answer p m n k j value worth primal point d e accepted h i =
    let same : IsSameTable p h.table i.table = one_end_table p k j h.table i.table accepted h.run i.run in (
      one_end p k j h.table i.table accepted h.run i.run,
      h.read_off.is_value ∙ (ap minus (same.cells (height p) (variables p) (omega arith)) ∙ sym i.read_off.is_value),
      one_primal p h.table i.table primal point (apart_in_run p k h.table h.run.reached) same h.read_off.is_primal i.read_off.is_primal,
      one_written p h.table i.table d e (forms p k h.table accepted h.run.reached) same h.read_off.is_dual i.read_off.is_dual,
    )

-- A written dual is not wide.
written_not_wide : (p : ProgramDef) (t u : Table) (d : DualDef) → ((i v : ℕ) → i ≤ height p → IsForm (t.cell i v)) → IsSameTable p t u
    → IsWrittenDual p t d → IsWideEnd p u → ⊥
written_not_wide p t u d form same h wide =
    let lists : h.duals ≡ wide.duals = one_duals p t u h.duals wide.duals same h.are_duals wide.are_duals in
    let dens : d.den ≡ wide.common = one_least h.duals d.den wide.common h.least (rw lists wide.least) in
    elim wide.wide [
      | inl over ↦ too_large d.den wide.common (2 ^ 63) dens h.small_den over
      | inr w ↦
          let within : w.0 < length h.duals = rw lists w.2 in
          let scaled : IsScaled d.den (fraction_at h.duals w.0) w.1 = rw (dens, lists) w.3 in
          let one : slice_index d.num w.0 ≡ w.1
          = one_number d.den (slice_index d.num w.0) w.1 (fraction_at h.duals w.0)
          (duals_positive p t h.duals form h.are_duals w.0 within) (h.scaled.each w.0 within) scaled in
          too_large (slice_index d.num w.0) w.1 (2 ^ 63) one (h.small_num w.0 0 (rw h.scaled.len within)) w.4
    ]
  where
    too_large : (a b c : ℕ) → a ≡ b → a < c → c ≤ b → ⊥
    too_large a b c e l k = omega arith

-- No two of the three ways to end hold of one run.
pub ends_not_wide : (p : ProgramDef) (units n k : ℕ) (value : Fraction) (primal : List Fraction) (d : DualDef) → IsProgram p
    → EndsWithin p units k value primal d → IsWideWithin p n → ⊥
ends_not_wide p units n k value primal d accepted h wide =
    let j : ℕ = wide.exchanges in
    let back : j ≤ k = no_later p k j h.table wide.table accepted h.run.reached (inl h.run.last) wide.reached in
    elim wide.wide [
      | inl step ↦
          let up : k ≤ j = no_later p j k wide.table h.table accepted wide.reached (inr step.1) h.run.reached in
          let at : j ≡ k = omega arith in
          let same : IsSameTable p wide.table h.table = one_run p k wide.table h.table accepted
          (subst (λ (i : ℕ). Reached p i wide.table) at wide.reached) h.run.reached in
          not_last p wide.table h.table step.1.entering same step.1.enters h.run.last
      | inr end ↦
          written_not_wide p h.table wide.table d (forms p k h.table accepted h.run.reached)
          (one_end_table p k j h.table wide.table accepted h.run end.1) h.read_off.is_dual end.2
    ]

pub ends_not_more : (p : ProgramDef) (units k : ℕ) (value : Fraction) (primal : List Fraction) (d : DualDef) → IsProgram p
    → EndsWithin p units k value primal d → NeedsMoreThan p units → ⊥
ends_not_more p units k value primal d accepted h more = elim more [
  | inl none ↦ absurd (omega (arith, h.within, none))
  | inr begins ↦ begins_not_ended p k begins.0 h.table begins.1 begins.2 accepted h.run begins.4 begins.5
      (omega (arith, h.within, begins.3))
]
  where
    begins_not_ended : (q : ProgramDef) (i j : ℕ) (t u : Table) (e : ℕ) → IsProgram q → IsExchangeRun q i t
        → Reached q j u → IsEntering q u e → i ≤ j → ⊥
    begins_not_ended q i j t u e kept run reached enters most =
        let back : j ≤ i = no_later q i j t u kept run.reached (inl run.last) reached in
        let at : j ≡ i = omega arith in
        let same : IsSameTable q u t = one_run q i u t kept (subst (λ (n : ℕ). Reached q n u) at reached) run.reached in
        not_last q u t e same enters run.last

pub wide_not_more : (p : ProgramDef) (units : ℕ) → IsProgram p → IsWideWithin p units → NeedsMoreThan p units → ⊥
wide_not_more p units accepted wide more = elim more [
  | inl none ↦ elim wide.wide [
    | inl step ↦ absurd (omega (arith, step.0, none))
    | inr end ↦ absurd (omega (arith, end.0, none))
  ]
  | inr begins ↦ elim wide.wide [
    | inl step ↦
        let most : begins.0 ≤ wide.exchanges =
        no_later p wide.exchanges begins.0 wide.table begins.1 accepted wide.reached (inr step.1) begins.4 in
        absurd (omega (arith, most, step.0, begins.3))
    | inr end ↦
        let back : begins.0 ≤ wide.exchanges =
        no_later p wide.exchanges begins.0 wide.table begins.1 accepted wide.reached (inl end.1.last) begins.4 in
        let at : begins.0 ≡ wide.exchanges = omega (arith, back, end.0, begins.3) in
        let same : IsSameTable p begins.1 wide.table = one_run p wide.exchanges begins.1 wide.table accepted
        (subst (λ (n : ℕ). Reached p n begins.1) at begins.4) wide.reached in
        not_last p begins.1 wide.table begins.2 same begins.5 end.1.last
  ]
]
