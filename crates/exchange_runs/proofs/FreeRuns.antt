-- A run over unbounded fractions as a run of whole numbers. So it makes fewer exchanges than there are sets of variables.
use Rattle.std.proofs.Common.{◌≡◌, inl, inr, ℕ, zero, suc, ◌^◌, ◌<◌, ◌≤◌, ℤ, pos, ◌*ℤ◌, ◌<ℤ◌, refl, ap, ◌∙◌, sym, subst}
use Rattle.std.proofs.Common.{arith, if◌then◌else◌, nat_lt}
use Rattle.std.proofs.lemmas.Bool.{cases_lt, lt-ltb, le-ltb}
use Rattle.fraction128.specs.Fraction.{Fraction, IsForm}
use Rattle.program_form.specs.Program.{ProgramDef, height}
use Rattle.exchange_runs.specs.Table.{Table, variables, slack, objective}
use Rattle.exchange_runs.specs.Exchange.{HasRatio, IsRatioOver, IsExchangeOver}
use Rattle.exchange_runs.specs.Run.{Reached}
use Rattle.exchange_runs.proofs.Shown.{Shows, shows_above, above_shown, shows_at_most, at_most_shown, shows_at_most_zero}
use Rattle.exchange_runs.proofs.Invariants.{exchanged}
use Rattle.exchange_runs.proofs.FirstTable.{first_z}
use Rattle.exchange_runs.proofs.Leasts.{AreFractions}
use Rattle.exchange_runs.proofs.Shadows.{IsShadow, shadow_start, shadow_after, ratio_shows}
use Rattle.exchange_runs.specs.Unbounded.{IsFraction, FreelyReached}
use Rattle.exchange_runs.proofs.FreeStates.{State, IsGood, Leaves, IsStep}
use Rattle.exchange_runs.proofs.Traces.{IsTrace, trace_ends}

pub are_fractions : AreFractions IsFraction
are_fractions f is = is.positive

-- What is asked of each value may be less.
exchange_weaker : (A B : Fraction → Type 0) (p : ProgramDef) (t u : Table) (e r : ℕ) → ((f : Fraction) → A f → B f)
    → IsExchangeOver A p t u e r → IsExchangeOver B p t u e r
exchange_weaker A B p t u e r weaker x = record {
  enters = x.enters;
  leaves = record {
    ratio = x.leaves.ratio;
    least = record {
      within = x.leaves.least.within;
      has = x.leaves.least.has;
      ratio = weaker_ratio r x.leaves.ratio x.leaves.least.ratio;
      least = λ i l has. let other = x.leaves.least.least i l has in (other.0, weaker_ratio i other.0 other.1, other.2, other.3);
    };
  };
  divided_form = λ v. weaker (u.cell r v) (x.divided_form v);
  divided = x.divided;
  taken = λ i v l away. let is = x.taken i v l away in record {
    product = is.product;
    product_form = weaker is.product is.product_form;
    is_product = is.is_product;
    form = weaker (u.cell i v) is.form;
    is_difference = is.is_difference;
  };
  entered = x.entered;
  stayed = x.stayed;
}
  where
    weaker_ratio : (i : ℕ) (f : Fraction) → IsRatioOver A (variables p) t e i f → IsRatioOver B (variables p) t e i f
    weaker_ratio i f is = record { form = weaker f is.form; quotient = is.quotient }

-- A run whose values all have forms is one over unbounded fractions.
pub freely : (p : ProgramDef) (k : ℕ) (t : Table) → Reached p k t → FreelyReached p k t
freely p zero t h = h
freely p (suc k) t h = (
  h.0,
  h.1,
  h.2,
  freely p k h.0 h.3,
  exchange_weaker IsForm IsFraction p h.0 t h.1 h.2
      (λ f form. record { positive = form.positive }) h.4,
)

-- The whole numbers of a table, and its basis.
abbrev pub state_at : Table → ℤ → (ℕ → ℕ → ℤ) → State
state_at t d z = record { d = d; z = z; basic = t.basic }

good_of : (p : ProgramDef) (t : Table) (d : ℤ) (z : ℕ → ℕ → ℤ) → IsShadow p t d z → IsGood p (state_at t d z)
good_of p t d z h = record {
  positive = h.positive;
  mixes_objective = h.mixes_objective;
  reads = h.reads;
  reads_objective = h.reads_objective;
  unit = h.unit;
  basics = h.basics;
  limits = h.limits;
}

leaves_of : (p : ProgramDef) (t u : Table) (e r : ℕ) (d : ℤ) (z : ℕ → ℕ → ℤ) → IsExchangeOver IsFraction p t u e r → IsShadow p t d z
    → Leaves p (state_at t d z) e r
leaves_of p t u e r d z x h =
    let least = x.leaves.least in
    let within : r < height p = least.within in
    let above : pos 0 <ℤ z r e = shows_above d (z r e) (t.cell r e) h.positive (h.shows r e (omega arith)) least.has.above in
    let ratio_of_r : Shows (z r e) (z r (variables p)) x.leaves.ratio
    = ratio_shows IsFraction p t d z e r x.leaves.ratio are_fractions h (omega arith) least.ratio in
    let has : (i : ℕ) → i < height p → pos 0 <ℤ z i e → HasRatio t e i
    = λ i l a. record { above = above_shown d (z i e) (t.cell i e) h.positive (h.shows i e (omega arith)) a } in
    record {
      within = within;
      pivot = above;
      ratio = λ i l a.
          let other = least.least i l (has i l a) in
          shows_at_most (z r e) (z r (variables p)) (z i e) (z i (variables p)) x.leaves.ratio other.0 above a ratio_of_r
          (ratio_shows IsFraction p t d z e i other.0 are_fractions h (omega arith) other.1) other.2;
      tie = λ i l a no_greater.
          let other = least.least i l (has i l a) in
          other.3 (at_most_shown (z i e) (z i (variables p)) (z r e) (z r (variables p)) other.0 x.leaves.ratio a above
          (ratio_shows IsFraction p t d z e i other.0 are_fractions h (omega arith) other.1) ratio_of_r no_greater);
    }

step_of : (p : ProgramDef) (t u : Table) (e r : ℕ) (d : ℤ) (z : ℕ → ℕ → ℤ) → IsExchangeOver IsFraction p t u e r → IsShadow p t d z
    → IsStep p (state_at t d z) e r (state_at u (d *ℤ z r e) (exchanged r e d z))
step_of p t u e r d z x h = record {
  enters = record {
    within = x.enters.within;
    above = shows_above d (z (height p) e) (objective p t e) h.positive (h.shows (height p) e (omega arith)) x.enters.above;
    least = λ v l. shows_at_most_zero d (z (height p) v) (objective p t v) h.positive (h.shows (height p) v (omega arith))
        (x.enters.least v l);
  };
  leaves = leaves_of p t u e r d z x h;
  denominator = refl;
  cells = λ i v. refl;
  entered = x.entered;
  stayed = x.stayed;
}

-- f below the bound, and x from there on
abbrev extended : {A : Type 0} → ℕ → (ℕ → A) → A → ℕ → A
extended bound f x j = if nat_lt j bound then f j else x

extended-below : {A : Type 0} (bound : ℕ) (f : ℕ → A) (x : A) (j : ℕ) → j < bound → extended bound f x j ≡ f j
extended-below bound f x j l = rw (lt-ltb j bound l) refl

extended-behind : {A : Type 0} (bound : ℕ) (f : ℕ → A) (x : A) (j : ℕ) → bound ≤ j → extended bound f x j ≡ x
extended-behind bound f x j l = rw (le-ltb j bound l) refl

step_same : (p : ProgramDef) (s t u v : State) (e f r q : ℕ) → s ≡ t → e ≡ f → r ≡ q → u ≡ v → IsStep p t f q v → IsStep p s e r u
step_same p s t u v e f r q a b c d h = rw (a, b, c, d) h

-- The tables of a run as whole numbers, with its choices.
pub record FreeTrace (p : ProgramDef) (k : ℕ) (t : Table) : Type 0 where
  pub states : ℕ → State
  pub entering : ℕ → ℕ
  pub leaving : ℕ → ℕ
  pub trace : IsTrace p k states entering leaving
  -- what is there at its start
  pub start_d : (states 0).d ≡ pos 1
  pub start_z : (i v : ℕ) → (states 0).z i v ≡ first_z p i v
  pub start_basic : (i : ℕ) → i < height p → (states 0).basic i ≡ slack p i
  -- and at its end
  pub d : ℤ
  pub z : ℕ → ℕ → ℤ
  pub shadow : IsShadow p t d z
  pub at_end : states k ≡ state_at t d z

trace_start : (p : ProgramDef) (t : Table) → FreelyReached p 0 t → FreeTrace p 0 t
trace_start p t start =
    let first : State = state_at t (pos 1) (first_z p) in
    record {
      states = λ j. first;
      entering = λ j. 0;
      leaving = λ j. 0;
      trace = record { good = λ j l. good_of p t (pos 1) (first_z p) (shadow_start p t start); step = λ j l. absurd (omega arith) };
      start_d = refl;
      start_z = λ i v. refl;
      start_basic = start.basis;
      d = pos 1;
      z = first_z p;
      shadow = shadow_start p t start;
      at_end = refl;
    }

trace_next : (p : ProgramDef) (k : ℕ) (t u : Table) (e r : ℕ) → FreeTrace p k t → IsExchangeOver IsFraction p t u e r
    → FreeTrace p (suc k) u
trace_next p k t u e r h x =
    let after : IsShadow p u (h.d *ℤ h.z r e) (exchanged r e h.d h.z)
    = shadow_after IsFraction p t u e r h.d h.z are_fractions x h.shadow in
    let next : State = state_at u (h.d *ℤ h.z r e) (exchanged r e h.d h.z) in
    let states : ℕ → State = extended (suc k) h.states next in
    let entering : ℕ → ℕ = extended k h.entering e in
    let leaving : ℕ → ℕ = extended k h.leaving r in
    let old : (j : ℕ) → j < suc k → states j ≡ h.states j = λ j l. extended-below (suc k) h.states next j l in
    let new : states (suc k) ≡ next = extended-behind (suc k) h.states next (suc k) (omega arith) in
    let first : states 0 ≡ h.states 0 = old 0 (omega arith) in
    record {
      states = states;
      entering = entering;
      leaving = leaving;
      trace = record {
        good = λ j l. elim (cases_lt j (suc k)) [
          | inl before ↦ subst (IsGood p) (sym (old j before)) (h.trace.good j (omega arith))
          | inr last ↦ let same : suc k ≡ j = omega arith in
              subst (λ (i : ℕ). IsGood p (states i)) same
              (subst (IsGood p) (sym new) (good_of p u (h.d *ℤ h.z r e) (exchanged r e h.d h.z) after))
        ];
        step = λ j l. elim (cases_lt j k) [
          | inl before ↦
              step_same p (states j) (h.states j) (states (suc j)) (h.states (suc j)) (entering j) (h.entering j) (leaving j)
              (h.leaving j)
              (old j (omega arith)) (extended-below k h.entering e j before) (extended-below k h.leaving r j before)
              (old (suc j) (omega arith)) (h.trace.step j before)
          | inr last ↦
              let same : k ≡ j = omega arith in
              subst (λ (i : ℕ). IsStep p (states i) (entering i) (leaving i) (states (suc i))) same
              (step_same p (states k) (state_at t h.d h.z) (states (suc k)) next (entering k) e (leaving k) r
              (old k (omega arith) ∙ h.at_end) (extended-behind k h.entering e k (omega arith))
              (extended-behind k h.leaving r k (omega arith)) new
              (step_of p t u e r h.d h.z x h.shadow))
        ];
      };
      start_d = ap (λ s. s.d) first ∙ h.start_d;
      start_z = λ i v. ap (λ s. s.z i v) first ∙ h.start_z i v;
      start_basic = λ i l. ap (λ s. s.basic i) first ∙ h.start_basic i l;
      d = h.d *ℤ h.z r e;
      z = exchanged r e h.d h.z;
      shadow = after;
      at_end = new;
    }

pub trace_of : (p : ProgramDef) (k : ℕ) (t : Table) → FreelyReached p k t → FreeTrace p k t
trace_of p zero t h = trace_start p t h
trace_of p (suc k) t h = trace_next p k h.0 t h.1 h.2 (trace_of p k h.0 h.3) h.4

-- A run makes fewer exchanges than there are sets of variables.
pub few_exchanges : (p : ProgramDef) (k : ℕ) (t : Table) → FreelyReached p k t → k < 2 ^ variables p
few_exchanges p k t h = let behind : FreeTrace p k t = trace_of p k t h in
    trace_ends p k behind.states behind.entering behind.leaving behind.trace
