-- The whole numbers behind a table that a run reaches: each cell is a number over one denominator, and the invariants hold of them.
use Rattle.std.proofs.Common.{◌≡◌, ℕ, zero, suc, ◌<◌, ◌≤◌, ℤ, pos, ◌-ℤ◌, ◌*ℤ◌, ◌≤ℤ◌, ◌<ℤ◌, inl, inr, refl, sym, arith}
use Rattle.std.proofs.lemmas.Int.{ints}
use Rattle.std.proofs.lemmas.Bool.{cases_eq}
use Rattle.number_laws.proofs.Ring.{mul-comm, mul-zero}
use Rattle.number_laws.proofs.Order.{times_positive, not_negative}
use Rattle.fraction128.specs.Fraction.{Fraction, IsForm}
use Rattle.number_laws.specs.WholeSums.{only_at}
use Rattle.program_form.specs.Program.{ProgramDef, columns, height}
use Rattle.exchange_runs.specs.Table.{Table, variables, IsStart, first_number}
use Rattle.exchange_runs.specs.Exchange.{HasRatio, IsRatioOver, IsLessOver, IsExchangeOver}
use Rattle.exchange_runs.specs.Run.{ReachedOver, Reached}
use Rattle.exchange_runs.proofs.Shown.{Shows, shows_whole, shows_times, shows_at, shows_quotient, shows_product}
use Rattle.exchange_runs.proofs.Shown.{shows_difference, shows_above, above_shown, shows_at_most}
use Rattle.exchange_runs.proofs.Leasts.{AreFractions}
use Rattle.exchange_runs.proofs.Invariants.{IsMix, IsRead, exchanged, exchanged-here, exchanged-away, mix_after}
use Rattle.exchange_runs.proofs.Invariants.{mix_after_itself, mix_agree, read_after, unit_after, limits_after}
use Rattle.exchange_runs.proofs.Ends.{start_mix, start_mix_objective, start_read, start_read_objective}
use Rattle.exchange_runs.proofs.FirstTable.{first_z, has_slacks}

pub record IsShadow (p : ProgramDef) (t : Table) (d : ℤ) (z : ℕ → ℕ → ℤ) : Type 0 where
  pub positive : pos 0 <ℤ d
  -- each cell is its number over d
  pub shows : (i v : ℕ) → i ≤ height p → Shows d (z i v) (t.cell i v)
  -- each row is a sum of first rows, each as many times as the number at its slack; the objective row has d times the first one too
  pub mixes : (i : ℕ) → i < height p → IsMix (height p) (columns p) (first_z p) (pos 0) (z i)
  pub mixes_objective : IsMix (height p) (columns p) (first_z p) d (z (height p))
  -- the first rows can be read off it
  pub reads : (j : ℕ) → j < height p → IsRead (height p) d (pos 0) (first_z p j) z t.basic
  pub reads_objective : IsRead (height p) d (pos 1) (first_z p (height p)) z t.basic
  -- the columns of the basis are unit columns, its members are variables, and no limit is below zero
  pub unit : (i j : ℕ) → i < height p → j < height p → z i (t.basic j) ≡ only_at j d i
  pub basics : (i : ℕ) → i < height p → t.basic i < variables p
  pub limits : (i : ℕ) → i < height p → pos 0 ≤ℤ z i (variables p)

pub shadow_start : (p : ProgramDef) (t : Table) → IsStart p t → IsShadow p t (pos 1) (first_z p)
shadow_start p t start = record {
  positive = omega (arith, ints);
  shows = λ i v l. rw (start.cells i v l) (shows_whole (first_z p i v));
  mixes = λ i l. start_mix (height p) (columns p) (first_z p) i (has_slacks p) l;
  mixes_objective = start_mix_objective (height p) (columns p) (first_z p) (has_slacks p);
  reads = λ j l. start_read (height p) (columns p) (first_z p) t.basic j (has_slacks p) start.basis l;
  reads_objective = start_read_objective (height p) (columns p) (first_z p) t.basic (has_slacks p) start.basis;
  unit = λ i j li lj. rw (start.basis j lj) (has_slacks p i j (omega arith) lj);
  basics = λ i l. rw (start.basis i l) (omega arith);
  limits = λ i l. not_negative (first_number p i (variables p));
}

-- The ratio of a row is its limit's number over that of its cell at e.
pub ratio_shows : (IsCell : Fraction → Type 0) (p : ProgramDef) (t : Table) (d : ℤ) (z : ℕ → ℕ → ℤ) (e i : ℕ)
    (f : Fraction) → AreFractions IsCell
    → IsShadow p t d z → i ≤ height p → IsRatioOver IsCell (variables p) t e i f → Shows (z i e) (z i (variables p)) f
ratio_shows IsCell p t d z e i f are h l is =
    shows_quotient d (z i (variables p)) (z i e) (t.cell i (variables p)) (t.cell i e) f (h.shows i (variables p) l)
    (h.shows i e l) (are f is.form) is.quotient

-- The numbers that are left of a cell after a product is subtracted.
less_shows : (IsCell : Fraction → Type 0) (d q x y c : ℤ) (a f b : Fraction) (g : Fraction) → AreFractions IsCell
    → Shows d x a → Shows d c f → Shows q y g
    → IsLessOver IsCell a f g b → Shows (d *ℤ q) ((q *ℤ x) -ℤ (c *ℤ y)) b
less_shows IsCell d q x y c a f b g are ha hf hg is =
    shows_difference (d *ℤ q) (q *ℤ x) (c *ℤ y) a is.product b
    (shows_at (q *ℤ d) (d *ℤ q) (q *ℤ x) (q *ℤ x) a (mul-comm q d) refl (shows_times q d x a ha))
    (shows_product d c q y f g is.product hf hg (are is.product is.product_form) is.is_product)
    (are b is.form) is.is_difference

pub shadow_after : (IsCell : Fraction → Type 0) (p : ProgramDef) (t u : Table) (e r : ℕ) (d : ℤ) (z : ℕ → ℕ → ℤ) → AreFractions IsCell
    → IsExchangeOver IsCell p t u e r → IsShadow p t d z → IsShadow p u (d *ℤ z r e) (exchanged r e d z)
shadow_after IsCell p t u e r d z are x h =
    let within : r < height p = x.leaves.least.within in
    let weak : r ≤ height p = omega arith in
    let above : pos 0 <ℤ z r e = shows_above d (z r e) (t.cell r e) h.positive (h.shows r e weak) x.leaves.least.has.above in
    let pivot : (v : ℕ) → Shows (z r e) (z r v) (u.cell r v) = λ v.
    shows_quotient d (z r v) (z r e) (t.cell r v) (t.cell r e) (u.cell r v) (h.shows r v weak) (h.shows r e weak)
    (are (u.cell r v) (x.divided_form v)) (x.divided v) in
    record {
      positive = times_positive d (z r e) h.positive above;
      shows = λ i v l. elim (cases_eq i r) [
        | inl here ↦
            rw here (shows_at (d *ℤ z r e) (d *ℤ z r e) (d *ℤ z r v) (exchanged r e d z r v) (u.cell r v) refl
            (sym (exchanged-here r e d z v))
            (shows_times d (z r e) (z r v) (u.cell r v) (pivot v)))
        | inr away ↦
            shows_at (d *ℤ z r e) (d *ℤ z r e) ((z r e *ℤ z i v) -ℤ (z i e *ℤ z r v)) (exchanged r e d z i v)
            (u.cell i v) refl (sym (exchanged-away r e d z i v away))
            (less_shows IsCell d (z r e) (z i v) (z r v) (z i e) (t.cell i v) (t.cell i e) (u.cell i v) (u.cell r v) are
            (h.shows i v l) (h.shows i e l) (pivot v) (x.taken i v l away))
      ];
      mixes = λ i l. elim (cases_eq i r) [
        | inl here ↦ rw here (mix_after_itself (height p) (columns p) (first_z p) d z r e (h.mixes r within))
        | inr away ↦
            mix_agree (height p) (columns p) (first_z p) (z r e *ℤ pos 0) (pos 0) (exchanged r e d z i)
            (exchanged r e d z i) (mul-zero (z r e)) (λ v. refl)
            (mix_after (height p) (columns p) (first_z p) d (pos 0) z r e i away (h.mixes r within) (h.mixes i l))
      ];
      mixes_objective =
          mix_agree (height p) (columns p) (first_z p) (z r e *ℤ d) (d *ℤ z r e) (exchanged r e d z (height p))
          (exchanged r e d z (height p)) (mul-comm (z r e) d) (λ v. refl)
          (mix_after (height p) (columns p) (first_z p) d d z r e (height p) (λ same. omega arith) (h.mixes r within) h.mixes_objective);
      reads = λ j l. read_after (height p) d (pos 0) (first_z p j) z t.basic u.basic r e within x.entered x.stayed (h.reads j l);
      reads_objective = read_after (height p) d (pos 1) (first_z p (height p)) z t.basic u.basic r e within x.entered
          x.stayed h.reads_objective;
      unit = unit_after (height p) d z t.basic u.basic r e within x.entered x.stayed h.unit;
      basics = λ i l. elim (cases_eq i r) [
        | inl here ↦ rw (here, x.entered) x.enters.within
        | inr away ↦ rw (x.stayed i l away) (h.basics i l)
      ];
      limits = limits_after (height p) d z r e (variables p) h.positive above within h.limits (λ i l has.
          let there : HasRatio t e i = record { above = above_shown d (z i e) (t.cell i e) h.positive (h.shows i e (omega arith)) has } in
          let other = x.leaves.least.least i l there in
          shows_at_most (z r e) (z r (variables p)) (z i e) (z i (variables p)) x.leaves.ratio other.0 above has
          (ratio_shows IsCell p t d z e r x.leaves.ratio are h weak x.leaves.least.ratio)
          (ratio_shows IsCell p t d z e i other.0 are h (omega arith) other.1)
          other.2);
    }

-- Each table that a run reaches has such numbers.
pub shadow_over : (IsCell : Fraction → Type 0) (p : ProgramDef) (k : ℕ) (t : Table) → AreFractions IsCell → ReachedOver IsCell p k t
    → (d : ℤ) × (z : ℕ → ℕ → ℤ) × IsShadow p t d z
shadow_over IsCell p zero t are h = (pos 1, first_z p, shadow_start p t h)
shadow_over IsCell p (suc k) t are h =
    let before : (d : ℤ) × (z : ℕ → ℕ → ℤ) × IsShadow p h.0 d z = shadow_over IsCell p k h.0 are h.3 in (
      before.0 *ℤ before.1 h.2 h.1,
      exchanged h.2 h.1 before.0 before.1,
      shadow_after IsCell p h.0 t h.1 h.2 before.0 before.1 are h.4 before.2,
    )

pub shadow_reached : (p : ProgramDef) (k : ℕ) (t : Table) → Reached p k t → (d : ℤ) × (z : ℕ → ℕ → ℤ) × IsShadow p t d z
shadow_reached p k t h = shadow_over IsForm p k t (λ f form. form.positive) h
