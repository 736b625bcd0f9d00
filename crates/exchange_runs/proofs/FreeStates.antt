-- Tables as whole numbers over one denominator, and what holds of each that a run reaches.
use Rattle.std.proofs.Common.{◌≡◌, inl, inr, ℕ, ◌+◌, ◌<◌, ◌≤◌, ℤ, pos, ◌+ℤ◌, ◌*ℤ◌, ◌≤ℤ◌, ◌<ℤ◌, ap, ◌∙◌, sym, subst, arith}
use Rattle.std.proofs.lemmas.Int.{ints}
use Rattle.std.proofs.lemmas.Bool.{cases_eq}
use Rattle.number_laws.proofs.Ring.{as_diff, diffs, same_diff, by_two, mul-comm, mul-left_comm}
use Rattle.number_laws.specs.WholeSums.{total_below, only_at}
use Rattle.number_laws.proofs.TotalLaws.{total_below-agree, total_below-plus, total_below-times}
use Rattle.number_laws.proofs.TotalLaws.{total_below-times_right, total_below-swap, total_below-only, only_at-here}
use Rattle.number_laws.proofs.TotalLaws.{only_at-away}
use Rattle.program_form.specs.Program.{ProgramDef, columns, height}
use Rattle.exchange_runs.specs.Table.{variables}
use Rattle.exchange_runs.proofs.Invariants.{IsMix, IsRead, exchanged}
use Rattle.exchange_runs.proofs.Ends.{only_times}
use Rattle.exchange_runs.proofs.FirstTable.{first_z}
use Rattle.fraction128.proofs.Unique.{apart_of_positive}

-- A denominator, the number of each row and place over it, and the basic variable of each row.
pub record State : Type 0 where
  pub d : ℤ
  pub z : ℕ → ℕ → ℤ
  pub basic : ℕ → ℕ

-- What an exchange keeps.
pub record IsGood (p : ProgramDef) (s : State) : Type 0 where
  pub positive : pos 0 <ℤ s.d
  -- the objective row is a sum of first rows, and they can be read off the table
  pub mixes_objective : IsMix (height p) (columns p) (first_z p) s.d (s.z (height p))
  pub reads : (j : ℕ) → j < height p → IsRead (height p) s.d (pos 0) (first_z p j) s.z s.basic
  pub reads_objective : IsRead (height p) s.d (pos 1) (first_z p (height p)) s.z s.basic
  -- the columns of the basis are unit columns, its members are variables, and no limit is below zero
  pub unit : (i j : ℕ) → i < height p → j < height p → s.z i (s.basic j) ≡ only_at j s.d i
  pub basics : (i : ℕ) → i < height p → s.basic i < variables p
  pub limits : (i : ℕ) → i < height p → pos 0 ≤ℤ s.z i (variables p)

-- Is e the least variable whose objective number is above zero?
pub record Enters (p : ProgramDef) (s : State) (e : ℕ) : Type 0 where
  pub within : e < variables p
  pub above : pos 0 <ℤ s.z (height p) e
  pub least : (v : ℕ) → v < e → s.z (height p) v ≤ℤ pos 0

-- Has row r the least ratio where e enters, and of the rows with that ratio the least basic variable?
pub record Leaves (p : ProgramDef) (s : State) (e r : ℕ) : Type 0 where
  pub within : r < height p
  pub pivot : pos 0 <ℤ s.z r e
  pub ratio : (i : ℕ) → i < height p → pos 0 <ℤ s.z i e → (s.z r (variables p) *ℤ s.z i e) ≤ℤ (s.z i (variables p) *ℤ s.z r e)
  pub tie : (i : ℕ) → i < height p → pos 0 <ℤ s.z i e → (s.z i (variables p) *ℤ s.z r e) ≤ℤ (s.z r (variables p) *ℤ s.z i e)
      → s.basic r ≤ s.basic i

-- Is u the table after s where e enters and row r leaves?
pub record IsStep (p : ProgramDef) (s : State) (e r : ℕ) (u : State) : Type 0 where
  pub enters : Enters p s e
  pub leaves : Leaves p s e r
  pub denominator : u.d ≡ s.d *ℤ s.z r e
  pub cells : (i v : ℕ) → u.z i v ≡ exchanged r e s.d s.z i v
  pub entered : u.basic r ≡ e
  pub stayed : (i : ℕ) → i < height p → (i ≡ r → ⊥) → u.basic i ≡ s.basic i

-- Is variable v basic?
pub record IsBasic (p : ProgramDef) (v : ℕ) (s : State) : Type 0 where
  pub of_row : ℕ
  pub within : of_row < height p
  pub is : s.basic of_row ≡ v

-- The multipliers of a mix, times the rows read off another table.
mixed_rows : (m : ℕ) (d : ℤ) (y : ℕ → ℤ) (f z : ℕ → ℕ → ℤ) (basic : ℕ → ℕ) (v : ℕ)
    → ((r : ℕ) → r < m → d *ℤ f r v ≡ total_below m (λ i. f r (basic i) *ℤ z i v))
    → d *ℤ total_below m (λ r. y r *ℤ f r v) ≡ total_below m (λ i. total_below m (λ r. y r *ℤ f r (basic i)) *ℤ z i v)
mixed_rows m d y f z basic v h =
    sym (total_below-times m d (λ r. y r *ℤ f r v))
    ∙ (total_below-agree m (λ r. d *ℤ (y r *ℤ f r v)) (λ r. total_below m (λ i. y r *ℤ (f r (basic i) *ℤ z i v)))
    (λ r l. mul-left_comm d (y r) (f r v) ∙ (ap (λ x. y r *ℤ x) (h r l) ∙ sym (total_below-times m (y r) (λ i. f r (basic i) *ℤ z i v))))
    ∙ (total_below-swap m m (λ r i. y r *ℤ (f r (basic i) *ℤ z i v))
    ∙ total_below-agree m (λ i. total_below m (λ r. y r *ℤ (f r (basic i) *ℤ z i v)))
    (λ i. total_below m (λ r. y r *ℤ f r (basic i)) *ℤ z i v)
    (λ i l. total_below-agree m (λ r. y r *ℤ (f r (basic i) *ℤ z i v)) (λ r. (y r *ℤ f r (basic i)) *ℤ z i v)
    (λ r k. grouped (y r) (f r (basic i)) (z i v))
    ∙ total_below-times_right m (z i v) (λ r. y r *ℤ f r (basic i)))))
  where
    grouped : (a b c : ℤ) → a *ℤ (b *ℤ c) ≡ (a *ℤ b) *ℤ c
    grouped a b c = rw (as_diff a, as_diff b, as_diff c) (simp diffs (same_diff _ _ _ _ (omega arith)))

mixed_ring : (d w x f s o a : ℤ) → x ≡ (w *ℤ f) +ℤ s → d *ℤ f ≡ o +ℤ a → d *ℤ x ≡ (w *ℤ o) +ℤ ((w *ℤ a) +ℤ (d *ℤ s))
mixed_ring d w x f s o a h k =
    by_two d h w k _ _ (rw (as_diff d, as_diff w, as_diff x, as_diff f, as_diff s, as_diff o, as_diff a)
    (simp diffs (same_diff _ _ _ _ (omega arith))))

-- A mix of the first rows can be read off every table off which they can.
pub mix_read : (m n : ℕ) (first : ℕ → ℕ → ℤ) (d w : ℤ) (x : ℕ → ℤ) (z : ℕ → ℕ → ℤ) (basic : ℕ → ℕ) → IsMix m n first w x
    → ((j : ℕ) → j < m → IsRead m d (pos 0) (first j) z basic) → IsRead m d (pos 1) (first m) z basic → IsRead m d w x z basic
mix_read m n first d w x z basic mix rows objective = record {
  read = λ v.
      let slacks : ℕ → ℤ = λ r. x (n + r) in
      let others : ℕ → ℤ = λ i. total_below m (λ r. slacks r *ℤ first r (basic i)) in
      let costs : ℤ = total_below m (λ i. first m (basic i) *ℤ z i v) in
      let by_rows : d *ℤ total_below m (λ r. slacks r *ℤ first r v) ≡ total_below m (λ i. others i *ℤ z i v)
      = mixed_rows m d slacks first z basic v (λ r l. (rows r l).read v
      ∙ with_none (z m v) (total_below m (λ i. first r (basic i) *ℤ z i v))) in
      let sums : (w *ℤ costs) +ℤ total_below m (λ i. others i *ℤ z i v) ≡ total_below m (λ i. x (basic i) *ℤ z i v)
      = ap (λ c. c +ℤ total_below m (λ i. others i *ℤ z i v)) (sym (total_below-times m w (λ i. first m (basic i) *ℤ z i v)))
      ∙ (sym (total_below-plus m (λ i. w *ℤ (first m (basic i) *ℤ z i v)) (λ i. others i *ℤ z i v))
      ∙ total_below-agree m (λ i. (w *ℤ (first m (basic i) *ℤ z i v)) +ℤ (others i *ℤ z i v)) (λ i. x (basic i) *ℤ z i v)
      (λ i l. term_ring w (first m (basic i)) (z i v) (others i) ∙ ap (λ c. c *ℤ z i v) (sym (mix.mixed (basic i))))) in
      mixed_ring d w (x v) (first m v) (total_below m (λ r. slacks r *ℤ first r v)) (z m v) costs (mix.mixed v)
      (objective.read v ∙ once (z m v) costs)
      ∙ ap (λ c. (w *ℤ z m v) +ℤ c) (ap (λ c. (w *ℤ costs) +ℤ c) by_rows ∙ sums);
}
  where
    with_none : (a b : ℤ) → (pos 0 *ℤ a) +ℤ b ≡ b
    with_none a b = omega (arith, ints)

    once : (a b : ℤ) → (pos 1 *ℤ a) +ℤ b ≡ a +ℤ b
    once a b = omega (arith, ints)

    term_ring : (w f z o : ℤ) → (w *ℤ (f *ℤ z)) +ℤ (o *ℤ z) ≡ ((w *ℤ f) +ℤ o) *ℤ z
    term_ring w f z o = rw (as_diff w, as_diff f, as_diff z, as_diff o) (simp diffs (same_diff _ _ _ _ (omega arith)))

-- One table's objective row, read off another table.
pub objective_read : (p : ProgramDef) (s g : State) (v : ℕ) → IsGood p s → IsGood p g
    → g.d *ℤ s.z (height p) v ≡ (s.d *ℤ g.z (height p) v) +ℤ total_below (height p) (λ i. s.z (height p) (g.basic i) *ℤ g.z i v)
objective_read p s g v hs hg =
    (mix_read (height p) (columns p) (first_z p) g.d s.d
    (s.z (height p)) g.z g.basic hs.mixes_objective hg.reads hg.reads_objective).read v

-- A basic variable has zero in the objective row.
pub objective_basic : (p : ProgramDef) (s : State) (j : ℕ) → IsGood p s → j < height p → s.z (height p) (s.basic j) ≡ pos 0
objective_basic p s j h l =
    let m : ℕ = height p in
    let costs : ℕ → ℤ = λ i. first_z p m (s.basic i) in
    let alone : total_below m (λ i. costs i *ℤ s.z i (s.basic j)) ≡ costs j *ℤ s.d
    = total_below-agree m (λ i. costs i *ℤ s.z i (s.basic j)) (only_at j (costs j *ℤ s.d))
    (λ i k. ap (λ c. costs i *ℤ c) (h.unit i j k l) ∙ only_times costs j i s.d)
    ∙ total_below-only m j (costs j *ℤ s.d) l in
    nothing_left _ _ _ _ (h.reads_objective.read (s.basic j)) alone (mul-comm s.d (costs j))
  where
    nothing_left : (x o a b : ℤ) → x ≡ (pos 1 *ℤ o) +ℤ a → a ≡ b → x ≡ b → o ≡ pos 0
    nothing_left x o a b q r t = omega (arith, ints)

pub basic_zero : (p : ProgramDef) (s : State) (v : ℕ) → IsGood p s → IsBasic p v s → s.z (height p) v ≡ pos 0
basic_zero p s v h b = subst (λ (u : ℕ). s.z (height p) u ≡ pos 0) b.is (objective_basic p s b.of_row h b.within)

pub above_same : (x y : ℤ) → x ≡ y → pos 0 <ℤ y → pos 0 <ℤ x
above_same x y e h = omega (arith, ints)

-- What enters is not basic.
pub entering_not_basic : (p : ProgramDef) (s : State) (e : ℕ) → IsGood p s → Enters p s e → IsBasic p e s → ⊥
entering_not_basic p s e h enters b = apart_of_positive _ enters.above (basic_zero p s e h b)

-- No variable is basic in two rows.
pub apart : (p : ProgramDef) (s : State) (i j : ℕ) → IsGood p s → i < height p → j < height p → s.basic i ≡ s.basic j → i ≡ j
apart p s i j h li lj same = elim (cases_eq i j) [
  | inl one ↦ one
  | inr two ↦ absurd (apart_of_positive _ h.positive
      (sym (h.unit i i li li ∙ only_at-here i s.d) ∙ (ap (s.z i) same ∙ (h.unit i j li lj ∙ only_at-away j s.d i two))))
]
