-- No basis comes twice in a run of exchanges by the least entering and the least leaving variable. So their number is bounded.
use Rattle.std.proofs.Common.{◌≡◌, ◌⊎◌, inl, inr, ℕ, zero, suc, ◌^◌, ◌<◌, ◌≤◌, max, Bool, true, ℤ, pos, ◌+ℤ◌, ◌-ℤ◌}
use Rattle.std.proofs.Common.{◌*ℤ◌, ◌≤ℤ◌, ◌<ℤ◌, refl, ap, ◌∙◌, sym, subst, arith, nat_eq}
use Rattle.std.proofs.lemmas.Int.{ints, by_lt_z}
use Rattle.std.proofs.lemmas.Bool.{cases_eq, cases_lt, eq-eqb, eqb-true}
use lib.Signed.{≤ℤ_refl}
use Rattle.number_laws.proofs.Ring.{as_diff, diffs, same_diff, mul-comm, zero-mul}
use Rattle.number_laws.proofs.Order.{times_nonneg, times_positive, weaker}
use Rattle.number_laws.proofs.Comparison.{chained_le}
use Rattle.number_laws.specs.Tests.{any_below}
use Rattle.number_laws.proofs.TotalLaws.{total_below-zero}
use Rattle.number_laws.proofs.TestLaws.{any_below-from, any_below-some}
use Rattle.program_form.specs.Program.{ProgramDef, height}
use Rattle.exchange_runs.specs.Table.{variables}
use Rattle.exchange_runs.proofs.Invariants.{exchanged-away}
use Rattle.exchange_runs.proofs.FreeStates.{State, IsGood, Enters, IsStep, IsBasic, objective_read, basic_zero, entering_not_basic, apart}
use Rattle.exchange_runs.proofs.Bland.{IsFirm, no_return, firm_on, firm_back}
use Rattle.exchange_runs.proofs.Pigeons.{HasTwice, pigeons, code, code_below, code_same}

-- Are the tables T 0 to T most a run, where from T j variable e j enters and row r j leaves?
pub record IsTrace (p : ProgramDef) (most : ℕ) (T : ℕ → State) (e r : ℕ → ℕ) : Type 0 where
  pub good : (j : ℕ) → j ≤ most → IsGood p (T j)
  pub step : (j : ℕ) → j < most → IsStep p (T j) (e j) (r j) (T (suc j))

-- The value is minus the objective's limit number over the denominator. Is that of s no greater than that of u?
abbrev IsNoMore : ProgramDef → State → State → Type 0
IsNoMore p s u = (s.z (height p) (variables p) *ℤ u.d) ≤ℤ (u.z (height p) (variables p) *ℤ s.d)

no_more_itself : (p : ProgramDef) (s : State) → IsNoMore p s s
no_more_itself p s = ≤ℤ_refl _

no_more_through : (p : ProgramDef) (s u v : State) → IsGood p s → IsGood p u → IsGood p v → IsNoMore p s u → IsNoMore p u v
    → IsNoMore p s v
no_more_through p s u v hs hu hv h k =
    chained_le (s.z (height p) (variables p)) (u.z (height p) (variables p))
    (v.z (height p) (variables p)) s.d u.d v.d hs.positive hu.positive hv.positive h k

-- What an exchange takes off the objective's limit.
taken_off : (p : ProgramDef) (s u : State) (e r : ℕ) → IsStep p s e r u
    → u.z (height p) (variables p) *ℤ s.d ≡ (s.z (height p) (variables p) *ℤ u.d) -ℤ ((s.z (height p) e *ℤ s.z r (variables p)) *ℤ s.d)
taken_off p s u e r step =
    ap (λ c. c *ℤ s.d) (step.cells (height p) (variables p)
    ∙ exchanged-away r e s.d s.z (height p) (variables p) (other step.leaves.within))
    ∙ (off_ring (s.z r e) (s.z (height p) (variables p)) (s.z (height p) e) (s.z r (variables p)) s.d
    ∙ ap (λ c. (s.z (height p) (variables p) *ℤ c) -ℤ ((s.z (height p) e *ℤ s.z r (variables p)) *ℤ s.d)) (sym step.denominator))
  where
    other : r < height p → height p ≡ r → ⊥
    other l same = omega arith

    off_ring : (q v c y d : ℤ) → ((q *ℤ v) -ℤ (c *ℤ y)) *ℤ d ≡ (v *ℤ (d *ℤ q)) -ℤ ((c *ℤ y) *ℤ d)
    off_ring q v c y d = rw (as_diff q, as_diff v, as_diff c, as_diff y, as_diff d) (simp diffs (same_diff _ _ _ _ (omega arith)))

step_falls : (p : ProgramDef) (s u : State) (e r : ℕ) → IsGood p s → IsStep p s e r u → IsNoMore p u s
step_falls p s u e r good step =
    less _ _ _ (taken_off p s u e r step)
    (times_nonneg _ s.d (times_nonneg _ _ (weaker step.enters.above) (good.limits r step.leaves.within)) (weaker good.positive))
  where
    less : (x y k : ℤ) → x ≡ y -ℤ k → pos 0 ≤ℤ k → x ≤ℤ y
    less x y k q h = omega (arith, ints)

-- With a limit above zero it falls.
step_drops : (p : ProgramDef) (s u : State) (e r : ℕ) → IsGood p s → IsStep p s e r u → pos 0 <ℤ s.z r (variables p) → IsNoMore p s u → ⊥
step_drops p s u e r good step above back =
    not_back _ _ _ (taken_off p s u e r step) (times_positive _ s.d (times_positive _ _ step.enters.above above) good.positive) back
  where
    not_back : (x y k : ℤ) → x ≡ y -ℤ k → pos 0 <ℤ k → y ≤ℤ x → ⊥
    not_back x y k q h l = omega (arith, ints)

later_no_more : (p : ProgramDef) (most : ℕ) (T : ℕ → State) (e r : ℕ → ℕ) (j k : ℕ) → IsTrace p most T e r → j ≤ k → k ≤ most
    → IsNoMore p (T k) (T j)
later_no_more p most T e r j zero trace l m =
    let same : 0 ≡ j = omega arith in subst (λ (i : ℕ). IsNoMore p (T 0) (T i)) same (no_more_itself p (T 0))
later_no_more p most T e r j (suc k) trace l m = elim (cases_lt j (suc k)) [
  | inl before ↦
      no_more_through p (T (suc k)) (T k) (T j) (trace.good (suc k) m) (trace.good k (omega arith)) (trace.good j (omega arith))
      (step_falls p (T k) (T (suc k)) (e k) (r k) (trace.good k (omega arith)) (trace.step k (omega arith)))
      (later_no_more p most T e r j k trace (omega arith) (omega arith))
  | inr at ↦ let same : suc k ≡ j = omega arith in subst (λ (i : ℕ). IsNoMore p (T (suc k)) (T i)) same (no_more_itself p (T (suc k)))
]

-- One basis has one value.
one_value : (p : ProgramDef) (s g : State) → IsGood p s → IsGood p g → ((i : ℕ) → i < height p → IsBasic p (g.basic i) s) → IsNoMore p s g
one_value p s g hs hg basic =
    same_value _ _ _ _ _ (objective_read p s g (variables p) hs hg)
    (total_below-zero (height p) (λ i. s.z (height p) (g.basic i) *ℤ g.z i (variables p))
    (λ i l. zero_times _ _ (basic_zero p s (g.basic i) hs (basic i l))))
    (mul-comm g.d (s.z (height p) (variables p))) (mul-comm s.d (g.z (height p) (variables p)))
  where
    zero_times : (a b : ℤ) → a ≡ pos 0 → a *ℤ b ≡ pos 0
    zero_times a b h = rw h (zero-mul b)

    same_value : (x y t u v : ℤ) → x ≡ y +ℤ t → t ≡ pos 0 → x ≡ u → y ≡ v → u ≤ℤ v
    same_value x y t u v q h k n = omega (arith, ints)

-- Between two tables with one basis the value stays.
all_flat : (p : ProgramDef) (most : ℕ) (T : ℕ → State) (e r : ℕ → ℕ) (a b j : ℕ) → IsTrace p most T e r → b ≤ most → a ≤ j → j < b
    → ((v : ℕ) → IsBasic p v (T b) → IsBasic p v (T a)) → (T j).z (r j) (variables p) ≡ pos 0
all_flat p most T e r a b j trace to from before back =
    let s : State = T j in
    let u : State = T (suc j) in
    let good : (i : ℕ) → i ≤ b → IsGood p (T i) = λ i l. trace.good i (omega arith) in
    let a_to_b : IsNoMore p (T a) (T b)
    = one_value p (T a) (T b) (good a (omega arith)) (good b (omega arith))
    (λ i l. back ((T b).basic i) (record { of_row = i; within = l; is = refl })) in
    let j_to_b : IsNoMore p s (T b) = no_more_through p s (T a) (T b) (good j (omega arith)) (good a (omega arith)) (good b (omega arith))
    (later_no_more p most T e r a j trace from (omega arith)) a_to_b in
    let j_to_next : IsNoMore p s u
    = no_more_through p s (T b) u (good j (omega arith)) (good b (omega arith)) (good (suc j) (omega arith)) j_to_b
    (later_no_more p most T e r (suc j) b trace (omega arith) to) in
    by_lt_z (pos 0) (s.z (r j) (variables p))
    (λ above. absurd (step_drops p s u (e j) (r j) (good j (omega arith)) (trace.step j (omega arith)) above j_to_next))
    (λ none. zero_of _ none ((good j (omega arith)).limits (r j) (trace.step j (omega arith)).leaves.within))
  where
    zero_of : (x : ℤ) → x ≤ℤ pos 0 → pos 0 ≤ℤ x → x ≡ pos 0
    zero_of x h k = omega (arith, ints)

-- From a to b, does no variable past t move, and the value stay?
record IsCalm (p : ProgramDef) (most : ℕ) (T : ℕ → State) (e r : ℕ → ℕ) (t a b : ℕ) : Type 0 where
  trace : IsTrace p most T e r
  to : b ≤ most
  entered : (j : ℕ) → a ≤ j → j < b → e j ≤ t
  left : (j : ℕ) → a ≤ j → j < b → (T j).basic (r j) ≤ t
  flat : (j : ℕ) → a ≤ j → j < b → (T j).z (r j) (variables p) ≡ pos 0

firm_to : (p : ProgramDef) (most : ℕ) (T : ℕ → State) (e r : ℕ → ℕ) (t a b i k : ℕ) → IsCalm p most T e r t a b → i < height p → a ≤ k
    → k ≤ b
    → IsFirm p t (T a) i → IsFirm p t (T k) i × ((T k).basic i ≡ (T a).basic i)
firm_to p most T e r t a b i zero calm l from to firm =
    let same : a ≡ 0 = omega arith in subst (λ (k : ℕ). IsFirm p t (T k) i × ((T k).basic i ≡ (T a).basic i)) same (firm, refl)
firm_to p most T e r t a b i (suc k) calm l from to firm = elim (cases_lt a (suc k)) [
  | inl before ↦
      let last = firm_to p most T e r t a b i k calm l (omega arith) (omega arith) firm in
      let next = firm_on p t (T k) (T (suc k)) (e k) (r k) i (calm.trace.step k (omega (arith, calm.to)))
      (calm.left k (omega arith) (omega arith)) (calm.flat k (omega arith) (omega arith)) l last.0 in
      (next.0, next.1 ∙ last.1)
  | inr at ↦ let same : a ≡ suc k = omega arith in
      subst (λ (k : ℕ). IsFirm p t (T k) i × ((T k).basic i ≡ (T a).basic i)) same (firm, refl)
]

firm_from : (p : ProgramDef) (most : ℕ) (T : ℕ → State) (e r : ℕ → ℕ) (t a b i k : ℕ) → IsCalm p most T e r t a b → i < height p → a ≤ k
    → k ≤ b
    → IsFirm p t (T k) i → IsFirm p t (T a) i × ((T k).basic i ≡ (T a).basic i)
firm_from p most T e r t a b i zero calm l from to firm =
    let same : 0 ≡ a = omega arith in subst (λ (k : ℕ). IsFirm p t (T k) i × ((T 0).basic i ≡ (T k).basic i)) same (firm, refl)
firm_from p most T e r t a b i (suc k) calm l from to firm = elim (cases_lt a (suc k)) [
  | inl before ↦
      let next = firm_back p t (T k) (T (suc k)) (e k) (r k) i (calm.trace.step k (omega (arith, calm.to)))
      (calm.entered k (omega arith) (omega arith)) (calm.flat k (omega arith) (omega arith)) l firm in
      let last = firm_from p most T e r t a b i k calm l (omega arith) (omega arith) next.0 in
      (last.0, next.1 ∙ last.1)
  | inr at ↦ let same : suc k ≡ a = omega arith in
      subst (λ (j : ℕ). IsFirm p t (T j) i × ((T (suc k)).basic i ≡ (T j).basic i)) same (firm, refl)
]

-- While it is calm t does not both leave and enter.
not_both_ways : (p : ProgramDef) (most : ℕ) (T : ℕ → State) (e r : ℕ → ℕ) (t a b j k : ℕ) → IsCalm p most T e r t a b → a ≤ j → j < b
    → a ≤ k → k < b
    → (T j).basic (r j) ≡ t → e k ≡ t → ⊥
not_both_ways p most T e r t a b j k calm from_j to_j from_k to_k leaves enters =
    no_return p (T j) (T k) (e j) (r j) t (calm.trace.good j (omega (arith, calm.to))) (calm.trace.good k (omega (arith, calm.to)))
    (calm.trace.step j (omega (arith, calm.to))).enters (calm.trace.step j (omega (arith, calm.to))).leaves leaves
    (subst (λ (v : ℕ). Enters p (T k) v) enters (calm.trace.step k (omega (arith, calm.to))).enters)
    (calm.entered j from_j to_j)
    (λ i l firm.
    let first = firm_from p most T e r t a b i j calm l from_j (omega arith) firm in
    let there = firm_to p most T e r t a b i k calm l from_k (omega arith) first.0 in
    record { of_row = i; within = l; is = there.1 ∙ sym first.1 })

-- A basic variable that does not leave is basic after the exchange, and one that did not enter was basic before it.
basic_on : (p : ProgramDef) (v : ℕ) (s u : State) (e r : ℕ) → IsStep p s e r u → (s.basic r ≡ v → ⊥) → IsBasic p v s → IsBasic p v u
basic_on p v s u e r step stays b = record {
  of_row = b.of_row;
  within = b.within;
  is = step.stayed b.of_row b.within (λ here. stays (ap s.basic (sym here) ∙ b.is)) ∙ b.is;
}

basic_back : (p : ProgramDef) (v : ℕ) (s u : State) (e r : ℕ) → IsStep p s e r u → (e ≡ v → ⊥) → IsBasic p v u → IsBasic p v s
basic_back p v s u e r step other b = record {
  of_row = b.of_row;
  within = b.within;
  is = sym (step.stayed b.of_row b.within (λ here. other (sym step.entered ∙ (ap u.basic (sym here) ∙ b.is)))) ∙ b.is;
}

stays : (p : ProgramDef) (most : ℕ) (T : ℕ → State) (e r : ℕ → ℕ) (v j k : ℕ) → IsTrace p most T e r
    → ((l : ℕ) → j ≤ l → l < k → (T l).basic (r l) ≡ v → ⊥) → j ≤ k → k ≤ most → IsBasic p v (T j) → IsBasic p v (T k)
stays p most T e r v j zero trace never from to b = let same : j ≡ 0 = omega arith in subst (λ (i : ℕ). IsBasic p v (T i)) same b
stays p most T e r v j (suc k) trace never from to b = elim (cases_lt j (suc k)) [
  | inl before ↦
      basic_on p v (T k) (T (suc k)) (e k) (r k) (trace.step k (omega arith)) (never k (omega arith) (omega arith))
      (stays p most T e r v j k trace (λ l f g. never l f (omega arith)) (omega arith) (omega arith) b)
  | inr at ↦ let same : j ≡ suc k = omega arith in subst (λ (i : ℕ). IsBasic p v (T i)) same b
]

was_there : (p : ProgramDef) (most : ℕ) (T : ℕ → State) (e r : ℕ → ℕ) (v j k : ℕ) → IsTrace p most T e r
    → ((l : ℕ) → j ≤ l → l < k → e l ≡ v → ⊥) → j ≤ k → k ≤ most → IsBasic p v (T k) → IsBasic p v (T j)
was_there p most T e r v j zero trace never from to b = let same : 0 ≡ j = omega arith in subst (λ (i : ℕ). IsBasic p v (T i)) same b
was_there p most T e r v j (suc k) trace never from to b = elim (cases_lt j (suc k)) [
  | inl before ↦
      was_there p most T e r v j k trace (λ l f g. never l f (omega arith)) (omega arith) (omega arith)
      (basic_back p v (T k) (T (suc k)) (e k) (r k) (trace.step k (omega arith)) (never k (omega arith) (omega arith)) b)
  | inr at ↦ let same : suc k ≡ j = omega arith in subst (λ (i : ℕ). IsBasic p v (T i)) same b
]

-- Is f j the greatest of f a to f (b - 1)?
record IsGreatest (f : ℕ → ℕ) (a b j : ℕ) : Type 0 where
  from : a ≤ j
  to : j < b
  greatest : (i : ℕ) → a ≤ i → i < b → f i ≤ f j

greatest_of : (f : ℕ → ℕ) (a b : ℕ) → a < b → (j : ℕ) × IsGreatest f a b j
greatest_of f a zero l = absurd (omega arith)
greatest_of f a (suc b) l = elim (cases_lt a b) [
  | inl more ↦
      let last : (j : ℕ) × IsGreatest f a b j = greatest_of f a b more in
      elim (cases_lt (f last.0) (f b)) [
        | inl take ↦ (
          b,
          record {
            from = omega arith;
            to = omega arith;
            greatest = λ i g h. elim (cases_lt i b) [
              | inl earlier ↦ omega (arith, last.1.greatest i g earlier)
              | inr end ↦ let same : i ≡ b = omega arith in rw same (omega arith)
            ];
          },
        )
        | inr keep ↦ (
          last.0,
          record {
            from = last.1.from;
            to = omega (arith, last.1.to);
            greatest = λ i g h. elim (cases_lt i b) [
              | inl earlier ↦ last.1.greatest i g earlier
              | inr end ↦ let same : i ≡ b = omega arith in rw same keep
            ];
          },
        )
      ]
  | inr one ↦ (
    b,
    record {
      from = omega arith;
      to = omega arith;
      greatest = λ i g h. let same : i ≡ b = omega arith in rw same (omega arith);
    },
  )
]

-- Where the greatest variable that moves enters, and where it leaves.
enters_once : (p : ProgramDef) (most : ℕ) (T : ℕ → State) (e r : ℕ → ℕ) (t a b j : ℕ) → IsCalm p most T e r t a b → a ≤ j → j < b
    → ((v : ℕ) → IsBasic p v (T b) → IsBasic p v (T a)) → e j ≡ t → ⊥
enters_once p most T e r t a b j calm from to back enters =
    let never : (l : ℕ) → a ≤ l → l < b → (T l).basic (r l) ≡ t → ⊥
    = λ l f g leaves. not_both_ways p most T e r t a b l j calm f g from to leaves enters in
    let step : IsStep p (T j) (e j) (r j) (T (suc j)) = calm.trace.step j (omega (arith, calm.to)) in
    let after : IsBasic p t (T (suc j)) = record { of_row = r j; within = step.leaves.within; is = step.entered ∙ enters } in
    let at_end : IsBasic p t (T b) = stays p most T e r t (suc j) b calm.trace (λ l f g. never l (omega arith) g)
    (omega arith) calm.to after in
    let at_j : IsBasic p t (T j) = stays p most T e r t a j calm.trace (λ l f g. never l f (omega arith)) from (omega (arith, calm.to))
    (back t at_end) in
    entering_not_basic p (T j) t (calm.trace.good j (omega (arith, calm.to)))
    (subst (λ (v : ℕ). Enters p (T j) v) enters step.enters) at_j

leaves_once : (p : ProgramDef) (most : ℕ) (T : ℕ → State) (e r : ℕ → ℕ) (t a b j : ℕ) → IsCalm p most T e r t a b → a ≤ j → j < b
    → ((v : ℕ) → v < variables p → IsBasic p v (T a) → IsBasic p v (T b)) → (T j).basic (r j) ≡ t → ⊥
leaves_once p most T e r t a b j calm from to forth leaves =
    let never : (l : ℕ) → a ≤ l → l < b → e l ≡ t → ⊥
    = λ l f g enters. not_both_ways p most T e r t a b j l calm from to f g leaves enters in
    let step : IsStep p (T j) (e j) (r j) (T (suc j)) = calm.trace.step j (omega (arith, calm.to)) in
    let good : IsGood p (T j) = calm.trace.good j (omega (arith, calm.to)) in
    let at_j : IsBasic p t (T j) = record { of_row = r j; within = step.leaves.within; is = leaves } in
    let variable : t < variables p = subst (λ (v : ℕ). v < variables p) leaves (good.basics (r j) step.leaves.within) in
    let at_start : IsBasic p t (T a) = was_there p most T e r t a j calm.trace (λ l f g. never l f (omega arith)) from
    (omega (arith, calm.to)) at_j in
    let after : IsBasic p t (T (suc j)) = was_there p most T e r t (suc j) b calm.trace (λ l f g. never l (omega arith) g)
    (omega arith) calm.to (forth t variable at_start) in
    elim (cases_eq after.of_row (r j)) [
      | inl here ↦ never j from to (sym step.entered ∙ (ap (T (suc j)).basic (sym here) ∙ after.is))
      | inr away ↦ away (apart p (T j) after.of_row (r j) good after.within step.leaves.within
          (sym (step.stayed after.of_row after.within away) ∙ (after.is ∙ sym leaves)))
    ]

no_repeat : (p : ProgramDef) (most : ℕ) (T : ℕ → State) (e r : ℕ → ℕ) (a b : ℕ) → IsTrace p most T e r → a < b → b ≤ most
    → ((v : ℕ) → v < variables p → IsBasic p v (T a) → IsBasic p v (T b)) → ((v : ℕ) → IsBasic p v (T b) → IsBasic p v (T a)) → ⊥
no_repeat p most T e r a b trace before to forth back =
    let moves : ℕ → ℕ = λ j. max (e j) ((T j).basic (r j)) in
    let best : (j : ℕ) × IsGreatest moves a b j = greatest_of moves a b before in
    let t : ℕ = moves best.0 in
    let calm : IsCalm p most T e r t a b = record {
      trace = trace;
      to = to;
      entered = λ j f l. left_part (e j) ((T j).basic (r j)) t (best.1.greatest j f l);
      left = λ j f l. right_part (e j) ((T j).basic (r j)) t (best.1.greatest j f l);
      flat = λ j f l. all_flat p most T e r a b j trace to f l back;
    } in
    elim (either (e best.0) ((T best.0).basic (r best.0))) [
      | inl enters ↦ enters_once p most T e r t a b best.0 calm best.1.from best.1.to back enters
      | inr leaves ↦ leaves_once p most T e r t a b best.0 calm best.1.from best.1.to forth leaves
    ]
  where
    left_part : (x y k : ℕ) → max x y ≤ k → x ≤ k
    left_part x y k h = omega arith

    right_part : (x y k : ℕ) → max x y ≤ k → y ≤ k
    right_part x y k h = omega arith

    either : (x y : ℕ) → (x ≡ max x y) ⊎ (y ≡ max x y)
    either x y = elim (cases_lt x y) [
      | inl less ↦ inr (omega arith)
      | inr more ↦ inl (omega arith)
    ]

-- The basis as a set of variables.
abbrev is_basic : ProgramDef → State → ℕ → Bool
is_basic p s v = any_below (height p) (λ i. nat_eq (s.basic i) v)

basic_passes : (p : ProgramDef) (s : State) (v : ℕ) → IsBasic p v s → is_basic p s v ≡ true
basic_passes p s v b = any_below-from (height p) (λ i. nat_eq (s.basic i) v) b.of_row b.within (eq-eqb (s.basic b.of_row) v b.is)

passes_basic : (p : ProgramDef) (s : State) (v : ℕ) → is_basic p s v ≡ true → IsBasic p v s
passes_basic p s v h =
    let there : (i : ℕ) × (i < height p) × (nat_eq (s.basic i) v ≡ true) = any_below-some (height p) (λ i. nat_eq (s.basic i) v) h in
    record { of_row = there.0; within = there.1; is = eqb-true (s.basic there.0) v there.2 }

-- A run makes fewer exchanges than there are sets of variables.
pub trace_ends : (p : ProgramDef) (most : ℕ) (T : ℕ → State) (e r : ℕ → ℕ) → IsTrace p most T e r → most < 2 ^ variables p
trace_ends p most T e r trace = elim (cases_lt most (2 ^ variables p)) [
  | inl fewer ↦ fewer
  | inr many ↦
      let codes : ℕ → ℕ = λ j. code (variables p) (is_basic p (T j)) in
      let twice : HasTwice codes (2 ^ variables p)
      = pigeons (2 ^ variables p) codes (λ i l. code_below (variables p) (is_basic p (T i))) in
      let same : (v : ℕ) → v < variables p → is_basic p (T twice.0) v ≡ is_basic p (T twice.1) v
      = code_same (variables p) (is_basic p (T twice.0)) (is_basic p (T twice.1)) twice.4 in
      absurd (no_repeat p most T e r twice.0 twice.1 trace twice.2 (omega (arith, twice.3))
      (λ v l b. passes_basic p (T twice.1) v (sym (same v l) ∙ basic_passes p (T twice.0) v b))
      (λ v b. passes_basic p (T twice.0) v (same v (within twice.1 v (omega (arith, twice.3)) b) ∙ basic_passes p (T twice.1) v b)))
]
  where
    within : (j v : ℕ) → j ≤ most → IsBasic p v (T j) → v < variables p
    within j v l b = subst (λ (u : ℕ). u < variables p) b.is ((trace.good j l).basics b.of_row b.within)
