-- The tables of two runs of one program agree as far as both go. So no run goes on past the end of another.
use Rattle.std.proofs.Common.{◌≡◌, inl, inr, ℕ, zero, suc, ◌<◌, ◌≤◌, ℤ, pos, ◌-ℤ◌, ◌*ℤ◌, ◌≤ℤ◌, ◌<ℤ◌, ap, ap₂, ◌∙◌, sym, subst, arith}
use Rattle.std.proofs.lemmas.Int.{ints}
use Rattle.std.proofs.lemmas.Bool.{cases_eq, cases_lt}
use Rattle.program_form.specs.Program.{ProgramDef, height}
use Rattle.exchange_runs.specs.Table.{Table, variables, objective}
use Rattle.exchange_runs.specs.Exchange.{IsLast}
use Rattle.exchange_runs.proofs.Invariants.{exchanged, exchanged-here, exchanged-away}
use Rattle.exchange_runs.proofs.Shown.{shows_at_most_zero}
use Rattle.exchange_runs.specs.Unbounded.{FreelyReached}
use Rattle.exchange_runs.proofs.FreeStates.{State, IsGood, Enters, Leaves, IsStep, apart, above_same}
use Rattle.exchange_runs.proofs.FreeRuns.{FreeTrace, trace_of}

-- Are the denominators, numbers and bases the same?
pub record IsSameState (p : ProgramDef) (s u : State) : Type 0 where
  pub d : s.d ≡ u.d
  pub z : (i v : ℕ) → s.z i v ≡ u.z i v
  pub basic : (i : ℕ) → i < height p → s.basic i ≡ u.basic i

pub not_both : (x y : ℤ) → x ≡ y → pos 0 <ℤ x → y ≤ℤ pos 0 → ⊥
not_both x y e h k = omega (arith, ints)

same_entering : (p : ProgramDef) (s u : State) (e f : ℕ) → IsSameState p s u → Enters p s e → Enters p u f → e ≡ f
same_entering p s u e f same h k = elim (cases_lt e f) [
  | inl earlier ↦ absurd (not_both _ _ (same.z (height p) e) h.above (k.least e earlier))
  | inr back ↦ elim (cases_lt f e) [
    | inl later ↦ absurd (not_both _ _ (sym (same.z (height p) f)) k.above (h.least f later))
    | inr forth ↦ omega arith
  ]
]

at_most_same : (a b c k x y u v : ℤ) → a ≡ x → b ≡ y → c ≡ u → k ≡ v → (x *ℤ y) ≤ℤ (u *ℤ v) → (a *ℤ b) ≤ℤ (c *ℤ k)
at_most_same a b c k x y u v e f g h l = rw (e, f, g, h) l

-- Of two rows that leave, each ratio is no greater than the other; so both have the least basic variable.
same_leaving : (p : ProgramDef) (s u : State) (e r q : ℕ) → IsGood p s → IsSameState p s u → Leaves p s e r → Leaves p u e q → r ≡ q
same_leaving p s u e r q good same h k =
    let w : ℕ = variables p in
    let pivot_q : pos 0 <ℤ s.z q e = above_same _ _ (same.z q e) k.pivot in
    let pivot_r : pos 0 <ℤ u.z r e = above_same _ _ (sym (same.z r e)) h.pivot in
    let first : s.basic r ≤ s.basic q
    = h.tie q k.within pivot_q (at_most_same _ _ _ _ _ _ _ _ (same.z q w) (same.z r e) (same.z r w) (same.z q e)
    (k.ratio r h.within pivot_r)) in
    let second : u.basic q ≤ u.basic r
    = k.tie r h.within pivot_r (at_most_same _ _ _ _ _ _ _ _ (sym (same.z r w)) (sym (same.z q e)) (sym (same.z q w)) (sym (same.z r e))
    (h.ratio q k.within pivot_q)) in
    apart p s r q good h.within k.within (both _ _ _ _ first second (same.basic r h.within) (same.basic q k.within))
  where
    both : (a b c k : ℕ) → a ≤ b → c ≤ k → a ≡ k → b ≡ c → a ≡ b
    both a b c k h l e f = omega arith

same_exchanged : (p : ProgramDef) (s u : State) (e r i v : ℕ) → IsSameState p s u → exchanged r e s.d s.z i v ≡ exchanged r e u.d u.z i v
same_exchanged p s u e r i v same = elim (cases_eq i r) [
  | inl here ↦
      subst (λ (k : ℕ). exchanged r e s.d s.z k v ≡ exchanged r e u.d u.z k v) (sym here)
      (exchanged-here r e s.d s.z v ∙ (ap₂ ◌*ℤ◌ same.d (same.z r v) ∙ sym (exchanged-here r e u.d u.z v)))
  | inr away ↦
      exchanged-away r e s.d s.z i v away
      ∙ (ap₂ ◌-ℤ◌ (ap₂ ◌*ℤ◌ (same.z r e) (same.z i v)) (ap₂ ◌*ℤ◌ (same.z i e) (same.z r v)) ∙ sym (exchanged-away r e u.d u.z i v away))
]

same_after : (p : ProgramDef) (s u a b : State) (e r : ℕ) → IsSameState p s u → IsStep p s e r a → IsStep p u e r b → IsSameState p a b
same_after p s u a b e r same h k = record {
  d = h.denominator ∙ (ap₂ ◌*ℤ◌ same.d (same.z r e) ∙ sym k.denominator);
  z = λ i v. h.cells i v ∙ (same_exchanged p s u e r i v same ∙ sym (k.cells i v));
  basic = λ i l. elim (cases_eq i r) [
    | inl here ↦ ap a.basic here ∙ (h.entered ∙ (sym k.entered ∙ ap b.basic (sym here)))
    | inr away ↦ h.stayed i l away ∙ (same.basic i l ∙ sym (k.stayed i l away))
  ];
}

same_next : (p : ProgramDef) (s u a b : State) (e f r q : ℕ) → IsGood p s → IsSameState p s u → IsStep p s e r a → IsStep p u f q b
    → IsSameState p a b
same_next p s u a b e f r q good same h k =
    let one_enters : f ≡ e = sym (same_entering p s u e f same h.enters k.enters) in
    let enters_so : IsStep p u e q b = subst (λ (v : ℕ). IsStep p u v q b) one_enters k in
    let one_leaves : q ≡ r = sym (same_leaving p s u e r q good same h.leaves enters_so.leaves) in
    same_after p s u a b e r same h (subst (λ (v : ℕ). IsStep p u e v b) one_leaves enters_so)

-- Two runs agree as far as both go.
pub same_tables : (p : ProgramDef) (k j i : ℕ) (t u : Table) (h : FreeTrace p k t) (g : FreeTrace p j u) → i ≤ k → i ≤ j
    → IsSameState p (h.states i) (g.states i)
same_tables p k j zero t u h g to_k to_j = record {
  d = h.start_d ∙ sym g.start_d;
  z = λ i v. h.start_z i v ∙ sym (g.start_z i v);
  basic = λ i l. h.start_basic i l ∙ sym (g.start_basic i l);
}
same_tables p k j (suc i) t u h g to_k to_j =
    same_next p (h.states i) (g.states i) (h.states (suc i)) (g.states (suc i)) (h.entering i) (g.entering i) (h.leaving i) (g.leaving i)
    (h.trace.good i (omega arith)) (same_tables p k j i t u h g (omega arith) (omega arith)) (h.trace.step i (omega arith))
    (g.trace.step i (omega arith))

-- Where a table is the last, no run makes more exchanges.
pub no_later_end : (p : ProgramDef) (k j : ℕ) (t u : Table) → FreelyReached p k t → IsLast p t → FreelyReached p j u → j ≤ k
no_later_end p k j t u reached last other = elim (cases_lt k j) [
  | inr most ↦ most
  | inl later ↦
      let h : FreeTrace p k t = trace_of p k t reached in
      let g : FreeTrace p j u = trace_of p j u other in
      let same : IsSameState p (h.states k) (g.states k) = same_tables p k j k t u h g (omega arith) (omega arith) in
      let enters : Enters p (g.states k) (g.entering k) = (g.trace.step k later).enters in
      let e : ℕ = g.entering k in
      let none : h.z (height p) e ≤ℤ pos 0
      = shows_at_most_zero h.d (h.z (height p) e) (objective p t e) h.shadow.positive (h.shadow.shows (height p) e (omega arith))
      (last.none e enters.within) in
      absurd (not_both _ _ (sym (same.z (height p) e) ∙ ap (λ s. s.z (height p) e) h.at_end) enters.above none)
]
