-- What runs while the tasks come, one after the other.
use Rattle.std.proofs.Common.{◌≡◌, ◌⊎◌, ℕ, ◌+◌, ◌<◌, ◌≤◌, ◌==◌, ◌&&◌, ◌||◌, not, true, false, refl, sym, ap, ◌∙◌, arith}
use Rattle.std.proofs.Common.{inl, inr, Option, Some, None, ltb, subst}
use Rattle.std.proofs.lemmas.Bool.{cases_Bool, and_parts, and_cases, or_cases, or_left, or_right, or_parts, both_ways}
use Rattle.std.proofs.lemmas.Bool.{not-true, not-false, eq-eqb, eqb-true, ltb-true, ltb-false}
use Rattle.schedule_model.specs.Phase.{is_local}
use Rattle.shared_choosing.specs.Scene.{Scene, holds, may_run, IsActiveJob, is_outrun, enters, entered}
use Rattle.shared_choosing.specs.Walks.{come_to}
use Rattle.shared_choosing.specs.Choosing.{Leads, Placed}
use Rattle.shared_choosing.proofs.Granting.{earlier_or, earlier_only}

pub placed_first : (s : Scene) (held running : ℕ → Option ℕ) → ((k : ℕ) → running k ≡ None) → Placed s held 0 running
placed_first s held running empty = record {
  active = λ k r e. let x : None ≡ Some r = sym (empty k) ∙ e in absurd (cc);
  ready = λ k r e. let x : None ≡ Some r = sym (empty k) ∙ e in absurd (cc);
  column = λ k r e. let x : None ≡ Some r = sym (empty k) ∙ e in absurd (cc);
  early = λ k r e. let x : None ≡ Some r = sym (empty k) ∙ e in absurd (cc);
  busy = λ k e i a l own. absurd (omega arith);
  holders = λ k r e i a l own h. absurd (omega arith);
  locals = λ k r e fails i a l own h. absurd (omega arith);
}

-- What follows where the job that comes doesn't run on its processor in place of r.
record Stays (s : Scene) (held : ℕ → Option ℕ) (j r : ℕ) : Type 0 where
  holds : holds s held r ≡ true
  first : s.run r ≤ s.run j

stayed : (s : Scene) (held : ℕ → Option ℕ) (j r : ℕ) → is_outrun s held j (Some r) ≡ false → holds s held j ≡ true → Stays s held j r
stayed s held j r fails h = elim (and_cases (holds s held j) (not (holds s held r) || ltb (s.run j) (s.run r)) fails) [
  | inl other ↦ absurd (both_ways (holds s held j) other h)
  | inr rest ↦
      let p : (not (holds s held r) ≡ false) × (ltb (s.run j) (s.run r) ≡ false) =
      or_parts (not (holds s held r)) (ltb (s.run j) (s.run r)) rest in
      record { holds = not-false (holds s held r) p.0; first = ltb-false (s.run j) (s.run r) p.1 }
]

refused : (s : Scene) (held : ℕ → Option ℕ) (j k : ℕ) (o : Option ℕ) → enters s held j k o ≡ false → s.processor j ≡ k
    → may_run s held j ≡ true → is_outrun s held j o ≡ false
refused s held j k o fails own may = elim (and_cases (s.processor j == k) (may_run s held j && is_outrun s held j o) fails) [
  | inl other ↦ absurd (both_ways (s.processor j == k) other (eq-eqb _ _ own))
  | inr rest ↦ elim (and_cases (may_run s held j) (is_outrun s held j o) rest) [
    | inl waits ↦ absurd (both_ways (may_run s held j) waits may)
    | inr out ↦ out
  ]
]

record Taken (s : Scene) (held running more : ℕ → Option ℕ) (k j : ℕ) : Type 0 where
  own : s.processor j ≡ k
  may : may_run s held j ≡ true
  out : is_outrun s held j (running k) ≡ true
  now : more k ≡ Some j

record Left (s : Scene) (held running more : ℕ → Option ℕ) (k j : ℕ) : Type 0 where
  fails : enters s held j k (running k) ≡ false
  now : more k ≡ running k

taken_or : (s : Scene) (held running more : ℕ → Option ℕ) (k j : ℕ) → more k ≡ entered s held j k (running k)
    → Taken s held running more k j ⊎ Left s held running more k j
taken_or s held running more k j same = elim (cases_Bool (enters s held j k (running k))) [
  | inl passes ↦
      let e : more k ≡ Some j = rw passes at same in
      let p : ((s.processor j == k) ≡ true) × ((may_run s held j && is_outrun s held j (running k)) ≡ true) =
      and_parts (s.processor j == k) (may_run s held j && is_outrun s held j (running k)) passes in
      let q : (may_run s held j ≡ true) × (is_outrun s held j (running k) ≡ true) =
      and_parts (may_run s held j) (is_outrun s held j (running k)) p.1 in
      inl (record { own = eqb-true _ _ p.0; may = q.0; out = q.1; now = e })
  | inr fails ↦ let e : more k ≡ running k = rw fails at same in inr (record { fails = fails; now = e })
]

placed_some : (s : Scene) (held : ℕ → Option ℕ) (x j : ℕ) (running more : ℕ → Option ℕ) → Placed s held x running
    → IsActiveJob s x (Some j) → ((k : ℕ) → more k ≡ entered s held j k (running k))
    → Placed s held (x + 1) more
placed_some s held x j running more g own same = record {
  active = active;
  ready = ready;
  column = column;
  early = early;
  busy = busy;
  holders = holders;
  locals = locals;
} where
  one : (k r : ℕ) → Taken s held running more k j → more k ≡ Some r → j ≡ r
  one k r t e = let two : Some j ≡ Some r = sym t.now ∙ e in cc

  active : (k r : ℕ) → more k ≡ Some r → s.active r ≡ true
  active k r e = elim (taken_or s held running more k j (same k)) [
    | inl t ↦ subst (λ y. s.active y ≡ true) (one k r t e) own.0
    | inr l ↦ g.active k r (sym l.now ∙ e)
  ]

  ready : (k r : ℕ) → more k ≡ Some r → may_run s held r ≡ true
  ready k r e = elim (taken_or s held running more k j (same k)) [
    | inl t ↦ subst (λ y. may_run s held y ≡ true) (one k r t e) t.may
    | inr l ↦ g.ready k r (sym l.now ∙ e)
  ]

  column : (k r : ℕ) → more k ≡ Some r → s.processor r ≡ k
  column k r e = elim (taken_or s held running more k j (same k)) [
    | inl t ↦ subst (λ y. s.processor y ≡ k) (one k r t e) t.own
    | inr l ↦ g.column k r (sym l.now ∙ e)
  ]

  early : (k r : ℕ) → more k ≡ Some r → s.task r < x + 1
  early k r e = elim (taken_or s held running more k j (same k)) [
    | inl t ↦ let own_task : s.task r ≡ x = sym (ap s.task (one k r t e)) ∙ own.1 in omega arith
    | inr l ↦ let a : s.task r < x = g.early k r (sym l.now ∙ e) in omega arith
  ]

  busy : (k : ℕ) → more k ≡ None → (i : ℕ) → s.active i ≡ true → s.task i < x + 1 → s.processor i ≡ k → may_run s held i ≡ false
  busy k e i a l here = elim (taken_or s held running more k j (same k)) [
    | inl t ↦ let two : Some j ≡ None = sym t.now ∙ e in absurd (cc)
    | inr left ↦
        let e2 : running k ≡ None = sym left.now ∙ e in
        elim (earlier_or s x j i own a l) [
          | inl earlier ↦ g.busy k e2 i a earlier here
          | inr self ↦ subst (λ y. may_run s held y ≡ false) (sym self) (elim (cases_Bool (may_run s held j)) [
            | inr fails ↦ fails
            | inl may ↦
                let out : is_outrun s held j (running k) ≡ false =
                refused s held j k (running k) left.fails (sym (ap s.processor self) ∙ here) may in
                let passes : is_outrun s held j (running k) ≡ true = ap (is_outrun s held j) e2 in
                absurd (both_ways (is_outrun s held j (running k)) out passes)
          ])
        ]
  ]

  -- The job that comes leads the holders that have come.
  enterer_leads : (k i : ℕ) (o : Option ℕ) → running k ≡ o → is_outrun s held j o ≡ true → s.active i ≡ true
      → s.task i < x → s.processor i ≡ k → holds s held i ≡ true
      → (holds s held j ≡ true) × Leads s.run s.task j i
  enterer_leads k i None e out a l here h =
      let may : may_run s held i ≡ true = or_right (is_local (s.phase i)) (holds s held i) h in
      absurd (both_ways (may_run s held i) (g.busy k e i a l here) may)
  enterer_leads k i (Some r) e out a l here h =
      let p : (holds s held j ≡ true) × ((not (holds s held r) || ltb (s.run j) (s.run r)) ≡ true) =
      and_parts (holds s held j) (not (holds s held r) || ltb (s.run j) (s.run r)) out in
      let before : (holds s held r ≡ true) × Leads s.run s.task r i = g.holders k r e i a l here h in
      elim (or_cases (not (holds s held r)) (ltb (s.run j) (s.run r)) p.1) [
        | inl none ↦ absurd (both_ways (holds s held r) (not-true (holds s held r) none) before.0)
        | inr less ↦
            let later : s.run j < s.run r = ltb-true (s.run j) (s.run r) less in
            let leads : Leads s.run s.task r i = before.1 in
            let first : s.run r ≤ s.run i = leads.first in
            (p.0, record { first = omega arith; tie = λ f. absurd (omega arith) })
      ]

  holders : (k r : ℕ) → more k ≡ Some r → (i : ℕ) → s.active i ≡ true → s.task i < x + 1 → s.processor i ≡ k
      → holds s held i ≡ true → (holds s held r ≡ true) × Leads s.run s.task r i
  holders k r e i a l here h = elim (taken_or s held running more k j (same k)) [
    | inl t ↦ subst (λ y. (holds s held y ≡ true) × Leads s.run s.task y i) (one k r t e) (elim (earlier_or s x j i own a l) [
      | inl earlier ↦ enterer_leads k i (running k) refl t.out a earlier here h
      | inr self ↦ subst (λ y. (holds s held j ≡ true) × Leads s.run s.task j y) (sym self)
          (subst (λ y. holds s held y ≡ true) self h, record { first = omega arith; tie = λ f. omega arith })
    ])
    | inr left ↦
        let e2 : running k ≡ Some r = sym left.now ∙ e in
        elim (earlier_or s x j i own a l) [
          | inl earlier ↦ g.holders k r e2 i a earlier here h
          | inr self ↦
              let hj : holds s held j ≡ true = subst (λ y. holds s held y ≡ true) self h in
              let may : may_run s held j ≡ true = or_right (is_local (s.phase j)) (holds s held j) hj in
              let out : is_outrun s held j (Some r) ≡ false = sym (ap (is_outrun s held j) e2)
              ∙ refused s held j k (running k) left.fails (sym (ap s.processor self) ∙ here) may in
              let stays : Stays s held j r = stayed s held j r out hj in
              let before : s.task r < x = g.early k r e2 in
              let own_task : s.task j ≡ x = own.1 in
              subst (λ y. (holds s held r ≡ true) × Leads s.run s.task r y) (sym self)
              (stays.holds, record { first = stays.first; tie = λ f. omega arith })
        ]
  ]

  no_local : (k i : ℕ) (o : Option ℕ) → running k ≡ o → is_outrun s held j o ≡ true → holds s held j ≡ false
      → s.active i ≡ true → s.task i < x → s.processor i ≡ k → is_local (s.phase i) ≡ true → ⊥
  no_local k i None e out fails a l here h =
      let may : may_run s held i ≡ true = or_left (is_local (s.phase i)) (holds s held i) h in
      both_ways (may_run s held i) (g.busy k e i a l here) may
  no_local k i (Some r) e out fails a l here h = both_ways (holds s held j) fails
      (and_parts (holds s held j) (not (holds s held r) || ltb (s.run j) (s.run r)) out).0

  locals : (k r : ℕ) → more k ≡ Some r → holds s held r ≡ false → (i : ℕ) → s.active i ≡ true → s.task i < x + 1
      → s.processor i ≡ k → is_local (s.phase i) ≡ true → s.task r ≤ s.task i
  locals k r e fails i a l here h = elim (taken_or s held running more k j (same k)) [
    | inl t ↦
        let same_job : j ≡ r = one k r t e in
        let none : holds s held j ≡ false = subst (λ y. holds s held y ≡ false) (sym same_job) fails in
        elim (earlier_or s x j i own a l) [
          | inl earlier ↦ absurd (no_local k i (running k) refl t.out none a earlier here h)
          | inr self ↦ let both : s.task r ≡ s.task i = sym (ap s.task same_job) ∙ sym (ap s.task self) in omega arith
        ]
    | inr left ↦
        let e2 : running k ≡ Some r = sym left.now ∙ e in
        elim (earlier_or s x j i own a l) [
          | inl earlier ↦ g.locals k r e2 fails i a earlier here h
          | inr self ↦
              let before : s.task r < x = g.early k r e2 in
              let own_task : s.task i ≡ x = ap s.task self ∙ own.1 in
              omega arith
        ]
  ]

placed_none : (s : Scene) (held : ℕ → Option ℕ) (x : ℕ) (running more : ℕ → Option ℕ) → Placed s held x running
    → IsActiveJob s x None → ((k : ℕ) → more k ≡ running k) → Placed s held (x + 1) more
placed_none s held x running more g none same = record {
  active = λ k r e. g.active k r (sym (same k) ∙ e);
  ready = λ k r e. g.ready k r (sym (same k) ∙ e);
  column = λ k r e. g.column k r (sym (same k) ∙ e);
  early = λ k r e. let a : s.task r < x = g.early k r (sym (same k) ∙ e) in omega arith;
  busy = λ k e i a l own. g.busy k (sym (same k) ∙ e) i a (earlier_only s x i none a l) own;
  holders = λ k r e i a l own h. g.holders k r (sym (same k) ∙ e) i a (earlier_only s x i none a l) own h;
  locals = λ k r e fails i a l own h. g.locals k r (sym (same k) ∙ e) fails i a (earlier_only s x i none a l) own h;
}

-- One task more has come.
pub placed_next : (s : Scene) (held : ℕ → Option ℕ) (x : ℕ) (o : Option ℕ) (running more : ℕ → Option ℕ)
    → Placed s held x running → IsActiveJob s x o
    → ((k : ℕ) → more k ≡ come_to (entered s held) o k (running k)) → Placed s held (x + 1) more
placed_next s held x None running more g own same = placed_none s held x running more g own same
placed_next s held x (Some j) running more g own same = placed_some s held x j running more g own same
