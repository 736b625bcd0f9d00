-- The holders while the tasks ask, one after the other.
use Rattle.std.proofs.Common.{◌≡◌, ◌⊎◌, ℕ, ◌+◌, ◌<◌, ◌≤◌, not, true, false, refl, sym, ap, ◌∙◌, arith, inl, inr, Option}
use Rattle.std.proofs.Common.{Some, None, ltb, subst}
use Rattle.std.proofs.lemmas.Bool.{cases_Bool, cases_lt, and_parts, and_from, and_cases, both_ways, not-true, ltb-true, ltb-false}
use Rattle.schedule_model.specs.RowDef.{is_job}
use Rattle.schedule_model.specs.Phase.{is_asking}
use Rattle.schedule_laws.proofs.Rows.{job_named, named_job}
use Rattle.shared_choosing.specs.Scene.{Scene, requests, IsActiveJob, gives_way, takes, asked, stays, kept}
use Rattle.shared_choosing.specs.Walks.{come_to}
use Rattle.shared_choosing.specs.Choosing.{Leads, Granted}

-- Who has asked: a job of an earlier task, or the task's active job.
pub earlier_or : (s : Scene) (x j i : ℕ) → IsActiveJob s x (Some j) → s.active i ≡ true → s.task i < x + 1 → (s.task i < x) ⊎ (i ≡ j)
earlier_or s x j i own a l = elim (cases_lt (s.task i) x) [
  | inl earlier ↦ inl earlier
  | inr later ↦ let same : s.task i ≡ x = omega arith in inr (own.2 i a same)
]

pub earlier_only : (s : Scene) (x i : ℕ) → IsActiveJob s x None → s.active i ≡ true → s.task i < x + 1 → s.task i < x
earlier_only s x i none a l = elim (cases_lt (s.task i) x) [
  | inl earlier ↦ earlier
  | inr later ↦ let same : s.task i ≡ x = omega arith in absurd (none i a same)
]

-- Before anyone has asked.
pub kept_some : (s : Scene) (q j : ℕ) (o : Option ℕ) → stays (requests s q) o ≡ Some j → (o ≡ Some j) × (requests s q j ≡ true)
kept_some s q j None h = absurd (cc)
kept_some s q j (Some i) h = elim (cases_Bool (requests s q i)) [
  | inl asks ↦ let e : Some i ≡ Some j = rw asks at h in let f : i ≡ j = cc in (e, subst (λ k. requests s q k ≡ true) f asks)
  | inr ends ↦ let e : None ≡ Some j = rw ends at h in absurd (cc)
]

kept_from : (s : Scene) (q j : ℕ) → requests s q j ≡ true → stays (requests s q) (Some j) ≡ Some j
kept_from s q j h = rw h refl

pub granted_first : (s : Scene) (held : ℕ → Option ℕ) → ((q : ℕ) → held q ≡ kept s q) → Granted s 0 held
granted_first s held same = record {
  asks = λ q j e. (kept_some s q j (s.before q) (sym (same q) ∙ e)).1;
  keeps = λ q j e h. same q ∙ ap (stays (requests s q)) e ∙ kept_from s q j h;
  early = λ q j e new. absurd (new (kept_some s q j (s.before q) (sym (same q) ∙ e)).0);
  leads = λ q j e new i h l. absurd (omega arith);
  free = λ q e i h l. absurd (omega arith);
}

-- What follows if the job that asks doesn't get the resource from its new holder.
refused : (s : Scene) (q j h : ℕ) → takes s q j (Some h) ≡ false → is_asking q (s.phase j) ≡ true
    → (s.before q ≡ Some h → ⊥) → s.grant h ≤ s.grant j
refused s q j h fails asks new = elim (and_cases (is_asking q (s.phase j)) (gives_way s q j (Some h)) fails) [
  | inl other ↦ absurd (both_ways (is_asking q (s.phase j)) other asks)
  | inr stays ↦ elim (and_cases (not (is_job h (s.before q))) (ltb (s.grant j) (s.grant h)) stays) [
    | inl old ↦ elim (cases_Bool (is_job h (s.before q))) [
      | inl is ↦ absurd (new (job_named h (s.before q) is))
      | inr isnt ↦ let x : not (is_job h (s.before q)) ≡ true = rw isnt refl in absurd (both_ways (not (is_job h (s.before q))) old x)
    ]
    | inr late ↦ ltb-false (s.grant j) (s.grant h) late
  ]
]

-- And if the job that asks does get it.
record Won (s : Scene) (q j h : ℕ) : Type 0 where
  new : s.before q ≡ Some h → ⊥
  later : s.grant j < s.grant h

won : (s : Scene) (q j h : ℕ) → takes s q j (Some h) ≡ true → Won s q j h
won s q j h passes =
    let p : (is_asking q (s.phase j) ≡ true) × (gives_way s q j (Some h) ≡ true) =
    and_parts (is_asking q (s.phase j)) (gives_way s q j (Some h)) passes in
    let r : (not (is_job h (s.before q)) ≡ true) × (ltb (s.grant j) (s.grant h) ≡ true) =
    and_parts (not (is_job h (s.before q))) (ltb (s.grant j) (s.grant h)) p.1 in
    record {
      new = λ e. both_ways (is_job h (s.before q)) (not-true _ r.0) (named_job h (s.before q) e);
      later = ltb-true (s.grant j) (s.grant h) r.1;
    }

-- Which job holds q then, by whether the one that asks gets it.
record Taken (s : Scene) (held more : ℕ → Option ℕ) (q j : ℕ) : Type 0 where
  passes : takes s q j (held q) ≡ true
  now : more q ≡ Some j

record Left (s : Scene) (held more : ℕ → Option ℕ) (q j : ℕ) : Type 0 where
  fails : takes s q j (held q) ≡ false
  now : more q ≡ held q

taken_or : (s : Scene) (held more : ℕ → Option ℕ) (q j : ℕ) → more q ≡ asked s j q (held q) → Taken s held more q j ⊎ Left s held more q j
taken_or s held more q j same = elim (cases_Bool (takes s q j (held q))) [
  | inl passes ↦ let e : more q ≡ Some j = rw passes at same in inl (record { passes = passes; now = e })
  | inr fails ↦ let e : more q ≡ held q = rw fails at same in inr (record { fails = fails; now = e })
]

granted_some : (s : Scene) (x j : ℕ) (held more : ℕ → Option ℕ) → Granted s x held → IsActiveJob s x (Some j)
    → ((q : ℕ) → more q ≡ asked s j q (held q)) → Granted s (x + 1) more
granted_some s x j held more g own same = record {
  asks = asks;
  keeps = keeps;
  early = early;
  leads = leads;
  free = free;
} where
  asking : (q : ℕ) → Taken s held more q j → is_asking q (s.phase j) ≡ true
  asking q t = (and_parts (is_asking q (s.phase j)) (gives_way s q j (held q)) t.passes).0

  asks : (q i : ℕ) → more q ≡ Some i → requests s q i ≡ true
  asks q i e = elim (taken_or s held more q j (same q)) [
    | inl t ↦ let two : Some j ≡ Some i = sym t.now ∙ e in
        let one : j ≡ i = cc in
        subst (λ k. requests s q k ≡ true) one (and_from (s.active j) (is_asking q (s.phase j)) own.0 (asking q t))
    | inr l ↦ g.asks q i (sym l.now ∙ e)
  ]

  keeps : (q i : ℕ) → s.before q ≡ Some i → requests s q i ≡ true → more q ≡ Some i
  keeps q i e h = elim (taken_or s held more q j (same q)) [
    | inl t ↦ let w : Won s q j i = won s q j i (sym (ap (takes s q j) (g.keeps q i e h)) ∙ t.passes) in absurd (w.new e)
    | inr l ↦ l.now ∙ g.keeps q i e h
  ]

  early : (q i : ℕ) → more q ≡ Some i → (s.before q ≡ Some i → ⊥) → s.task i < x + 1
  early q i e new = elim (taken_or s held more q j (same q)) [
    | inl t ↦ let two : Some j ≡ Some i = sym t.now ∙ e in
        let one : j ≡ i = cc in let own_task : s.task i ≡ x = sym (ap s.task one) ∙ own.1 in omega arith
    | inr l ↦ let a : s.task i < x = g.early q i (sym l.now ∙ e) new in omega arith
  ]

  -- The job that gets q leads those that have asked.
  taker_leads : (q i : ℕ) (o : Option ℕ) → held q ≡ o → takes s q j o ≡ true → requests s q i ≡ true → s.task i < x
      → Leads s.grant s.task j i
  taker_leads q i None e passes h l = absurd (g.free q e i h l)
  taker_leads q i (Some k) e passes h l =
      let w : Won s q j k = won s q j k passes in
      let a : Leads s.grant s.task k i = g.leads q k e w.new i h l in
      let later : s.grant j < s.grant k = w.later in
      let before : s.grant k ≤ s.grant i = a.first in
      record { first = omega arith; tie = λ f. absurd (omega arith) }

  leads : (q i : ℕ) → more q ≡ Some i → (s.before q ≡ Some i → ⊥) → (k : ℕ) → requests s q k ≡ true → s.task k < x + 1
      → Leads s.grant s.task i k
  leads q i e new k h l =
      let active : s.active k ≡ true = (and_parts (s.active k) (is_asking q (s.phase k)) h).0 in
      elim (taken_or s held more q j (same q)) [
        | inl t ↦
            let two : Some j ≡ Some i = sym t.now ∙ e in
            let one : j ≡ i = cc in
            subst (λ y. Leads s.grant s.task y k) one (elim (earlier_or s x j k own active l) [
              | inl earlier ↦ taker_leads q k (held q) refl t.passes h earlier
              | inr self ↦ subst (λ y. Leads s.grant s.task j y) (sym self) (record { first = omega arith; tie = λ f. omega arith })
            ])
        | inr a ↦
            let e2 : held q ≡ Some i = sym a.now ∙ e in
            elim (earlier_or s x j k own active l) [
              | inl earlier ↦ g.leads q i e2 new k h earlier
              | inr self ↦
                  let fails : takes s q j (Some i) ≡ false = sym (ap (takes s q j) e2) ∙ a.fails in
                  let ask : requests s q j ≡ true = subst (λ y. requests s q y ≡ true) self h in
                  let le : s.grant i ≤ s.grant j = refused s q j i fails (and_parts (s.active j) (is_asking q (s.phase j)) ask).1 new in
                  let before : s.task i < x = g.early q i e2 new in
                  let own_task : s.task j ≡ x = own.1 in
                  subst (λ y. Leads s.grant s.task i y) (sym self) (record { first = le; tie = λ f. omega arith })
            ]
      ]

  free : (q : ℕ) → more q ≡ None → (i : ℕ) → requests s q i ≡ true → s.task i < x + 1 → ⊥
  free q e i h l =
      let active : s.active i ≡ true = (and_parts (s.active i) (is_asking q (s.phase i)) h).0 in
      elim (taken_or s held more q j (same q)) [
        | inl t ↦ let two : Some j ≡ None = sym t.now ∙ e in cc
        | inr a ↦
            let e2 : held q ≡ None = sym a.now ∙ e in
            elim (earlier_or s x j i own active l) [
              | inl earlier ↦ g.free q e2 i h earlier
              | inr self ↦
                  let ask : requests s q j ≡ true = subst (λ y. requests s q y ≡ true) self h in
                  let passes : takes s q j None ≡ true = and_from (is_asking q (s.phase j)) true
                  (and_parts (s.active j) (is_asking q (s.phase j)) ask).1 refl in
                  both_ways (takes s q j (held q)) a.fails (ap (takes s q j) e2 ∙ passes)
            ]
      ]

granted_none : (s : Scene) (x : ℕ) (held more : ℕ → Option ℕ) → Granted s x held → IsActiveJob s x None
    → ((q : ℕ) → more q ≡ held q) → Granted s (x + 1) more
granted_none s x held more g none same = record {
  asks = λ q j e. g.asks q j (sym (same q) ∙ e);
  keeps = λ q j e h. same q ∙ g.keeps q j e h;
  early = λ q j e new. let a : s.task j < x = g.early q j (sym (same q) ∙ e) new in omega arith;
  leads = λ q j e new i h l. g.leads q j (sym (same q) ∙ e) new i h
      (earlier_only s x i none (and_parts (s.active i) (is_asking q (s.phase i)) h).0 l);
  free = λ q e i h l. g.free q (sym (same q) ∙ e) i h (earlier_only s x i none (and_parts (s.active i) (is_asking q (s.phase i)) h).0 l);
}

-- One task more has asked.
pub granted_next : (s : Scene) (x : ℕ) (o : Option ℕ) (held more : ℕ → Option ℕ) → Granted s x held → IsActiveJob s x o
    → ((q : ℕ) → more q ≡ come_to (asked s) o q (held q)) → Granted s (x + 1) more
granted_next s x None held more g own same = granted_none s x held more g own same
granted_next s x (Some j) held more g own same = granted_some s x j held more g own same
