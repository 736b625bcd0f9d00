-- The first of the jobs that pass a test, while the test grows.
use Rattle.std.proofs.Common.{◌≡◌, ℕ, ◌+◌, ◌<◌, ◌≤◌, ◌==◌, ◌&&◌, ◌||◌, Bool, true, false, length, refl, sym, ap, ◌∙◌}
use Rattle.std.proofs.Common.{arith, inl, inr, cond, Option, Some, None, ltb}
use Rattle.std.specs.Prelude.{nat_lt, nat_le, List}
use Rattle.std.proofs.Math.Bool.{or-false}
use Rattle.std.proofs.lemmas.Bool.{cases_lt, cases_order, cases_Bool, cases_eq, both_ways, lt-ltb, le-ltb, le-leb}
use Rattle.std.proofs.lemmas.Bool.{lt-leb, eq-eqb, ne_eqb, or_from, or_left, or_right, and_right, false_from_ne_true}
use Rattle.number_laws.specs.Tests.{first_below, found_below}
use Rattle.number_laws.proofs.TestLaws.{first_below-before, found_below-is, found_below-none, found_below-agree, found_below-first, found_below-none_from}
use Rattle.schedule_model.specs.RowDef.{is_job}
use Rattle.phase_machine.specs.MachineDef.{MachineDef, IsMachine, place_of, task_in}
use Rattle.phase_machine.specs.Now.{current_now, active_now}
use Rattle.phase_machine.proofs.Facts.{current_some, current_own}
use Rattle.phase_machine.proofs.Lawful.{task_listed}
use Rattle.schedule_model.specs.JobDef.{job_of}
use Rattle.charge.specs.Due.{end_now, is_due, is_due_below, due_of, least_of}

pub found_before : (n : ℕ) (p : ℕ → Bool) (k i : ℕ) → found_below n p ≡ Some k → i < k → p i ≡ false
found_before n p k i found l = elim (cases_Bool (ltb (first_below n p) n)) [
  | inl below ↦
      let same : Some (first_below n p) ≡ Some k = rw below at found in
      let e : first_below n p ≡ k = cc in
      first_below-before n p i (omega arith)
  | inr none ↦ let x : None ≡ Some k = rw none at found in absurd (cc)
]

-- One more that passes.
pub found_with : (n : ℕ) (p : ℕ → Bool) (j : ℕ) (o : Option ℕ) → j < n → o ≡ found_below n p
    → least_of o (Some j) ≡ found_below n (λ k. p k || (k == j))
found_with n p j None l found =
    sym (found_below-first n (λ k. p k || (k == j)) j l (or_right (p j) (j == j) (eq-eqb j j refl))
    (λ i b. or_from (p i) (i == j) (found_below-none n p (sym found) i (omega arith)) (ne_eqb i j (λ e. absurd (omega (arith, e, b))))))
found_with n p j (Some f) l found = elim (cases_lt j f) [
  | inl less ↦
      let t : nat_le f j ≡ false = lt-leb f j less in
      rw t (sym (found_below-first n (λ k. p k || (k == j)) j l (or_right (p j) (j == j) (eq-eqb j j refl))
      (λ i b. or_from (p i) (i == j) (found_before n p f i (sym found) (omega arith)) (ne_eqb i j (λ e. absurd (omega (arith, e, b)))))))
  | inr more ↦
      let t : nat_le f j ≡ true = le-leb f j more in
      let is : (f < n) × (p f ≡ true) = found_below-is n p f (sym found) in
      rw t (sym (found_below-first n (λ k. p k || (k == j)) f is.0 (or_left (p f) (f == j) is.1)
      (λ i b. or_from (p i) (i == j) (found_before n p f i (sym found) b) (ne_eqb i j (λ e. absurd (omega (arith, e, b, more)))))))
]

-- A test finds the same as one that it implies, and that it passes at the first that passes that one.
pub found_same : (n : ℕ) (p q : ℕ → Bool) → ((k : ℕ) → k < n → p k ≡ true → q k ≡ true)
    → ((k : ℕ) → k < n → q k ≡ true → ((i : ℕ) → i < k → q i ≡ false) → p k ≡ true) → found_below n p ≡ found_below n q
found_same n p q more first = go (found_below n q) refl where
  go : (o : Option ℕ) → found_below n q ≡ o → found_below n p ≡ found_below n q
  go None e =
      found_below-none_from n p (λ i l. false_from_ne_true (p i) (λ h. both_ways (q i) (found_below-none n q e i l) (more i l h))) ∙ sym e
  go (Some k) e =
      let is : (k < n) × (q k ≡ true) = found_below-is n q k e in
      found_below-first n p k is.0 (first k is.0 is.1 (λ i l. found_before n q k i e l))
      (λ i l. false_from_ne_true (p i) (λ h. both_ways (q i) (found_before n q k i e l) (more i (omega (arith, l, is.0)) h))) ∙ sym e

-- The jobs of one task more.
one_task_more : (a x : ℕ) (b : Bool) → (nat_lt a (x + 1) && b) ≡ ((nat_lt a x && b) || ((a == x) && b))
one_task_more a x b = elim (cases_order a x) [
  | inl same ↦
      let one : nat_lt a (x + 1) ≡ true = lt-ltb a (x + 1) (omega arith) in
      let two : nat_lt a x ≡ false = le-ltb a x (omega arith) in
      let three : (a == x) ≡ true = eq-eqb a x same in
      rw (one, two, three) refl
  | inr other ↦ elim other [
    | inl less ↦
        let one : nat_lt a (x + 1) ≡ true = lt-ltb a (x + 1) (omega arith) in
        let two : nat_lt a x ≡ true = lt-ltb a x less in
        let three : (a == x) ≡ false = ne_eqb a x (λ e. absurd (omega (arith, e, less))) in
        rw (one, two, three) (itself b)
    | inr greater ↦
        let one : nat_lt a (x + 1) ≡ false = le-ltb a (x + 1) (omega arith) in
        let two : nat_lt a x ≡ false = le-ltb a x (omega arith) in
        let three : (a == x) ≡ false = ne_eqb a x (λ e. absurd (omega (arith, e, greater))) in
        rw (one, two, three) refl
  ]
] where
  itself : (b : Bool) → b ≡ (b || false)
  itself true = refl
  itself false = refl

-- The active job of a task is listed, and of it.
current_listed : (m : MachineDef) (x j : ℕ) → current_now m x ≡ Some j → j < length m.list.jobs
unfolding current_now
current_listed m x j e =
    let parts : ((place_of m x).job ≡ j) × ((place_of m x).job < length m.list.jobs)
    × ((job_of m.list.jobs (place_of m x).job).release ≤ m.tick) = current_some m.list.jobs m.tick (place_of m x) j e in
    omega (arith, parts.0, parts.1)

-- A job of task x is due exactly where it is the active one and its bound ends now.
due_here : (m : MachineDef) (bounds : List ℕ) (x k : ℕ) (o : Option ℕ) → current_now m x ≡ o
    → ((j : ℕ) → o ≡ Some j → task_in m.list.jobs j ≡ x)
    → ((task_in m.list.jobs k == x) && is_due m bounds k) ≡ is_job k (due_of m bounds o)
unfolding active_now
due_here m bounds x k None e own = elim (cases_eq (task_in m.list.jobs k) x) [
  | inl same ↦
      let none : current_now m (task_in m.list.jobs k) ≡ None = ap (current_now m) same ∙ e in
      let t : (task_in m.list.jobs k == x) ≡ true = eq-eqb _ _ same in
      rw (t, none) (and_right (end_now m bounds k == m.tick) false refl)
  | inr other ↦ let t : (task_in m.list.jobs k == x) ≡ false = ne_eqb _ _ other in rw t refl
]
due_here m bounds x k (Some j) e own = elim (cases_eq (task_in m.list.jobs k) x) [
  | inl same ↦
      let some : current_now m (task_in m.list.jobs k) ≡ Some j = ap (current_now m) same ∙ e in
      let t : (task_in m.list.jobs k == x) ≡ true = eq-eqb _ _ same in
      elim (cases_eq j k) [
        | inl here ↦ rw (t, some, here) (both (end_now m bounds k == m.tick) k)
        | inr there ↦
            let f : (j == k) ≡ false = ne_eqb j k there in
            rw (t, some, f) (and_right (end_now m bounds k == m.tick) false refl ∙ sym (neither (end_now m bounds j == m.tick) j k f))
      ]
  | inr other ↦
      let t : (task_in m.list.jobs k == x) ≡ false = ne_eqb _ _ other in
      let f : (j == k) ≡ false = ne_eqb j k (λ s. other (ap (task_in m.list.jobs) (sym s) ∙ own j refl)) in
      rw t (sym (neither (end_now m bounds j == m.tick) j k f))
] where
  both : (b : Bool) (k : ℕ) → (b && (k == k)) ≡ is_job k (cond b (Some k) None)
  both true k = refl
  both false k = refl

  neither : (b : Bool) (j k : ℕ) → (j == k) ≡ false → is_job k (cond b (Some j) None) ≡ false
  neither true j k f = f
  neither false j k f = refl

-- One task more, with its due job.
pub due_next : (m : MachineDef) (bounds : List ℕ) (x k : ℕ) → IsMachine m → x < length m.list.set.tasks
    → is_due_below m bounds (x + 1) k ≡ (is_due_below m bounds x k || is_job k (due_of m bounds (current_now m x)))
unfolding is_due_below
due_next m bounds x k machine l =
    one_task_more (task_in m.list.jobs k) x (is_due m bounds k)
    ∙ ap (λ b. (nat_lt (task_in m.list.jobs k) x && is_due m bounds k) || b)
    (due_here m bounds x k (current_now m x) refl (λ j e. current_own m x j machine l e))

or_three : (a b c d : Bool) → d ≡ (b || c) → ((a || b) || c) ≡ (a || d)
or_three true b c d e = refl
or_three false b c d e = sym e

job_is : (k j : ℕ) → (k == j) ≡ is_job k (Some j)
job_is k j = elim (cases_eq k j) [
  | inl same ↦ eq-eqb k j same ∙ sym (eq-eqb j k (sym same))
  | inr other ↦ ne_eqb k j other ∙ sym (ne_eqb j k (λ e. other (sym e)))
]

-- So the first is found task by task.
pub least_next : (m : MachineDef) (bounds : List ℕ) (passes : ℕ → Bool) (x : ℕ) (o : Option ℕ) → IsMachine m
    → x < length m.list.set.tasks → o ≡ found_below (length m.list.jobs) (λ j. passes j || is_due_below m bounds x j)
    → least_of o (due_of m bounds (current_now m x))
    ≡ found_below (length m.list.jobs) (λ j. passes j || is_due_below m bounds (x + 1) j)
least_next m bounds passes x o machine l found = go (due_of m bounds (current_now m x)) refl where
  before : ℕ → Bool
  before = λ j. passes j || is_due_below m bounds x j

  go : (d : Option ℕ) → due_of m bounds (current_now m x) ≡ d
      → least_of o d ≡ found_below (length m.list.jobs) (λ j. passes j || is_due_below m bounds (x + 1) j)
  go None e = least_none o ∙ found ∙ found_below-agree (length m.list.jobs) before (λ j. passes j || is_due_below m bounds (x + 1) j)
      (λ k b. sym (or-false (before k)) ∙ or_three (passes k) (is_due_below m bounds x k) false (is_due_below m bounds (x + 1) k)
      (due_next m bounds x k machine l ∙ ap (λ d. is_due_below m bounds x k || is_job k d) e)) where
        least_none : (o : Option ℕ) → least_of o None ≡ o
        least_none None = refl
        least_none (Some i) = refl
  go (Some j) e =
      found_with (length m.list.jobs) before j o (due_listed j e) found
      ∙ found_below-agree (length m.list.jobs) (λ k. before k || (k == j)) (λ k. passes k || is_due_below m bounds (x + 1) k)
      (λ k b. or_three (passes k) (is_due_below m bounds x k) (k == j) (is_due_below m bounds (x + 1) k)
      (due_next m bounds x k machine l ∙ ap (λ d. is_due_below m bounds x k || is_job k d) e
      ∙ ap (λ b. is_due_below m bounds x k || b) (sym (job_is k j)))) where
        due_listed : (j : ℕ) → due_of m bounds (current_now m x) ≡ Some j → j < length m.list.jobs
        due_listed j e = listed (current_now m x) refl e where
          listed : (o : Option ℕ) → current_now m x ≡ o → due_of m bounds o ≡ Some j → j < length m.list.jobs
          listed None f g = absurd (cc)
          listed (Some i) f g = elim (cases_Bool (end_now m bounds i == m.tick)) [
            | inl ends ↦
                let same : Some i ≡ Some j = rw ends at g in
                let e : i ≡ j = cc in
                rw (← e) (current_listed m x i f)
            | inr later ↦ let y : None ≡ Some j = rw later at g in absurd (cc)
          ]

-- With the jobs of all tasks, those of all jobs.
pub all_due : (m : MachineDef) (bounds : List ℕ) (passes : ℕ → Bool) (x : ℕ) → IsMachine m → length m.list.set.tasks ≤ x
    → found_below (length m.list.jobs) (λ j. passes j || is_due_below m bounds x j)
    ≡ found_below (length m.list.jobs) (λ j. passes j || is_due m bounds j)
unfolding is_due_below
all_due m bounds passes x machine l =
    found_below-agree (length m.list.jobs) (λ j. passes j || is_due_below m bounds x j) (λ j. passes j || is_due m bounds j)
    (λ j b. let t : nat_lt (task_in m.list.jobs j) x ≡ true = lt-ltb _ _ (omega (arith, task_listed m.list j machine.lawful b, l)) in
    ap (λ c. passes j || (c && is_due m bounds j)) t)

pub none_due : (m : MachineDef) (bounds : List ℕ) (passes : ℕ → Bool)
    → found_below (length m.list.jobs) passes ≡ found_below (length m.list.jobs) (λ j. passes j || is_due_below m bounds 0 j)
unfolding is_due_below
none_due m bounds passes =
    found_below-agree (length m.list.jobs) passes (λ j. passes j || is_due_below m bounds 0 j)
    (λ j b. let t : nat_lt (task_in m.list.jobs j) 0 ≡ false = le-ltb _ _ (omega arith) in
    sym (ap (λ c. passes j || (c && is_due m bounds j)) t ∙ or-false (passes j)))
