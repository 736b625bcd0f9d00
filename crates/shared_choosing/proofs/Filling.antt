-- Places while they are filled, task by task.
use Rattle.std.proofs.Common.{◌≡◌, ◌⊎◌, ℕ, ◌+◌, ◌<◌, ◌≤◌, ◌&&◌, not, true, length, refl, sym, ap, ◌∙◌, arith, inl, inr}
use Rattle.std.proofs.Common.{Option, Some, None, subst, zero, suc, add-one}
use Rattle.std.specs.Prelude.{is_some}
use Rattle.std.proofs.lemmas.Bool.{cases_Bool, and_parts, and_from, both_ways}
use Rattle.schedule_model.specs.RowDef.{is_job}
use Rattle.schedule_laws.proofs.Rows.{job_named, named_job}
use Rattle.phase_machine.specs.MachineDef.{MachineDef, IsMachine, task_in}
use Rattle.phase_machine.specs.Now.{active_now, current_now}
use Rattle.shared_choosing.specs.Scene.{Scene, scene_now, IsActiveJob}
use Rattle.shared_choosing.specs.Walks.{come_to, walked}
use Rattle.shared_choosing.proofs.Granting.{earlier_or, earlier_only}
use Rattle.shared_choosing.proofs.Scenes.{active_job_now}
use Rattle.shared_choosing.specs.Filling.{filled, Takes, Filled, FilledTwice}

-- Before anyone has come.
pub filled_first : (m : MachineDef) (claim start places : ℕ → Option ℕ) → ((k : ℕ) → places k ≡ start k) → Filled m claim start 0 places
filled_first m claim start places same = record {
  keeps = λ k j e. same k ∙ e;
  from = λ k j e. inl (sym (same k) ∙ e);
  free = λ k e i a c l. absurd (omega arith);
}

-- The active jobs, as those of a scene.
abbrev plain : MachineDef → Scene
plain m = scene_now (λ j. 0) (λ j. 0) m

none_of : (o : Option ℕ) → not (is_some o) ≡ true → o ≡ None
none_of None h = refl
none_of (Some j) h = absurd (cc)

-- Whether the job that comes gets place k.
record Gets (claim places more : ℕ → Option ℕ) (j k : ℕ) : Type 0 where
  claims : claim j ≡ Some k
  empty : places k ≡ None
  now : more k ≡ Some j

record Fails (claim places more : ℕ → Option ℕ) (j k : ℕ) : Type 0 where
  now : more k ≡ places k
  fails : claim j ≡ Some k → places k ≡ None → ⊥

gets_or : (claim places more : ℕ → Option ℕ) (j k : ℕ) → more k ≡ filled j (claim j) k (places k)
    → Gets claim places more j k ⊎ Fails claim places more j k
gets_or claim places more j k same = elim (cases_Bool (is_job k (claim j) && not (is_some (places k)))) [
  | inl passes ↦
      let parts = and_parts (is_job k (claim j)) (not (is_some (places k))) passes in
      let now : more k ≡ Some j = rw passes at same in
      inl (record { claims = job_named k (claim j) parts.0; empty = none_of (places k) parts.1; now = now })
  | inr fails ↦
      let now : more k ≡ places k = rw fails at same in
      inr (record {
        now = now;
        fails = λ c f. both_ways (is_job k (claim j) && not (is_some (places k))) fails
            (and_from (is_job k (claim j)) (not (is_some (places k))) (named_job k (claim j) c) (ap (λ o. not (is_some o)) f));
      })
]

takes_more : (m : MachineDef) (claim : ℕ → Option ℕ) (x k j : ℕ) → Takes m claim x k j
    → ((i : ℕ) → active_now m i ≡ true → claim i ≡ Some k → task_in m.list.jobs i < x + 1
    → (task_in m.list.jobs i < x) ⊎ (x ≤ task_in m.list.jobs i)) → Takes m claim (x + 1) k j
takes_more m claim x k j t cases = record {
  active = t.active;
  claims = t.claims;
  early = let l : task_in m.list.jobs j < x = t.early in omega arith;
  first = λ i a c l. leads i a c (cases i a c l);
} where
  leads : (i : ℕ) → active_now m i ≡ true → claim i ≡ Some k → (task_in m.list.jobs i < x) ⊎ (x ≤ task_in m.list.jobs i)
      → task_in m.list.jobs j ≤ task_in m.list.jobs i
  leads i a c (inl earlier) = t.first i a c earlier
  leads i a c (inr later) = omega (arith, t.early, later)

filled_some : (m : MachineDef) (claim start : ℕ → Option ℕ) (x j : ℕ) (places more : ℕ → Option ℕ)
    → Filled m claim start x places → IsActiveJob (plain m) x (Some j)
    → ((k : ℕ) → more k ≡ filled j (claim j) k (places k)) → Filled m claim start (x + 1) more
filled_some m claim start x j places more g own same = record {
  keeps = keeps;
  from = from;
  free = free;
} where
  keeps : (k i : ℕ) → start k ≡ Some i → more k ≡ Some i
  keeps k i e = elim (gets_or claim places more j k (same k)) [
    | inl gets ↦ let two : None ≡ Some i = sym gets.empty ∙ g.keeps k i e in absurd (cc)
    | inr fails ↦ fails.now ∙ g.keeps k i e
  ]

  -- The job that comes takes an empty place that no job before it claimed.
  newcomer : (k : ℕ) → Gets claim places more j k → Takes m claim (x + 1) k j
  newcomer k gets = record {
    active = own.0;
    claims = gets.claims;
    early = omega (arith, own.1);
    first = λ i a c l. first i a c l;
  } where
    first : (i : ℕ) → active_now m i ≡ true → claim i ≡ Some k → task_in m.list.jobs i < x + 1
        → task_in m.list.jobs j ≤ task_in m.list.jobs i
    first i a c l = elim (earlier_or (plain m) x j i own a l) [
      | inl earlier ↦ absurd (g.free k gets.empty i a c earlier)
      | inr self ↦ omega (arith, ap (task_in m.list.jobs) self)
    ]

  stays : (k i : ℕ) → Takes m claim x k i → Takes m claim (x + 1) k i
  stays k i t = takes_more m claim x k i t (λ h a c l. elim (earlier_or (plain m) x j h own a l) [
    | inl earlier ↦ inl earlier
    | inr self ↦ inr (omega (arith, ap (task_in m.list.jobs) self, own.1))
  ])

  from : (k i : ℕ) → more k ≡ Some i → (start k ≡ Some i) ⊎ Takes m claim (x + 1) k i
  from k i e = elim (gets_or claim places more j k (same k)) [
    | inl gets ↦
        let two : Some j ≡ Some i = sym gets.now ∙ e in
        let one : j ≡ i = cc in
        inr (subst (λ y. Takes m claim (x + 1) k y) one (newcomer k gets))
    | inr fails ↦ elim (g.from k i (sym fails.now ∙ e)) [
      | inl old ↦ inl old
      | inr taken ↦ inr (stays k i taken)
    ]
  ]

  free : (k : ℕ) → more k ≡ None → (i : ℕ) → active_now m i ≡ true → claim i ≡ Some k → task_in m.list.jobs i < x + 1 → ⊥
  free k e i a c l = elim (gets_or claim places more j k (same k)) [
    | inl gets ↦ let two : Some j ≡ None = sym gets.now ∙ e in cc
    | inr fails ↦
        let empty : places k ≡ None = sym fails.now ∙ e in
        elim (earlier_or (plain m) x j i own a l) [
          | inl earlier ↦ g.free k empty i a c earlier
          | inr self ↦ fails.fails (sym (ap claim self) ∙ c) empty
        ]
  ]

filled_none : (m : MachineDef) (claim start : ℕ → Option ℕ) (x : ℕ) (places more : ℕ → Option ℕ)
    → Filled m claim start x places → IsActiveJob (plain m) x None → ((k : ℕ) → more k ≡ places k)
    → Filled m claim start (x + 1) more
filled_none m claim start x places more g none same = record {
  keeps = λ k i e. same k ∙ g.keeps k i e;
  from = λ k i e. from k i (g.from k i (sym (same k) ∙ e));
  free = λ k e i a c l. g.free k (sym (same k) ∙ e) i a c (earlier_only (plain m) x i none a l);
} where
  from : (k i : ℕ) → (start k ≡ Some i) ⊎ Takes m claim x k i → (start k ≡ Some i) ⊎ Takes m claim (x + 1) k i
  from k i (inl old) = inl old
  from k i (inr taken) = inr (takes_more m claim x k i taken (λ h a c l. inl (earlier_only (plain m) x h none a l)))

-- One task more has come.
filled_next : (m : MachineDef) (claim start : ℕ → Option ℕ) (x : ℕ) (o : Option ℕ) (places more : ℕ → Option ℕ)
    → Filled m claim start x places → IsActiveJob (plain m) x o
    → ((k : ℕ) → more k ≡ come_to (λ j. filled j (claim j)) o k (places k)) → Filled m claim start (x + 1) more
filled_next m claim start x None places more g own same = filled_none m claim start x places more g own same
filled_next m claim start x (Some j) places more g own same = filled_some m claim start x j places more g own same

-- The places once the tasks below x have come.
pub filled_at : (claim start current : ℕ → Option ℕ) → ℕ → ℕ → Option ℕ
filled_at claim start current x k = walked (λ j. filled j (claim j)) current x k (start k)

pub all_filled : (m : MachineDef) (claim start : ℕ → Option ℕ) (x : ℕ) → IsMachine m → x ≤ length m.list.set.tasks
    → Filled m claim start x (filled_at claim start (current_now m) x)
unfolding filled_at walked
all_filled m claim start zero machine l = filled_first m claim start (filled_at claim start (current_now m) zero) (λ k. refl)
all_filled m claim start (suc x) machine l =
    subst (λ n. Filled m claim start n (filled_at claim start (current_now m) (suc x))) (add-one x)
    (filled_next m claim start x (current_now m x) (filled_at claim start (current_now m) x)
    (filled_at claim start (current_now m) (suc x)) (all_filled m claim start x machine (omega arith))
    (active_job_now m (λ j. 0) (λ j. 0) x machine (omega arith)) (λ k. refl))

-- The same places.
pub filled_same : (m : MachineDef) (claim start : ℕ → Option ℕ) (x : ℕ) (places more : ℕ → Option ℕ)
    → Filled m claim start x places → ((k : ℕ) → more k ≡ places k) → Filled m claim start x more
filled_same m claim start x places more g same = record {
  keeps = λ k j e. same k ∙ g.keeps k j e;
  from = λ k j e. g.from k j (sym (same k) ∙ e);
  free = λ k e. g.free k (sym (same k) ∙ e);
}

pub running_read : (m : MachineDef) (first second running more : ℕ → Option ℕ) → FilledTwice m first second running
    → ((k : ℕ) → more k ≡ running k) → FilledTwice m first second more
running_read m first second running more r same = record {
  before = r.before;
  holders = r.holders;
  locals = filled_same m second r.before (length m.list.set.tasks) running more r.locals same;
}

-- So a walk over a machine's active jobs fills.
pub walk_filled : (m : MachineDef) (claim start more : ℕ → Option ℕ) → IsMachine m
    → ((k : ℕ) → more k ≡ walked (λ j. filled j (claim j)) (current_now m) (length m.list.set.tasks) k (start k))
    → Filled m claim start (length m.list.set.tasks) more
unfolding filled_at
walk_filled m claim start more machine each =
    filled_same m claim start (length m.list.set.tasks) (filled_at claim start (current_now m) (length m.list.set.tasks)) more
    (all_filled m claim start (length m.list.set.tasks) machine (omega arith)) each

-- One that starts where nothing is named.
pub filled_start : (m : MachineDef) (claim start places : ℕ → Option ℕ) → ((k : ℕ) → start k ≡ None)
    → Filled m claim start (length m.list.set.tasks) places → Filled m claim (λ k. None) (length m.list.set.tasks) places
filled_start m claim start places empty g = record {
  keeps = λ k j e. absurd (cc);
  from = λ k j e. from k j (g.from k j e);
  free = g.free;
} where
  from : (k j : ℕ) → (start k ≡ Some j) ⊎ Takes m claim (length m.list.set.tasks) k j
      → (None ≡ Some j) ⊎ Takes m claim (length m.list.set.tasks) k j
  from k j (inl old) = let two : None ≡ Some j = sym (empty k) ∙ old in absurd (cc)
  from k j (inr taken) = inr taken
