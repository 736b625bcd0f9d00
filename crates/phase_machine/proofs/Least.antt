-- The least of numbers, once one more comes.
use Rattle.std.proofs.Common.{◌≡◌, ◌⊎◌, ℕ, ◌+◌, ◌<◌, ◌≤◌, List, length, get_or, map, refl, sym, ap, ◌∙◌, subst, arith}
use Rattle.std.proofs.Common.{inl, inr, Option, Some, None, min}
use Rattle.std.proofs.lemmas.Bool.{cases_lt}
use Rattle.std.proofs.lemmas.List.{length-map}
use Rattle.schedule_model.specs.declared.job.JobId.{JobId}
use Rattle.schedule_model.specs.Seen.{place_seen}
use Rattle.schedule_model.specs.JobDef.{JobDef, job_of}
use Rattle.phase_machine.specs.declared.place.ScriptPlace.{ScriptPlace}
use Rattle.phase_machine.specs.MachineDef.{task_in, no_place}
use Rattle.phase_machine.specs.Stretch.{left_at}
use Rattle.phase_machine.specs.Least.{IsLeastOf, IsLeft, IsAhead}

-- One more number, which counts where it is below `most`.
least_more : (most n v : ℕ) (P Q : ℕ → Type 0) → ((u : ℕ) → Q u → P u ⊎ (v ≤ u)) → ((u : ℕ) → P u → Q u)
    → (v < most → Q v) → IsLeastOf most P n → IsLeastOf most Q (min n v)
least_more most n v P Q all old new is = elim (cases_lt v n) [
  | inl less ↦
      let e : v ≡ min n v = omega (arith, less) in
      subst (IsLeastOf most Q) e (record {
        at_most = omega (arith, less, is.at_most);
        each = λ u h. below u (all u h) (omega (arith, less)) (omega arith);
        reached = λ l. new l;
      })
  | inr more ↦
      let e : n ≡ min n v = omega (arith, more) in
      subst (IsLeastOf most Q) e (record {
        at_most = is.at_most;
        each = λ u h. below u (all u h) (omega arith) more;
        reached = λ l. old n (is.reached l);
      })
] where
  below : {k : ℕ} → (u : ℕ) → P u ⊎ (v ≤ u) → k ≤ n → k ≤ v → k ≤ u
  below u (inl before) a b = omega (arith, is.each u before, a)
  below u (inr here) a b = omega (arith, here, b)

-- The same numbers.
least_same : (most n : ℕ) (P Q : ℕ → Type 0) → ((u : ℕ) → Q u → P u) → ((u : ℕ) → P u → Q u) → IsLeastOf most P n → IsLeastOf most Q n
least_same most n P Q all old is = record { at_most = is.at_most; each = λ u h. is.each u (all u h); reached = λ l. old n (is.reached l) }

-- None but the first is before the first column.
pub least_left_none : (jobs : List JobDef) (places : List ScriptPlace) (running : List (Option ℕ)) (most : ℕ)
    → IsLeastOf most (IsLeft jobs places running 0) most
least_left_none jobs places running most = record {
  at_most = omega arith;
  each = λ u h. absurd (omega (arith, h.2));
  reached = λ l. absurd (omega (arith, l));
}

-- A column more: one that names a job, and one that names none.
pub least_left_named : (jobs : List JobDef) (places : List ScriptPlace) (running : List (Option ℕ)) (most n c j : ℕ)
    → get_or running c None ≡ Some j → IsLeastOf most (IsLeft jobs places running c) n
    → IsLeastOf most (IsLeft jobs places running (c + 1)) (min n (left_at jobs (get_or places (task_in jobs j) no_place)))
least_left_named jobs places running most n c j e is =
    least_more most n (left_at jobs (get_or places (task_in jobs j) no_place)) (IsLeft jobs places running c)
    (IsLeft jobs places running (c + 1)) all old (λ l. (c, j, omega arith, e, refl)) is where
      all : (u : ℕ) → IsLeft jobs places running (c + 1) u
          → IsLeft jobs places running c u ⊎ (left_at jobs (get_or places (task_in jobs j) no_place) ≤ u)
      all u (d, i, l, f, v) = elim (cases_lt d c) [
        | inl before ↦ inl (d, i, before, f, v)
        | inr here ↦
            let same : d ≡ c = omega (arith, l, here) in
            let named : Some i ≡ Some j = sym f ∙ ap (λ k. get_or running k None) same ∙ e in
            let job : i ≡ j = cc in
            inr (omega (arith, v, ap (λ k. left_at jobs (get_or places (task_in jobs k) no_place)) job))
      ]

      old : (u : ℕ) → IsLeft jobs places running c u → IsLeft jobs places running (c + 1) u
      old u (d, i, l, f, v) = (d, i, omega (arith, l), f, v)

pub least_left_unnamed : (jobs : List JobDef) (places : List ScriptPlace) (running : List (Option ℕ)) (most n c : ℕ)
    → get_or running c None ≡ None → IsLeastOf most (IsLeft jobs places running c) n
    → IsLeastOf most (IsLeft jobs places running (c + 1)) n
least_left_unnamed jobs places running most n c e is =
    least_same most n (IsLeft jobs places running c) (IsLeft jobs places running (c + 1)) all old is
  where
    all : (u : ℕ) → IsLeft jobs places running (c + 1) u → IsLeft jobs places running c u
    all u (d, i, l, f, v) = elim (cases_lt d c) [
      | inl before ↦ (d, i, before, f, v)
      | inr here ↦
          let same : d ≡ c = omega (arith, l, here) in
          let x : Some i ≡ None = sym f ∙ ap (λ k. get_or running k None) same ∙ e in
          absurd (cc)
    ]

    old : (u : ℕ) → IsLeft jobs places running c u → IsLeft jobs places running (c + 1) u
    old u (d, i, l, f, v) = (d, i, omega (arith, l), f, v)

-- A task more, whose next job comes v ticks after this one, if it has one; else v is the most.
pub least_ahead_more : (jobs : List JobDef) (tick : ℕ) (coming : List ℕ) (most n v x : ℕ)
    → (get_or coming x 0 < length jobs → (job_of jobs (get_or coming x 0)).release ≡ tick + v)
    → (length jobs ≤ get_or coming x 0 → v ≡ most) → IsLeastOf most (IsAhead jobs tick coming x) n
    → IsLeastOf most (IsAhead jobs tick coming (x + 1)) (min n v)
least_ahead_more jobs tick coming most n v x some none is =
    least_more most n v (IsAhead jobs tick coming x) (IsAhead jobs tick coming (x + 1)) all old new is
  where
    all : (u : ℕ) → IsAhead jobs tick coming (x + 1) u → IsAhead jobs tick coming x u ⊎ (v ≤ u)
    all u (y, l, listed, e) = elim (cases_lt y x) [
      | inl before ↦ inl (y, before, listed, e)
      | inr here ↦
          let same : y ≡ x = omega (arith, l, here) in
          let there : get_or coming x 0 < length jobs = subst (λ k. get_or coming k 0 < length jobs) same listed in
          inr (omega (arith, some there, e, ap (λ k. (job_of jobs (get_or coming k 0)).release) same))
    ]

    old : (u : ℕ) → IsAhead jobs tick coming x u → IsAhead jobs tick coming (x + 1) u
    old u (y, l, listed, e) = (y, omega (arith, l), listed, e)

    new : v < most → IsAhead jobs tick coming (x + 1) v
    new l = elim (cases_lt (get_or coming x 0) (length jobs)) [
      | inl listed ↦ (x, omega arith, listed, some listed)
      | inr past ↦ absurd (omega (arith, none past, l))
    ]

-- As many columns as contracts see.
pub left_seen : (most n : ℕ) (jobs : List JobDef) (places : List ScriptPlace) (running : List (Option JobId))
    → IsLeastOf most (IsLeft jobs places (map place_seen running) (length running)) n
    → IsLeastOf most (IsLeft jobs places (map place_seen running) (length (map place_seen running))) n
left_seen most n jobs places running is = subst (λ k. IsLeastOf most (IsLeft jobs places (map place_seen running) k) n)
    (sym (length-map running place_seen)) is
