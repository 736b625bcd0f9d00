-- What is true of the holders, and of what runs, during a walk over the tasks from the highest on?
use Rattle.std.specs.Prelude.{◌≡◌, ℕ, ◌<◌, ◌≤◌, true, false, Option, None, Some}
use Rattle.schedule_model.specs.Phase.{is_local}
use Rattle.shared_choosing.specs.Scene.{Scene, requests, holds, may_run}

-- Job j goes no later than job i. If both go equally first, j is of no lower task.
pub record Leads (rank task : ℕ → ℕ) (j i : ℕ) : Type 0 where
  pub first : rank j ≤ rank i
  pub tie : rank i ≡ rank j → task j ≤ task i

-- Are these the holders after the tasks below x have asked?
pub record Granted (s : Scene) (x : ℕ) (held : ℕ → Option ℕ) : Type 0 where
  pub asks : (q j : ℕ) → held q ≡ Some j → requests s q j ≡ true
  pub keeps : (q j : ℕ) → s.before q ≡ Some j → requests s q j ≡ true → held q ≡ Some j
  pub early : (q j : ℕ) → held q ≡ Some j → (s.before q ≡ Some j → ⊥) → s.task j < x
  pub leads : (q j : ℕ) → held q ≡ Some j → (s.before q ≡ Some j → ⊥) → (i : ℕ) → requests s q i ≡ true → s.task i < x
      → Leads s.grant s.task j i
  pub free : (q : ℕ) → held q ≡ None → (i : ℕ) → requests s q i ≡ true → s.task i < x → ⊥

-- Is this what runs on each processor after the tasks below x have come, with these holders?
pub record Placed (s : Scene) (held : ℕ → Option ℕ) (x : ℕ) (running : ℕ → Option ℕ) : Type 0 where
  pub active : (k r : ℕ) → running k ≡ Some r → s.active r ≡ true
  pub ready : (k r : ℕ) → running k ≡ Some r → may_run s held r ≡ true
  pub column : (k r : ℕ) → running k ≡ Some r → s.processor r ≡ k
  pub early : (k r : ℕ) → running k ≡ Some r → s.task r < x
  pub busy : (k : ℕ) → running k ≡ None → (i : ℕ) → s.active i ≡ true → s.task i < x → s.processor i ≡ k → may_run s held i ≡ false
  pub holders : (k r : ℕ) → running k ≡ Some r → (i : ℕ) → s.active i ≡ true → s.task i < x → s.processor i ≡ k → holds s held i ≡ true
      → (holds s held r ≡ true) × Leads s.run s.task r i
  pub locals : (k r : ℕ) → running k ≡ Some r → holds s held r ≡ false → (i : ℕ) → s.active i ≡ true → s.task i < x → s.processor i ≡ k
      → is_local (s.phase i) ≡ true → s.task r ≤ s.task i
