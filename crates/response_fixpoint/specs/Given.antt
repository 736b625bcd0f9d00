-- What the functions of a round are given: a source that serves the set, bounds in range, and the round's plan. In each, `served` says which
-- sets the source serves.
use Rattle.std.specs.Prelude.{ℕ, ◌<◌, List, length}
use Rattle.sporadic_model.specs.SetDef.{SetDef}
use Rattle.sporadic_model.specs.Bounds.{IsInRange}
use Rattle.program_sources.specs.Recurrence.{SourceDef}
use Rattle.response_fixpoint.specs.Solutions.{IsPlan, IsKept}
use Rattle.response_fixpoint.specs.declared.plan.Kept.{Kept}
use Rattle.response_fixpoint.specs.declared.plan.Planned.{Planned}

-- Is the set served, and are the bounds in its range?
pub record IsServedAt (served : SetDef → Type 0) (set : SetDef) (r : List ℕ) : Type 0 where
  pub serves : served set
  pub range : IsInRange set r

-- Are they, and is i a task of the set?
pub record IsTaskServedAt (served : SetDef → Type 0) (set : SetDef) (r : List ℕ) (i : ℕ) : Type 0 where
  pub serves : served set
  pub range : IsInRange set r
  pub task : i < length set.tasks

-- Does a round of the source begin at the bounds r with this many units, and is this its plan?
pub record BeginsRound (served : SetDef → Type 0) (f : SourceDef) (r : List ℕ) (left : ℕ) (all : List Planned) : Type 0 where
  pub serves : served f.set
  pub range : IsInRange f.set r
  pub plan : IsPlan f r left all

-- Is this what a round at the earlier bounds q, in range, kept of task i?
pub record IsKeptFrom (f : SourceDef) (q : List ℕ) (i : ℕ) (k : Kept) : Type 0 where
  pub earlier : IsInRange f.set q
  pub kept : IsKept f q i k
