-- What the laws say of a protocol, by its rules, its choice and which ticks are interference under it.
use Rattle.std.specs.Prelude.{◌≡◌, ℕ, ◌<◌, ◌≤◌, ◌↔◌, Bool, true, Some}
use Rattle.sporadic_model.specs.SetDef.{is_higher_local}
use Rattle.schedule_model.specs.declared.rule.Rule.{Rule}
use Rattle.schedule_model.specs.RowDef.{Trace, holder_in}
use Rattle.schedule_model.specs.Phase.{phase_of}
use Rattle.schedule_model.specs.Phase.Phase.{Asking}
use Rattle.schedule_model.specs.Activity.{task_of}
use Rattle.schedule_model.specs.Keeping.{KeepsRow, KeepsBefore}
use Rattle.schedule_model.specs.BlockedTicks.{is_interferer}
use Rattle.schedule_model.specs.ProtocolLaws.{IsOneOfThree, IsSoundRow}
use Rattle.schedule_laws.specs.Agreement.{AgreeBefore}

-- Has the protocol the laws of `BlockingProtocol`, whichever sets suit it?
pub record HasItsLaws (keeps : Rule → Trace → ℕ → Type 0) (chooses : Trace → ℕ → Type 0) (interferes : Trace → ℕ → ℕ → Bool) : Type 0 where
  pub one_of_three : (w : Trace) (t j : ℕ) → IsOneOfThree interferes w t j
  pub sound_row : (w : Trace) (t : ℕ) → KeepsRow keeps w t → IsSoundRow interferes w t
  pub chosen_keeps : (w : Trace) (t : ℕ) → chooses w t → KeepsRow keeps w t

-- After the same rows, is there at most one chosen row?
abbrev pub ChoosesOneRow : (Trace → ℕ → Type 0) → Type 0
ChoosesOneRow chooses = (v w : Trace) (t : ℕ) → AgreeBefore v w t → chooses v t → chooses w t → v.row t ≡ w.row t

-- In rows that keep the rules, does a holder stay the holder while its request is open?
abbrev pub HoldersStay : (Rule → Trace → ℕ → Type 0) → Type 0
HoldersStay keeps = (w : Trace) (n u t q j m r : ℕ) → KeepsBefore keeps w n → u ≤ t → t < n → phase_of w u j ≡ Asking m r
    → phase_of w t j ≡ Asking m q → holder_in (w.row u) q ≡ Some j → holder_in (w.row t) q ≡ Some j

-- Is a tick interference for a job exactly if some job makes it so, and is that one of a higher task of the job's processor?
pub record HasHigherCause (interferes : Trace → ℕ → ℕ → Bool) : Type 0 where
  pub cause : (w : Trace) (t j : ℕ) → (interferes w t j ≡ true) ↔ ((y : ℕ) × (is_interferer interferes w t j y ≡ true))
  pub higher : (w : Trace) (t j y : ℕ) → is_interferer interferes w t j y ≡ true → is_higher_local w.set (task_of w j) (task_of w y) ≡ true
