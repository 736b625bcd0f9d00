-- Which job makes a tick interference for another: the one that runs on its processor.
use Rattle.std.proofs.Common.{◌≡◌, ℕ, Bool, true, sym, ◌∙◌, Some}
use Rattle.std.proofs.lemmas.Bool.{and_parts, and_from}
use Rattle.sporadic_model.specs.SetDef.{is_higher_local}
use Rattle.schedule_model.specs.RowDef.{Trace, is_job, running_on}
use Rattle.schedule_model.specs.Phase.{is_local, phase_of}
use Rattle.schedule_model.specs.Activity.{task_of, processor_of}
use Rattle.schedule_model.specs.BlockedTicks.{is_shared_interference, is_dpcp_interference, is_interferer}
use Rattle.schedule_model.specs.ProtocolLaws.{HasHigherRunner, IsSoundRow}
use Rattle.schedule_laws.proofs.Rows.{job_named, named_job}
use Rattle.schedule_laws.proofs.SharedLaws.{shared_interfering}
use Rattle.schedule_laws.proofs.DpcpLaws.{HigherLocalRunner, dpcp_interfering}

-- A tick that is interference for j, at which y runs on j's processor.
pub record Interferer (interferes : Trace → ℕ → ℕ → Bool) (w : Trace) (t j y : ℕ) : Type 0 where
  pub tick : interferes w t j ≡ true
  pub runs : running_on (w.row t) (processor_of w j) ≡ Some y

-- Who makes a tick interference runs there.
pub interferer_is : (interferes : Trace → ℕ → ℕ → Bool) (w : Trace) (t j y : ℕ)
    → is_interferer interferes w t j y ≡ true → Interferer interferes w t j y
unfolding is_interferer
interferer_is interferes w t j y h =
    let parts : (interferes w t j ≡ true) × (is_job y (running_on (w.row t) (processor_of w j)) ≡ true) = and_parts _ _ h in
    record { tick = parts.0; runs = job_named y _ parts.1 }

-- Who runs there at a tick that is interference makes it so.
pub interferer_from : (interferes : Trace → ℕ → ℕ → Bool) (w : Trace) (t j y : ℕ) → interferes w t j ≡ true
    → running_on (w.row t) (processor_of w j) ≡ Some y → is_interferer interferes w t j y ≡ true
unfolding is_interferer
interferer_from interferes w t j y h e = and_from _ _ h (named_job y _ e)

-- One job alone does.
pub interferer_one : (interferes : Trace → ℕ → ℕ → Bool) (w : Trace) (t j y z : ℕ)
    → is_interferer interferes w t j y ≡ true → is_interferer interferes w t j z ≡ true → y ≡ z
interferer_one interferes w t j y z g h =
    let a : Interferer interferes w t j y = interferer_is interferes w t j y g in
    let b : Interferer interferes w t j z = interferer_is interferes w t j z h in
    let e : Some y ≡ Some z = sym a.runs ∙ b.runs in
    cc

-- Where one runs on j's processor, it is the one that makes the tick interference.
same_runner : (interferes : Trace → ℕ → ℕ → Bool) (w : Trace) (t j r y : ℕ)
    → running_on (w.row t) (processor_of w j) ≡ Some r → is_interferer interferes w t j y ≡ true → r ≡ y
same_runner interferes w t j r y e h =
    let a : Interferer interferes w t j y = interferer_is interferes w t j y h in
    let f : Some r ≡ Some y = sym e ∙ a.runs in
    cc

-- Under shared memory each such tick has its interferer, which is of a higher task of j's processor.
pub shared_interferer : (w : Trace) (t j : ℕ) → is_shared_interference w t j ≡ true
    → (y : ℕ) × (is_interferer is_shared_interference w t j y ≡ true)
shared_interferer w t j h = let r : HasHigherRunner w t j = shared_interfering w t j h in
    (r.runner, interferer_from is_shared_interference w t j r.runner h r.runs)

pub shared_interferer_higher : (w : Trace) (t j y : ℕ) → is_interferer is_shared_interference w t j y ≡ true
    → is_higher_local w.set (task_of w j) (task_of w y) ≡ true
shared_interferer_higher w t j y h =
    let a : Interferer is_shared_interference w t j y = interferer_is is_shared_interference w t j y h in
    let r : HasHigherRunner w t j = shared_interfering w t j a.tick in
    let e : r.runner ≡ y = same_runner is_shared_interference w t j r.runner y r.runs h in
    rw (← e) r.higher

-- So too under DPCP, where it is Local besides.
pub dpcp_interferer : (w : Trace) (t j : ℕ) → is_dpcp_interference w t j ≡ true
    → (y : ℕ) × (is_interferer is_dpcp_interference w t j y ≡ true)
dpcp_interferer w t j h = let r : HigherLocalRunner w t j = dpcp_interfering w t j h in
    (r.runner, interferer_from is_dpcp_interference w t j r.runner h r.runs)

pub dpcp_interferer_higher : (w : Trace) (t j y : ℕ) → is_interferer is_dpcp_interference w t j y ≡ true
    → (is_higher_local w.set (task_of w j) (task_of w y) ≡ true) × (is_local (phase_of w t y) ≡ true)
dpcp_interferer_higher w t j y h =
    let a : Interferer is_dpcp_interference w t j y = interferer_is is_dpcp_interference w t j y h in
    let r : HigherLocalRunner w t j = dpcp_interfering w t j a.tick in
    let e : r.runner ≡ y = same_runner is_dpcp_interference w t j r.runner y r.runs h in
    rw (← e) (r.higher, r.local)

-- In a sound row each such tick has its interferer, which is in the list and of a higher task of j's processor.
pub sound_interferer : (interferes : Trace → ℕ → ℕ → Bool) (w : Trace) (t j : ℕ) → IsSoundRow interferes w t → interferes w t j ≡ true
    → (y : ℕ) × (is_interferer interferes w t j y ≡ true) × (is_higher_local w.set (task_of w j) (task_of w y) ≡ true)
sound_interferer interferes w t j sound h =
    let r : HasHigherRunner w t j = sound.interfering j h in
    (r.runner, interferer_from interferes w t j r.runner h r.runs, r.higher)
