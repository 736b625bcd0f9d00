-- Which processor does a Local job claim under spin locks?
use Rattle.std.specs.Prelude.{ℕ, ◌&&◌, not, if◌then◌else◌, Option, None, Some}
use Rattle.phase_machine.specs.MachineDef.{MachineDef}
use Rattle.phase_machine.specs.Now.{processor_now, is_local_now}
use Rattle.spin_protocol.specs.SpinTests.{has_spinner_now}

-- With these holders: its task's processor, unless a job spins there.
abbrev pub calm_claim : MachineDef → (ℕ → Option ℕ) → ℕ → Option ℕ
calm_claim m held j = if is_local_now m j && not (has_spinner_now m held (processor_now m j)) then Some (processor_now m j) else None
