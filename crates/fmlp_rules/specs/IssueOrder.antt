-- The order of issue at a machine.
use Rattle.std.specs.Prelude.{ℕ, unwrap_or}
use Rattle.phase_machine.specs.MachineDef.{MachineDef}
use Rattle.phase_machine.specs.Now.{issued_now}

-- At which tick was the request issued that job j is in? 0 if it is in no request.
abbrev pub issue_now : MachineDef → ℕ → ℕ
issue_now m j = unwrap_or (issued_now m j) 0
