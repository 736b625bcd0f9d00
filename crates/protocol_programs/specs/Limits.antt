-- When programs have the same limits.
use Rattle.std.specs.Prelude.{◌≡◌, ℕ, List}
use Rattle.sporadic_model.specs.SetDef.{SetDef}
use Rattle.sporadic_model.specs.declared.ids.Protocol.{Protocol}
use Rattle.program_laws.specs.Programs.{program_of}

-- Have the programs of task i under the protocol the same limits at the bounds r and s?
abbrev pub HaveSameLimits : Protocol → SetDef → ℕ → List ℕ → List ℕ → Type 0
HaveSameLimits p set i r s = (program_of p set i r).limits ≡ (program_of p set i s).limits
