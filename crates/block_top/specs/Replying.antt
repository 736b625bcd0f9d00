-- What the contracts of replies and of works on certificates share.
use Rattle.std.specs.Prelude.{◌≡◌, ℕ, List, Result, IfOk}
use Rattle.std.specs.declared.alloc.AllocError.{AllocError}
use Rattle.program_form.specs.Certificate.{CertificateDef}
use Rattle.sporadic_model.specs.SetDef.{SetDef}
use Rattle.protocol_names.specs.declared.ProtocolName.{ProtocolName}
use Rattle.named_laws.specs.Named.{HasHomes}
use Rattle.dual_check.specs.Answers.{HasDenominators}
use Rattle.command_inputs.specs.Known.{Answer}
use Rattle.command_inputs.specs.Halts.{reply_seen}
use Rattle.command_inputs.specs.declared.halt.Reply.{Reply}

-- Is this the reply? If memory runs out there is none.
abbrev pub RepliesWith : Result Reply AllocError → Answer → Type 0
RepliesWith result answer = IfOk result (λ r. reply_seen r ≡ answer)

-- Has it this status and this text?
abbrev pub Says : Result Reply AllocError → ℕ → List ℕ → Type 0
Says result status text = RepliesWith result (record { status = status; text = text })

-- Can the certificate be judged for the set? The set has the homes that the protocol asks for, and each dual a denominator of at least 1.
pub record CanJudge (protocol : ProtocolName) (set : SetDef) (c : CertificateDef) : Type 0 where
  pub suits : HasHomes protocol set
  pub denominators : HasDenominators c
