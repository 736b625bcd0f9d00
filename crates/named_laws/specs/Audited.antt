-- The figures of an audit under a protocol by its name, and what is proved about them.
use Rattle.std.specs.Prelude.{◌≡◌, ℕ, ◌<◌, length, slice_index}
use Rattle.program_form.specs.Certificate.{CertificateDef}
use Rattle.program_sources.specs.Valid.{value_at}
use Rattle.schedule_model.specs.RowDef.{Trace}
use Rattle.schedule_answers.specs.declared.audited.TaskFigures.{TaskFigures}
use Rattle.figure_laws.specs.Figures.{blocked_ticks, figures_of}
use Rattle.figure_laws.specs.Audited.{LieWithin, charged_ticks}
use Rattle.protocol_names.specs.declared.ProtocolName.{ProtocolName}
use Rattle.named_laws.specs.Named.{charges_of, interference_of, source_of}

-- The figures of task x over n rows, beside what the certificate says of it.
abbrev pub figures_under : ProtocolName → CertificateDef → Trace → ℕ → ℕ → TaskFigures
figures_under protocol c w n =
    figures_of (charges_of protocol) (interference_of protocol) w (slice_index c.bounds) (value_at (source_of protocol w.set) c) n

-- Is each task's response within its bound, and its blocking within its value? And do its classes add up to all the ticks at which its
-- jobs are blocked?
pub record AreProvedFigures (protocol : ProtocolName) (c : CertificateDef) (w : Trace) (n : ℕ) : Type 0 where
  pub within : (x : ℕ) → x < length w.set.tasks → LieWithin (figures_under protocol c w n x)
  pub adds_up : (x : ℕ) → x < length w.set.tasks
      → charged_ticks (figures_under protocol c w n x) ≡ blocked_ticks (interference_of protocol) w n x
