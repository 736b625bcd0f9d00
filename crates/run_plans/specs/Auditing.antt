-- What status 0 of words of `audit` says: the figures that the call writes are within what the certificate proves.
use Rattle.std.specs.Prelude.{◌≡◌, ℕ, List, [], ◌∷◌, length}
use Rattle.std.specs.Io.KnownBytes.{Appends}
use Rattle.outside_ports.specs.Past.{wholly}
use Rattle.schedule_model.specs.JobDef.{JobsDef}
use Rattle.schedule_model.specs.RowDef.{trace_in, ticks_of}
use Rattle.schedule_model.specs.Fitting.{RowsDef}
use Rattle.soundness_laws.specs.Sound.{IsLawfulSchedule}
use Rattle.named_laws.specs.Named.{rules_of}
use Rattle.named_laws.specs.Audited.{figures_under, AreProvedFigures}
use Rattle.protocol_names.specs.declared.ProtocolName.{ProtocolName}
use Rattle.reply_texts.specs.Texts.{kept_text}
use Rattle.command_inputs.specs.Known.{Input, IsRead, shown, shown_by}
use Rattle.command_inputs.specs.Inputs.{jobs_input, rows_input}
use Rattle.run_plans.specs.Headline.{Call, Asks, ReadsValid}

-- The call read this value of the input, under this name and from these bytes.
abbrev pub Read : Call → (input : Input) → List ℕ → List ℕ → input.Value → Type 0
Read call input name bytes value = IsRead (shown_by (shown call.shelf_before call.shelf_now)) input name bytes value

-- The call read a set with a valid certificate of it, jobs of the set and rows of these jobs. They come from the bytes that the shelf gave,
-- in this order, and nothing else was asked for. The rows are a lawful schedule. The call writes its figures. They are within what the
-- certificate proves, and add up.
pub record IsProvedAudit (call : Call) (protocol : ProtocolName) (name cert jobs rows : List ℕ) : Type 0 where
  pub proved : ReadsValid call protocol name cert
  pub jobs_bytes : List ℕ
  pub list : JobsDef
  pub jobs_read : Read call (jobs_input proved.set) jobs jobs_bytes list
  pub rows_bytes : List ℕ
  pub schedule : RowsDef
  pub rows_read : Read call (rows_input list) rows rows_bytes schedule
  pub asked : Asks call (wholly name proved.read.bytes ∷ wholly cert proved.bytes ∷ wholly jobs jobs_bytes ∷ wholly rows rows_bytes ∷ [])
  pub given : length rows_bytes ≡ call.shelf_now.given
  pub lawful : IsLawfulSchedule (rules_of protocol) proved.set (trace_in list schedule.runs) (ticks_of schedule.runs)
  pub text : Appends call.sink_before.written call.sink_now.written (kept_text proved.set (ticks_of schedule.runs)
      (figures_under protocol proved.certificate (trace_in list schedule.runs) (ticks_of schedule.runs)))
  pub figures : AreProvedFigures protocol proved.certificate (trace_in list schedule.runs) (ticks_of schedule.runs)
