-- Two calls that analyse one set, under a protocol and under a closer analysis of it. And two calls that analyse or refute a set, and
-- settle it.
use Rattle.std.specs.Prelude.{◌≡◌, ℕ, List, length, Some, IsSome}
use Rattle.std.specs.Io.KnownBytes.{Appends}
use Rattle.outside_ports.specs.Names.{Inputs, bytes_of}
use Rattle.sporadic_model.specs.SetDef.{SetDef}
use Rattle.sporadic_model.specs.Bounds.{AtMost}
use Rattle.protocol_names.specs.declared.ProtocolName.{ProtocolName}
use Rattle.sha2.specs.Sha256.{sha256}
use Rattle.command_words.specs.Spelled.{analyse_words, refute_words, settle_words, allowance_of}
use Rattle.run_plans.specs.Headline.{Call, HasInputs, Analyses, WritesSchedulable}
use Rattle.run_plans.specs.Checked.{Finds}

-- The first call's words are those of `analyse` for the plain protocol, and the second's are those for the closer analysis. Each call reads
-- the set.
pub record AnalyseOneSet (plain closer : ProtocolName) (first second : Call) (set : SetDef) : Type 0 where
  pub plain_call : Analyses first plain set
  pub closer_call : Analyses second closer set

-- Each call writes "schedulable", and no bound of the second's certificate is greater than the first's.
pub record RaisesNoBound (plain closer : ProtocolName) (first second : Call) (set : SetDef)
    (two : AnalyseOneSet plain closer first second set) : Type 0 where
  pub plain_written : WritesSchedulable first plain (sha256 two.plain_call.read.bytes) set
  pub closer_written : WritesSchedulable second closer (sha256 two.closer_call.read.bytes) set
  pub no_greater : AtMost (length set.tasks) closer_written.certificate.bounds plain_written.certificate.bounds

-- Does the second call settle a set that the first one worked on, with these words? The first writes to a sink that tells its bytes, and
-- ends with status 0. The second has the words of `settle` for the same protocol and with the same allowance, where the set's name has the
-- same bytes. Each call has its inputs.
pub record SettlesAfter (words : ProtocolName → List ℕ → List (List ℕ) → List (List ℕ)) (first second : Call) : Type 0 where
  pub protocol : ProtocolName
  pub set : List ℕ
  pub more : List (List ℕ)
  pub allowance : ℕ
  pub inputs : Inputs
  pub before : first.words ≡ words protocol set more
  pub allows : allowance_of more ≡ Some allowance
  pub has : HasInputs first inputs
  pub tells : IsSome first.sink_before.written
  pub done : first.status ≡ 0
  pub text : List ℕ
  pub wrote : Appends first.sink_before.written first.sink_now.written text
  pub same_set : List ℕ
  pub later : Inputs
  pub settles : second.words ≡ settle_words protocol same_set more
  pub has_later : HasInputs second later
  pub set_again : bytes_of later same_set ≡ bytes_of inputs set

-- The first call analysed the set, or refuted it.
abbrev pub SettlesWhatWasAnalysed : Call → Call → Type 0
SettlesWhatWasAnalysed = SettlesAfter analyse_words

abbrev pub SettlesWhatWasRefuted : Call → Call → Type 0
SettlesWhatWasRefuted = SettlesAfter refute_words

-- It gives this text, as that of a certificate or as that of a refusal.
abbrev pub FindsText : Call → List ℕ → Type 0
FindsText call text = Finds call (record { status = 0; text = text })

abbrev pub FindsRefusal : Call → List ℕ → Type 0
FindsRefusal call text = Finds call (record { status = 1; text = text })
