-- What status 0 of `upgrade` says: the certificate is valid, and is written with the digest of its set.
use Rattle.std.specs.Prelude.{◌≡◌, ℕ, ◌≤◌, List, [], ◌∷◌, length, Ok}
use Rattle.std.specs.Io.KnownBytes.{Appends}
use Rattle.outside_ports.specs.Names.{IsNamed}
use Rattle.outside_ports.specs.Past.{wholly}
use Rattle.outside_ports.specs.declared.whole.TheConstants.{GREATEST_INPUT_BYTES}
use Rattle.sha2.specs.Sha256.{sha256}
use Rattle.program_form.specs.Certificate.{CertificateDef}
use Rattle.program_sources.specs.Valid.{IsValid}
use Rattle.soundness_laws.specs.Analyses.{AreValues}
use Rattle.sporadic_model.specs.SetDef.{SetDef}
use Rattle.protocol_names.specs.Names.{word_of}
use Rattle.protocol_names.specs.declared.ProtocolName.{ProtocolName}
use Rattle.named_laws.specs.Named.{SoundUnder, source_of}
use Rattle.cert_json.specs.Text.{certificate_text}
use Rattle.command_inputs.specs.Inputs.{old_cert_input}
use Rattle.run_plans.specs.Headline.{Call, Asks, ReadsSome}

-- The call asked for a set and then for a certificate of the version before, and for nothing else. Both are read from the bytes that the
-- shelf gave. The call writes this certificate, which is valid, with the digest of the set's bytes. So its bounds and the values of its
-- duals are sound.
pub record IsProvedUpgrade (call : Call) (protocol : ProtocolName) (name cert : List ℕ) : Type 0 where
  pub set : SetDef
  pub read : ReadsSome call protocol name set
  pub certificate : CertificateDef
  pub bytes : List ℕ
  pub named : IsNamed call.shelf_before.names cert bytes
  pub short : length bytes ≤ GREATEST_INPUT_BYTES
  pub reads : (old_cert_input protocol).reads bytes (Ok certificate)
  pub asked : Asks call (wholly name read.bytes ∷ wholly cert bytes ∷ [])
  pub given : length bytes ≡ call.shelf_now.given
  pub text : Appends call.sink_before.written call.sink_now.written (certificate_text (word_of protocol) (sha256 read.bytes) certificate)
  pub valid : IsValid (source_of protocol set) certificate
  pub sound : (values : List ℕ) → AreValues (source_of protocol set) certificate values → SoundUnder protocol set certificate.bounds values
