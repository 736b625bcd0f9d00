-- What status 0 of `upgrade` says, whatever is known of the inputs.
use Rattle.std.proofs.Common.{◌≡◌, ℕ, List, [], ◌∷◌, ap, subst, arith, inl, inr}
use Rattle.std.specs.Io.KnownBytes.{Appends}
use Rattle.outside_ports.specs.Past.{wholly}
use Rattle.sha2.specs.Sha256.{sha256}
use Rattle.program_form.specs.Certificate.{CertificateDef}
use Rattle.program_sources.specs.Valid.{IsValid}
use Rattle.sporadic_model.specs.SetDef.{SetDef}
use Rattle.protocol_names.specs.Names.{word_of}
use Rattle.protocol_names.specs.declared.ProtocolName.{ProtocolName}
use Rattle.named_laws.specs.Named.{source_of}
use Rattle.named_laws.proofs.EachName.{named_sound}
use Rattle.cert_json.specs.Text.{certificate_text}
use Rattle.command_words.specs.Words.{Upgrade}
use Rattle.command_inputs.specs.Known.{Answer, Known, past, IsRead, shown_by}
use Rattle.command_inputs.specs.Inputs.{set_input, old_cert_input}
use Rattle.run_plans.specs.Plans.{IsOutcomeOf}
use Rattle.run_plans.specs.Commands.{upgraded_answer, plan_of}
use Rattle.run_plans.specs.Headline.{Call}
use Rattle.run_plans.specs.Upgraded.{IsProvedUpgrade}
use Rattle.run_plans.specs.Run.{shelf_of, Gives}
use Rattle.run_plans.proofs.PlanLaws.{stopped_not_zero}
use Rattle.run_plans.proofs.SoundLaws.{accepted_of, valid_at_zero}
use Rattle.run_plans.proofs.ShownLaws.{some_read}

-- The outcome of `upgrade` with status 0 is the text of the certificate that was read, which is valid.
pub record WroteUpgraded (known : Known) (protocol : ProtocolName) (name cert : List ℕ) (a : Answer) : Type 0 where
  pub bytes : List ℕ
  pub set : SetDef
  pub read : IsRead known (set_input protocol) name bytes set
  pub old : List ℕ
  pub certificate : CertificateDef
  pub also : IsRead known (old_cert_input protocol) cert old certificate
  pub last : known.last old
  pub asked : known.asked (wholly name bytes ∷ wholly cert old ∷ [])
  pub valid : IsValid (source_of protocol set) certificate
  pub text : a.text ≡ certificate_text (word_of protocol) (sha256 bytes) certificate

pub wrote_upgraded : (known : Known) (protocol : ProtocolName) (name cert : List ℕ) (a : Answer)
    → IsOutcomeOf known (plan_of (Upgrade protocol name cert)) a → a.status ≡ 0 → WroteUpgraded known protocol name cert a
wrote_upgraded known protocol name cert a (inl stopped) zero =
    absurd (stopped_not_zero known (set_input protocol) name a stopped zero)
wrote_upgraded known protocol name cert a (inr (bytes, set, read, none, inl stopped)) zero =
    absurd (stopped_not_zero (past known (wholly name bytes)) (old_cert_input protocol) cert a stopped zero)
wrote_upgraded known protocol name cert a (inr (bytes, set, read, none, inr (old, c, also, last, (judged, asked)))) zero =
    let own = valid_at_zero protocol set c (upgraded_answer protocol (sha256 bytes) c) a judged zero in
    record {
      bytes = bytes;
      set = set;
      read = read;
      old = old;
      certificate = c;
      also = also;
      last = last tt;
      asked = asked;
      valid = own.0;
      text = ap (λ x. x.text) own.1;
    }

pub proved_upgrade : (call : Call) (protocol : ProtocolName) (name cert : List ℕ) (a : Answer)
    → IsOutcomeOf (shown_by (shelf_of call)) (plan_of (Upgrade protocol name cert)) a → Gives call a → call.status ≡ 0
    → IsProvedUpgrade call protocol name cert
proved_upgrade call protocol name cert a out gives zero =
    let w = wrote_upgraded (shown_by (shelf_of call)) protocol name cert a out (omega (arith, gives.0, zero)) in
    record {
      set = w.set;
      read = some_read call protocol name w.bytes w.set w.read;
      certificate = w.certificate;
      bytes = w.old;
      named = w.also.0.0;
      short = w.also.0.1;
      reads = w.also.1;
      asked = w.asked;
      given = w.last;
      text = subst (λ (t : List ℕ). Appends call.sink_before.written call.sink_now.written t) w.text gives.1;
      valid = w.valid;
      sound = λ values are. named_sound protocol w.set w.certificate values (accepted_of protocol w.bytes w.set w.read.1) w.valid are;
    }
