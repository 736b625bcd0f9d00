-- What status 0 of `analyse` and of `check` says, whatever is known of the inputs.
use Rattle.std.proofs.Common.{◌≡◌, ℕ, List, [], ◌∷◌, refl, ◌∙◌, ap, subst, arith, inl, inr}
use Rattle.std.specs.Io.KnownBytes.{Appends}
use Rattle.outside_ports.specs.Past.{wholly}
use Rattle.program_form.specs.Certificate.{DualDef, CertificateDef}
use Rattle.program_sources.specs.Valid.{IsValid}
use Rattle.sporadic_model.specs.SetDef.{SetDef}
use Rattle.sporadic_model.specs.Accepted.{IsAccepted}
use Rattle.protocol_names.specs.declared.ProtocolName.{ProtocolName}
use Rattle.response_fixpoint.specs.Rounds.{Ending, Schedulable, NotShown, Wide, Allowance, EndsIn}
use Rattle.response_fixpoint.specs.Runs.{rounds_of}
use Rattle.named_laws.specs.Named.{source_of}
use Rattle.response_fixpoint.specs.Answers.{IsBest}
use Rattle.response_fixpoint.proofs.EndLaws.{schedulable_best}
use Rattle.named_laws.proofs.EachName.{named_above, named_sound}
use Rattle.cert_json.specs.Text.{certificate_text}
use Rattle.protocol_names.specs.Names.{word_of}
use Rattle.command_words.specs.Words.{Analyse, Check}
use Rattle.sha2.specs.Sha256.{sha256}
use Rattle.command_inputs.specs.Known.{Answer, Known, past, IsRead}
use Rattle.run_plans.specs.Plans.{IsOutcomeOf}
use Rattle.command_inputs.specs.Inputs.{set_input, cert_input}
use Rattle.run_plans.specs.Commands.{ending_answer, checked_answer, IsCheck, plan_of}
use Rattle.command_inputs.specs.Known.{shown_by}
use Rattle.run_plans.specs.Headline.{Call, WritesSchedulable, ReadsSome, ReadsValid, IsProvedAnalysis, IsProvedCheck}
use Rattle.run_plans.specs.Bounding.{WritesBounds}
use Rattle.run_plans.specs.Run.{shelf_of, Gives}
use Rattle.run_plans.proofs.PlanLaws.{stopped_not_zero, not_zero}
use Rattle.run_plans.proofs.SoundLaws.{accepted_of, valid_at_zero}
use Rattle.run_plans.proofs.WorkLaws.{tied_at_zero}
use Rattle.run_plans.proofs.SetTextLaws.{is_text}
use Rattle.run_plans.proofs.BoundLaws.{bounds_written}

-- An analysis has status 0 only if its rounds end as schedulable.
pub record IsSchedulableEnding (e : Ending) : Type 0 where
  pub bounds : List ℕ
  pub duals : List DualDef
  pub is : e ≡ Schedulable bounds duals

pub schedulable_ending : (protocol : ProtocolName) (digest : List ℕ) (set : SetDef) (e : Ending) (a : Answer) → a ≡ ending_answer protocol digest set e
    → a.status ≡ 0 → IsSchedulableEnding e
schedulable_ending protocol digest set (Schedulable bounds duals) a is zero = record { bounds = bounds; duals = duals; is = refl }
schedulable_ending protocol digest set (NotShown i value) a is zero = absurd (not_zero 0 is refl zero)
schedulable_ending protocol digest set (Wide i) a is zero = absurd (not_zero 4 is refl zero)
schedulable_ending protocol digest set Allowance a is zero = absurd (not_zero 5 is refl zero)

-- The one set that a call's words name, as the call read it, and what is true of it.
pub record OneSet (known : Known) (protocol : ProtocolName) (name : List ℕ) (IsSo : List ℕ → SetDef → Type 0) : Type 0 where
  pub bytes : List ℕ
  pub set : SetDef
  pub read : IsRead known (set_input protocol) name bytes set
  pub last : known.last bytes
  pub asked : known.asked (wholly name bytes ∷ [])
  pub so : IsSo bytes set

-- The outcome of an analysis with status 0 is the text of the best certificate of the set.
pub record WroteBest (known : Known) (protocol : ProtocolName) (name : List ℕ) (a : Answer) : Type 0 where
  pub bytes : List ℕ
  pub set : SetDef
  pub read : IsRead known (set_input protocol) name bytes set
  pub last : known.last bytes
  pub asked : known.asked (wholly name bytes ∷ [])
  pub certificate : CertificateDef
  pub best : IsBest (source_of protocol set) certificate
  pub text : a.text ≡ certificate_text (word_of protocol) (sha256 bytes) certificate

pub wrote_best : (known : Known) (protocol : ProtocolName) (name : List ℕ) (allowance : ℕ) (a : Answer)
    → IsOutcomeOf known (plan_of (Analyse protocol name allowance)) a
    → a.status ≡ 0 → WroteBest known protocol name a
wrote_best known protocol name allowance a (inl stopped) zero =
    absurd (stopped_not_zero known (set_input protocol) name a stopped zero)
wrote_best known protocol name allowance a (inr (bytes, set, read, last, ((e, ends, is), asked))) zero =
    let end = schedulable_ending protocol (sha256 bytes) set e a is zero in
    let schedulable : EndsIn (rounds_of (source_of protocol set)) allowance (Schedulable end.bounds end.duals) =
    subst (λ (x : Ending). EndsIn (rounds_of (source_of protocol set)) allowance x) end.is ends in
    record {
      bytes = bytes;
      set = set;
      read = read;
      last = last tt;
      asked = asked;
      certificate = record { bounds = end.bounds; duals = end.duals };
      best = schedulable_best (source_of protocol set) allowance end.bounds end.duals (named_above protocol set) schedulable;
      text = ap (λ x. x.text) is ∙ ap (λ (x : Ending). (ending_answer protocol (sha256 bytes) set x).text) end.is;
    }

-- The outcome of `check` with status 0 is that the certificate is valid.
record FoundValid (known : Known) (protocol : ProtocolName) (name cert : List ℕ) : Type 0 where
  bytes : List ℕ
  set : SetDef
  read : IsRead known (set_input protocol) name bytes set
  text : List ℕ
  certificate : CertificateDef
  also : IsRead known (cert_input protocol) cert text (record { certificate = certificate; digest = sha256 bytes })
  last : known.last text
  asked : known.asked (wholly name bytes ∷ wholly cert text ∷ [])
  valid : IsValid (source_of protocol set) certificate

found_valid : (known : Known) (protocol : ProtocolName) (name cert : List ℕ) (a : Answer)
    → IsOutcomeOf known (plan_of (Check protocol name cert)) a → a.status ≡ 0 → FoundValid known protocol name cert
found_valid known protocol name cert a (inl stopped) zero =
    absurd (stopped_not_zero known (set_input protocol) name a stopped zero)
found_valid known protocol name cert a (inr (bytes, set, read, none, inl stopped)) zero =
    absurd (stopped_not_zero (past known (wholly name bytes)) (cert_input protocol) cert a stopped zero)
found_valid known protocol name cert a (inr (bytes, set, read, none, inr (text, file, also, last, (tied, asked)))) zero =
    let own = tied_at_zero (sha256 bytes) file.digest (IsCheck protocol set file.certificate) a tied zero in
    record {
      bytes = bytes;
      set = set;
      read = read;
      text = text;
      certificate = file.certificate;
      also = subst (λ (d : List ℕ). IsRead known (cert_input protocol) cert text (record { certificate = file.certificate; digest = d })) own.0 also;
      last = last tt;
      asked = asked;
      valid = (valid_at_zero protocol set file.certificate checked_answer a own.1 zero).0;
    }

-- A set that was read under a name.
abbrev pub some_read : (call : Call) (protocol : ProtocolName) (name bytes : List ℕ) (set : SetDef)
    → IsRead (shown_by (shelf_of call)) (set_input protocol) name bytes set → ReadsSome call protocol name set
some_read call protocol name bytes set (has, reads) =
    record { bytes = bytes; named = has.0; short = has.1; text = is_text protocol bytes set reads }

-- A call with status 0 that writes the best certificate of an accepted set writes "schedulable".
pub best_writes : (call : Call) (protocol : ProtocolName) (digest : List ℕ) (set : SetDef) (c : CertificateDef) → IsAccepted set → IsBest (source_of protocol set) c
    → call.status ≡ 0 → Appends call.sink_before.written call.sink_now.written (certificate_text (word_of protocol) digest c)
    → WritesSchedulable call protocol digest set
best_writes call protocol digest set c accepted best done text = record {
  certificate = c;
  done = done;
  text = text;
  least = best.least;
  optimal = best.optimal;
  sound = λ values are. named_sound protocol set c values accepted best.valid are;
}

pub proved_analysis : (call : Call) (protocol : ProtocolName) (name : List ℕ) (allowance : ℕ) (a : Answer)
    → IsOutcomeOf (shown_by (shelf_of call)) (plan_of (Analyse protocol name allowance)) a
    → Gives call a → call.status ≡ 0 → IsProvedAnalysis call protocol name
proved_analysis call protocol name allowance a out gives zero =
    let zero' : a.status ≡ 0 = omega (arith, gives.0, zero) in
    let w = wrote_best (shown_by (shelf_of call)) protocol name allowance a out zero' in
    record {
      set = w.set;
      read = some_read call protocol name w.bytes w.set w.read;
      asked = w.asked;
      given = w.last;
      writes = best_writes call protocol (sha256 w.bytes) w.set w.certificate (accepted_of protocol w.bytes w.set w.read.1) w.best zero
          (subst (λ (t : List ℕ). Appends call.sink_before.written call.sink_now.written t) w.text gives.1);
    }

-- And the bounds that it lists.
pub bounded_analysis : (call : Call) (protocol : ProtocolName) (name : List ℕ) (allowance : ℕ) (a : Answer)
    → IsOutcomeOf (shown_by (shelf_of call)) (plan_of (Analyse protocol name allowance)) a → Gives call a → call.status ≡ 0
    → WritesBounds call protocol name
bounded_analysis call protocol name allowance a out gives zero =
    let w = wrote_best (shown_by (shelf_of call)) protocol name allowance a out (omega (arith, gives.0, zero)) in
    bounds_written call protocol name w.bytes w.set w.certificate a (some_read call protocol name w.bytes w.set w.read) w.asked
    w.best.valid w.best.small w.text gives

-- A set and a valid certificate of it that were read.
abbrev pub reads_valid : (call : Call) (protocol : ProtocolName) (name cert bytes text : List ℕ) (set : SetDef) (c : CertificateDef)
    → IsRead (shown_by (shelf_of call)) (set_input protocol) name bytes set
    → IsRead (shown_by (shelf_of call)) (cert_input protocol) cert text (record { certificate = c; digest = sha256 bytes })
    → IsValid (source_of protocol set) c → ReadsValid call protocol name cert
reads_valid call protocol name cert bytes text set c read also valid = record {
  set = set;
  read = some_read call protocol name bytes set read;
  certificate = c;
  bytes = text;
  named = also.0.0;
  short = also.0.1;
  reads = also.1;
  valid = valid;
  sound = λ values are. named_sound protocol set c values (accepted_of protocol bytes set read.1) valid are;
}

pub proved_check : (call : Call) (protocol : ProtocolName) (name cert : List ℕ) (a : Answer)
    → IsOutcomeOf (shown_by (shelf_of call)) (plan_of (Check protocol name cert)) a
    → Gives call a → call.status ≡ 0 → IsProvedCheck call protocol name cert
proved_check call protocol name cert a out gives zero =
    let zero' : a.status ≡ 0 = omega (arith, gives.0, zero) in
    let f = found_valid (shown_by (shelf_of call)) protocol name cert a out zero' in
    record {
      proved = reads_valid call protocol name cert f.bytes f.text f.set f.certificate f.read f.also f.valid;
      asked = f.asked;
      given = f.last;
    }
