-- What status 0 of `refute` and of `confirm` says, whatever is known of the inputs.
use Rattle.std.proofs.Common.{◌≡◌, ℕ, List, [], ◌∷◌, subst, arith, inl, inr}
use Rattle.std.specs.Io.KnownBytes.{Appends}
use Rattle.outside_ports.specs.Past.{wholly}
use Rattle.sha2.specs.Sha256.{sha256}
use Rattle.sporadic_model.specs.SetDef.{SetDef}
use Rattle.protocol_names.specs.declared.ProtocolName.{ProtocolName}
use Rattle.refusal_laws.specs.Steps.{StepDef, Holds}
use Rattle.named_laws.specs.Named.{source_of}
use Rattle.named_laws.proofs.Refusals.{named_none_fits}
use Rattle.command_words.specs.Words.{Refute, Confirm}
use Rattle.command_inputs.specs.Known.{Answer, Known, past, IsRead}
use Rattle.run_plans.specs.Plans.{IsOutcomeOf}
use Rattle.command_inputs.specs.Inputs.{set_input, refusal_input}
use Rattle.run_plans.specs.Commands.{plan_of}
use Rattle.command_inputs.specs.Known.{shown_by}
use Rattle.run_plans.specs.Headline.{Call}
use Rattle.run_plans.specs.Refused.{IsProvedRefutation, ReadsHolding, IsProvedConfirmation}
use Rattle.run_plans.specs.Run.{shelf_of, Gives}
use Rattle.run_plans.proofs.PlanLaws.{stopped_not_zero}
use Rattle.run_plans.proofs.SoundLaws.{accepted_of}
use Rattle.run_plans.proofs.ShownLaws.{OneSet, some_read}
use Rattle.run_plans.proofs.RefusalLaws.{RefusedSo, refused_at_zero, confirmed_at_zero}

-- The outcome of `refute` with status 0 is the text of a refusal that holds.
abbrev pub WroteRefusal : Known → ProtocolName → List ℕ → ℕ → Answer → Type 0
WroteRefusal known protocol name allowance a = OneSet known protocol name (λ bytes set. RefusedSo protocol (sha256 bytes) set allowance a)

pub wrote_refusal : (known : Known) (protocol : ProtocolName) (name : List ℕ) (allowance : ℕ) (a : Answer)
    → IsOutcomeOf known (plan_of (Refute protocol name allowance)) a → a.status ≡ 0 → WroteRefusal known protocol name allowance a
wrote_refusal known protocol name allowance a (inl stopped) zero =
    absurd (stopped_not_zero known (set_input protocol) name a stopped zero)
wrote_refusal known protocol name allowance a (inr (bytes, set, read, last, (is, asked))) zero = record {
  bytes = bytes;
  set = set;
  read = read;
  last = last tt;
  asked = asked;
  so = refused_at_zero protocol (sha256 bytes) set allowance a (accepted_of protocol bytes set read.1) is zero;
}

pub proved_refutation : (call : Call) (protocol : ProtocolName) (name : List ℕ) (allowance : ℕ) (a : Answer)
    → IsOutcomeOf (shown_by (shelf_of call)) (plan_of (Refute protocol name allowance)) a
    → Gives call a → call.status ≡ 0 → IsProvedRefutation call protocol name
proved_refutation call protocol name allowance a out gives zero =
    let zero' : a.status ≡ 0 = omega (arith, gives.0, zero) in
    let w = wrote_refusal (shown_by (shelf_of call)) protocol name allowance a out zero' in
    record {
      set = w.set;
      read = some_read call protocol name w.bytes w.set w.read;
      asked = w.asked;
      given = w.last;
      steps = w.so.steps;
      text = subst (λ (t : List ℕ). Appends call.sink_before.written call.sink_now.written t) w.so.text gives.1;
      holds = w.so.holds;
      none = λ s fits. named_none_fits protocol w.set w.so.steps s w.so.holds fits;
    }

-- The outcome of `confirm` with status 0 is that the refusal is of the set, and holds.
record FoundHolding (known : Known) (protocol : ProtocolName) (name cert : List ℕ) : Type 0 where
  bytes : List ℕ
  set : SetDef
  read : IsRead known (set_input protocol) name bytes set
  text : List ℕ
  steps : List StepDef
  also : IsRead known (refusal_input protocol) cert text (record { steps = steps; digest = sha256 bytes })
  last : known.last text
  asked : known.asked (wholly name bytes ∷ wholly cert text ∷ [])
  holds : Holds (source_of protocol set) steps

found_holding : (known : Known) (protocol : ProtocolName) (name cert : List ℕ) (a : Answer)
    → IsOutcomeOf known (plan_of (Confirm protocol name cert)) a → a.status ≡ 0 → FoundHolding known protocol name cert
found_holding known protocol name cert a (inl stopped) zero =
    absurd (stopped_not_zero known (set_input protocol) name a stopped zero)
found_holding known protocol name cert a (inr (bytes, set, read, none, inl stopped)) zero =
    absurd (stopped_not_zero (past known (wholly name bytes)) (refusal_input protocol) cert a stopped zero)
found_holding known protocol name cert a (inr (bytes, set, read, none, inr (text, file, also, last, (tied, asked)))) zero =
    let own = confirmed_at_zero protocol (sha256 bytes) set file a tied zero in
    record {
      bytes = bytes;
      set = set;
      read = read;
      text = text;
      steps = file.steps;
      also = subst (λ (d : List ℕ). IsRead known (refusal_input protocol) cert text (record { steps = file.steps; digest = d })) own.0 also;
      last = last tt;
      asked = asked;
      holds = own.1;
    }

-- A set and a refusal of it that were read.
abbrev pub reads_holding : (call : Call) (protocol : ProtocolName) (name cert bytes text : List ℕ) (set : SetDef) (steps : List StepDef)
    → IsRead (shown_by (shelf_of call)) (set_input protocol) name bytes set
    → IsRead (shown_by (shelf_of call)) (refusal_input protocol) cert text (record { steps = steps; digest = sha256 bytes })
    → Holds (source_of protocol set) steps → ReadsHolding call protocol name cert
reads_holding call protocol name cert bytes text set steps read also holds = record {
  set = set;
  read = some_read call protocol name bytes set read;
  steps = steps;
  bytes = text;
  named = also.0.0;
  short = also.0.1;
  reads = also.1;
  holds = holds;
  none = λ s fits. named_none_fits protocol set steps s holds fits;
}

pub proved_confirmation : (call : Call) (protocol : ProtocolName) (name cert : List ℕ) (a : Answer)
    → IsOutcomeOf (shown_by (shelf_of call)) (plan_of (Confirm protocol name cert)) a
    → Gives call a → call.status ≡ 0 → IsProvedConfirmation call protocol name cert
proved_confirmation call protocol name cert a out gives zero =
    let zero' : a.status ≡ 0 = omega (arith, gives.0, zero) in
    let f = found_holding (shown_by (shelf_of call)) protocol name cert a out zero' in
    record {
      proved = reads_holding call protocol name cert f.bytes f.text f.set f.steps f.read f.also f.holds;
      asked = f.asked;
      given = f.last;
    }
