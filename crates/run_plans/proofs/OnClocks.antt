-- A certificate that is written or found valid lists bounds that hold on the machine's clock.
use Rattle.std.proofs.Common.{◌≡◌, ℕ, ◌<◌, List, length, ap, subst, arith}
use Rattle.std.specs.Prelude.{[], ◌∷◌, codes}
use Rattle.std.specs.Io.KnownBytes.{Appends}
use Rattle.serde_json.specs.Data.{Data}
use Rattle.program_form.specs.Certificate.{CertificateDef}
use Rattle.program_sources.specs.Valid.{IsValid, dual_at}
use Rattle.outside_ports.specs.Past.{wholly}
use Rattle.response_fixpoint.specs.Answers.{IsSmallDual}
use Rattle.sporadic_model.specs.SetDef.{SetDef}
use Rattle.sporadic_model.specs.Accepted.{IsAccepted}
use Rattle.protocol_names.specs.declared.ProtocolName.{ProtocolName}
use Rattle.protocol_names.specs.Names.{word_of}
use Rattle.clock_laws.specs.Whole.{is_whole}
use Rattle.clock_laws.proofs.Spared.{lawful_of_spared}
use Rattle.named_laws.specs.Named.{rules_of, source_of}
use Rattle.named_laws.proofs.EachName.{named_on_clocks}
use Rattle.named_laws.proofs.Values.{values_of, are_values}
use Rattle.taskset_json.specs.Answers.{IsValue}
use Rattle.taskset_json.specs.Members.{list_at}
use Rattle.cert_json.specs.FileDef.{FileDef}
use Rattle.cert_json.specs.Text.{certificate_text}
use Rattle.cert_json.specs.Written.{numbers_written, certificate_written}
use Rattle.sha2.specs.Sha256.{sha256}
use Rattle.command_words.specs.Words.{Analyse, Settle}
use Rattle.command_inputs.specs.Known.{Answer, shown_by}
use Rattle.run_plans.specs.Plans.{IsOutcomeOf}
use Rattle.run_plans.specs.Commands.{plan_of}
use Rattle.run_plans.specs.Headline.{Call, Asks, ReadsSome, ReadsValid}
use Rattle.run_plans.specs.OnClocks.{AreKeptOnClocks, ListsOnClocks, WritesOnClocks, IsOnClocks}
use Rattle.run_plans.specs.Run.{shelf_of, Gives}
use Rattle.run_plans.proofs.BoundLaws.{writable, text_is_read}
use Rattle.run_plans.proofs.ShownLaws.{wrote_best, some_read}
use Rattle.run_plans.proofs.SettledLaws.{wrote_settled}

pub kept : (protocol : ProtocolName) (set : SetDef) (c : CertificateDef) → IsAccepted set → IsValid (source_of protocol set) c
    → AreKeptOnClocks protocol set c.bounds
kept protocol set c accepted valid = λ k w n j some spared l due.
    (named_on_clocks protocol set c (values_of (source_of protocol set) c) accepted valid (are_values (source_of protocol set) c) k w n some
    (lawful_of_spared (rules_of protocol) (is_whole (source_of protocol set) c) k set w n some accepted spared)).finished j l due

-- So a text whose value gives a valid certificate lists such bounds.
abbrev lists_on_clocks : (call : Call) (protocol : ProtocolName) (name text : List ℕ) (set : SetDef) (c : CertificateDef) (value : Data)
    → ReadsSome call protocol name set → IsValid (source_of protocol set) c → IsValue text value → c ≡ certificate_written value
    → ListsOnClocks call protocol name text
lists_on_clocks call protocol name text set c value read valid is_value same =
    let bounds : c.bounds ≡ numbers_written (list_at (codes "bounds") value) = ap (λ (x : CertificateDef). x.bounds) same in
    record {
      set = set;
      read = read;
      value = value;
      is_value = is_value;
      kept = subst (λ (b : List ℕ). AreKeptOnClocks protocol set b) bounds (kept protocol set c read.text.accepted valid);
    }

-- So a call that wrote the text of a valid certificate with small duals wrote such bounds.
written_on_clocks : (call : Call) (protocol : ProtocolName) (name bytes : List ℕ) (set : SetDef) (c : CertificateDef) (a : Answer)
    → (read : ReadsSome call protocol name set) → Asks call (wholly name read.bytes ∷ []) → IsValid (source_of protocol set) c
    → ((i : ℕ) → i < length set.tasks → IsSmallDual (dual_at c.duals i)) → a.text ≡ certificate_text (word_of protocol) (sha256 bytes) c
    → Gives call a → WritesOnClocks call protocol name
written_on_clocks call protocol name bytes set c a read asked valid small same gives =
    let text = text_is_read protocol bytes c (writable protocol set c read.text.accepted valid small) in (
      certificate_text (word_of protocol) (sha256 bytes) c,
      subst (λ (t : List ℕ). Appends call.sink_before.written call.sink_now.written t) same gives.1,
      (
        lists_on_clocks call protocol name (certificate_text (word_of protocol) (sha256 bytes) c) set c text.0 read valid text.1
            (ap (λ (f : FileDef). f.certificate) text.3),
        asked,
      ),
    )

pub analysis_on_clocks : (call : Call) (protocol : ProtocolName) (name : List ℕ) (allowance : ℕ) (a : Answer)
    → IsOutcomeOf (shown_by (shelf_of call)) (plan_of (Analyse protocol name allowance)) a → Gives call a → call.status ≡ 0
    → WritesOnClocks call protocol name
analysis_on_clocks call protocol name allowance a out gives zero =
    let w = wrote_best (shown_by (shelf_of call)) protocol name allowance a out (omega (arith, gives.0, zero)) in
    written_on_clocks call protocol name w.bytes w.set w.certificate a (some_read call protocol name w.bytes w.set w.read) w.asked
    w.best.valid w.best.small w.text gives

pub settlement_on_clocks : (call : Call) (protocol : ProtocolName) (name : List ℕ) (n : ℕ) (a : Answer)
    → IsOutcomeOf (shown_by (shelf_of call)) (plan_of (Settle protocol name n)) a → Gives call a → call.status ≡ 0
    → WritesOnClocks call protocol name
settlement_on_clocks call protocol name n a out gives zero =
    let w = wrote_settled (shown_by (shelf_of call)) protocol name n a out (omega (arith, gives.0, zero)) in
    written_on_clocks call protocol name w.bytes w.set w.so.certificate a (some_read call protocol name w.bytes w.set w.read) w.asked
    w.so.proved.valid w.so.proved.small w.so.text gives

abbrev pub check_on_clocks : (call : Call) (protocol : ProtocolName) (name cert : List ℕ) (p : ReadsValid call protocol name cert)
    → ListsOnClocks call protocol name p.bytes
check_on_clocks call protocol name cert p = lists_on_clocks call protocol name p.bytes p.set p.certificate p.reads.0 p.read p.valid p.reads.1
    (ap (λ (f : FileDef). f.certificate) p.reads.3)

-- With another status there is nothing to show.
pub not_on_clocks : (call : Call) → (call.status ≡ 0 → ⊥) → IsOnClocks call
not_on_clocks call other = record {
  analysed = λ protocol name more words zero. absurd (other zero);
  settled = λ protocol name more words zero. absurd (other zero);
  checked = λ protocol name cert words zero. absurd (other zero);
}
