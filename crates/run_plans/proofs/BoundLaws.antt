-- A certificate that is written or found valid lists bounds that every lawful schedule keeps.
use Rattle.std.proofs.Common.{◌≡◌, ℕ, ◌<◌, ◌≤◌, List, length, sym, ap, subst, arith}
use Rattle.std.specs.Prelude.{[], ◌∷◌, codes, slice_index, slice_index_or}
use Rattle.std.proofs.lemmas.List.{get_or_default}
use Rattle.serde_json.specs.Data.{Data}
use Rattle.program_form.specs.Certificate.{CertificateDef}
use Rattle.program_sources.specs.Valid.{dual_at, no_dual, IsValid}
use Rattle.sporadic_model.specs.SetDef.{SetDef, latest_bound, task_at}
use Rattle.sporadic_model.specs.Accepted.{IsAccepted}
use Rattle.sporadic_model.specs.Bounds.{AreWithinDeadlines}
use Rattle.sporadic_model.proofs.Laws.{numbers_of_accepted}
use Rattle.protocol_names.specs.declared.ProtocolName.{ProtocolName}
use Rattle.named_laws.specs.Named.{SoundUnder, source_of}
use Rattle.response_fixpoint.specs.Answers.{IsSmallDual as AreSmall}
use Rattle.taskset_json.specs.Answers.{IsValue}
use Rattle.taskset_json.specs.Members.{list_at}
use Rattle.cert_json.specs.Ranges.{IsSmallDual, HasSmallDuals, IsWritable}
use Rattle.cert_json.specs.Text.{certificate_text}
use Rattle.cert_json.specs.Value.{certificate_data}
use Rattle.cert_json.specs.Written.{numbers_written, certificate_written}
use Rattle.cert_json.proofs.ReadBack.{is_value, formed, file-written}
use Rattle.cert_json.specs.FileDef.{FileDef}
use Rattle.cert_json.proofs.DigestBytes.{is_digest}
use Rattle.sha2.specs.Sha256.{sha256}
use Rattle.protocol_names.specs.Names.{word_of}
use Rattle.command_inputs.specs.Inputs.{IsFileText}
use Rattle.std.specs.Io.KnownBytes.{Appends}
use Rattle.outside_ports.specs.Past.{wholly}
use Rattle.command_inputs.specs.Known.{Answer}
use Rattle.run_plans.specs.Headline.{Call, Asks, ReadsSome, ReadsValid}
use Rattle.run_plans.specs.Run.{Gives}
use Rattle.run_plans.specs.Bounding.{AreKept, ListsBounds, WritesBounds}
use Rattle.named_laws.proofs.EachName.{named_sound, named_word_is_text}
use Rattle.named_laws.proofs.Values.{values_of, are_values}

-- The bounds of a valid certificate have 64 bits. So it can be written if its duals are small.
pub written_with : (protocol : ProtocolName) (set : SetDef) (c : CertificateDef) → IsAccepted set → IsValid (source_of protocol set) c
    → HasSmallDuals c → IsWritable c
written_with protocol set c accepted valid small = record {
  bounds = λ k d here. (
      let task : k < length set.tasks = omega (arith, here, valid.bound_each) in
      let numbers = numbers_of_accepted set k accepted task in
      let within : slice_index c.bounds k ≤ latest_bound (task_at set k) = (valid.proved k task).within in
      let same : slice_index_or c.bounds k d ≡ slice_index c.bounds k = get_or_default c.bounds k d 0 here in
      omega (arith, same, within, numbers.deadline_to, numbers.period_to));
  duals = small;
}

pub writable : (protocol : ProtocolName) (set : SetDef) (c : CertificateDef) → IsAccepted set → IsValid (source_of protocol set) c
    → ((i : ℕ) → i < length set.tasks → AreSmall (dual_at c.duals i)) → IsWritable c
writable protocol set c accepted valid each = written_with protocol set c accepted valid (λ k d here. (
    let task : k < length set.tasks = omega (arith, here, valid.dual_each) in
    let small = each k task in
    let own : IsSmallDual (dual_at c.duals k) = record {
      positive = (valid.proved k task).feasible.covers.positive;
      small = omega (arith, small.den);
      numerators = λ m z there. omega (arith, small.num m z there);
    } in
    subst IsSmallDual (get_or_default c.duals k no_dual d here) own))

pub text_is_read : (protocol : ProtocolName) (bytes : List ℕ) (c : CertificateDef) → IsWritable c
    → IsFileText protocol (certificate_text (word_of protocol) (sha256 bytes) c) (record { certificate = c; digest = sha256 bytes })
text_is_read protocol bytes c w =
    let word : List ℕ = word_of protocol in
    let digest : List ℕ = sha256 bytes in (
      certificate_data word digest c,
      is_value word digest c (named_word_is_text protocol) w,
      formed word digest c (is_digest bytes) w,
      sym (file-written word (record { certificate = c; digest = digest }) (is_digest bytes)),
    )

-- The bounds of a valid certificate are within all deadlines, and every lawful schedule keeps them.
pub within : (protocol : ProtocolName) (set : SetDef) (c : CertificateDef) → IsValid (source_of protocol set) c → AreWithinDeadlines set c.bounds
within protocol set c valid = record { one_each = valid.bound_each; to_latest = λ i here. (valid.proved i here).within }

kept_under : (p : ProtocolName) (set : SetDef) (bounds values : List ℕ) → SoundUnder p set bounds values → AreKept p set bounds
kept_under p set bounds values sound w n j lawful listed due = (sound w n lawful).finished j listed due

pub kept : (protocol : ProtocolName) (set : SetDef) (c : CertificateDef) → IsAccepted set → IsValid (source_of protocol set) c
    → AreKept protocol set c.bounds
kept protocol set c accepted valid = kept_under protocol set c.bounds (values_of (source_of protocol set) c)
    (named_sound protocol set c (values_of (source_of protocol set) c) accepted valid (are_values (source_of protocol set) c))

-- So a text whose value gives a valid certificate lists such bounds.
abbrev lists_bounds : (call : Call) (protocol : ProtocolName) (name text : List ℕ) (set : SetDef) (c : CertificateDef) (value : Data)
    → ReadsSome call protocol name set → IsValid (source_of protocol set) c → IsValue text value → c ≡ certificate_written value
    → ListsBounds call protocol name text
lists_bounds call protocol name text set c value read valid is_value same =
    let bounds : c.bounds ≡ numbers_written (list_at (codes "bounds") value) = ap (λ (x : CertificateDef). x.bounds) same in
    record {
      set = set;
      read = read;
      value = value;
      is_value = is_value;
      within = subst (λ (b : List ℕ). AreWithinDeadlines set b) bounds (within protocol set c valid);
      kept = subst (λ (b : List ℕ). AreKept protocol set b) bounds (kept protocol set c read.text.accepted valid);
    }

-- So a call that wrote the text of a valid certificate with small duals wrote such bounds.
pub bounds_written : (call : Call) (protocol : ProtocolName) (name bytes : List ℕ) (set : SetDef) (c : CertificateDef) (a : Answer)
    → (read : ReadsSome call protocol name set) → Asks call (wholly name read.bytes ∷ []) → IsValid (source_of protocol set) c
    → ((i : ℕ) → i < length set.tasks → AreSmall (dual_at c.duals i)) → a.text ≡ certificate_text (word_of protocol) (sha256 bytes) c
    → Gives call a → WritesBounds call protocol name
bounds_written call protocol name bytes set c a read asked valid small same gives =
    let text = text_is_read protocol bytes c (writable protocol set c read.text.accepted valid small) in (
      certificate_text (word_of protocol) (sha256 bytes) c,
      subst (λ (t : List ℕ). Appends call.sink_before.written call.sink_now.written t) same gives.1,
      (
        lists_bounds call protocol name (certificate_text (word_of protocol) (sha256 bytes) c) set c text.0 read valid text.1
            (ap (λ (f : FileDef). f.certificate) text.3),
        asked,
      ),
    )

abbrev pub check_bounds : (call : Call) (protocol : ProtocolName) (name cert : List ℕ) (p : ReadsValid call protocol name cert)
    → ListsBounds call protocol name p.bytes
check_bounds call protocol name cert p = lists_bounds call protocol name p.bytes p.set p.certificate p.reads.0 p.read p.valid p.reads.1
    (ap (λ (f : FileDef). f.certificate) p.reads.3)
