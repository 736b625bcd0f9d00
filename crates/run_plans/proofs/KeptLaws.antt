-- What status 0 of `audit` says, whatever is known of the inputs.
use Rattle.std.proofs.Common.{◌≡◌, ℕ, List, [], ◌∷◌, refl, subst, sym, arith, inl, inr}
use Rattle.std.specs.Io.KnownBytes.{Appends}
use Rattle.outside_ports.specs.Past.{wholly}
use Rattle.program_form.specs.Certificate.{CertificateDef}
use Rattle.program_sources.specs.Valid.{IsValid}
use Rattle.sporadic_model.specs.SetDef.{SetDef}
use Rattle.sporadic_model.specs.Accepted.{IsAccepted}
use Rattle.protocol_names.specs.declared.ProtocolName.{ProtocolName}
use Rattle.schedule_model.specs.JobDef.{JobsDef}
use Rattle.schedule_model.specs.RowDef.{Trace, trace_in, ticks_of}
use Rattle.schedule_model.specs.Fitting.{RowsDef}
use Rattle.schedule_model.specs.Keeping.{KeepsBefore}
use Rattle.named_laws.specs.Named.{rules_of, source_of}
use Rattle.named_laws.specs.Audited.{figures_under}
use Rattle.named_laws.proofs.FigureLaws.{proved_figures}
use Rattle.reply_texts.specs.Texts.{kept_text}
use Rattle.command_words.specs.Words.{Audit}
use Rattle.sha2.specs.Sha256.{sha256}
use Rattle.command_inputs.specs.Known.{Answer, Known, past, IsRead, shown_by}
use Rattle.run_plans.specs.Plans.{IsOutcomeOf}
use Rattle.command_inputs.specs.Inputs.{set_input, cert_input, jobs_input, rows_input}
use Rattle.run_plans.specs.Commands.{kept_answer, IsAudit, IsAuditOf, plan_of}
use Rattle.run_plans.specs.Headline.{Call}
use Rattle.run_plans.specs.Auditing.{IsProvedAudit}
use Rattle.run_plans.specs.Run.{shelf_of, Gives}
use Rattle.run_plans.proofs.PlanLaws.{stopped_not_zero, not_zero}
use Rattle.run_plans.proofs.JobsLaws.{read_lawful}
use Rattle.run_plans.proofs.SoundLaws.{accepted_of}
use Rattle.run_plans.proofs.ShownLaws.{reads_valid}
use Rattle.run_plans.proofs.WorkLaws.{tied_at_zero}

-- The outcome of `audit` with status 0 is the figures of a schedule that keeps the rules, beside a valid certificate.
record FoundKept (known : Known) (protocol : ProtocolName) (name cert jobs rows : List ℕ) (a : Answer) : Type 0 where
  bytes : List ℕ
  set : SetDef
  read : IsRead known (set_input protocol) name bytes set
  text : List ℕ
  certificate : CertificateDef
  also : IsRead known (cert_input protocol) cert text (record { certificate = certificate; digest = sha256 bytes })
  jobs_bytes : List ℕ
  list : JobsDef
  jobs_read : IsRead known (jobs_input set) jobs jobs_bytes list
  rows_bytes : List ℕ
  schedule : RowsDef
  rows_read : IsRead known (rows_input list) rows rows_bytes schedule
  last : known.last rows_bytes
  asked : known.asked (wholly name bytes ∷ wholly cert text ∷ wholly jobs jobs_bytes ∷ wholly rows rows_bytes ∷ [])
  valid : IsValid (source_of protocol list.set) certificate
  keeps : KeepsBefore (rules_of protocol) (trace_in list schedule.runs) (ticks_of schedule.runs)
  is : a ≡ kept_answer protocol certificate (trace_in list schedule.runs) (ticks_of schedule.runs)

record KeptAtZero (p : ProtocolName) (c : CertificateDef) (w : Trace) (n : ℕ) (a : Answer) : Type 0 where
  valid : IsValid (source_of p w.set) c
  keeps : KeepsBefore (rules_of p) w n
  is : a ≡ kept_answer p c w n

kept_at_zero : (p : ProtocolName) (c : CertificateDef) (w : Trace) (n : ℕ) (a : Answer) → IsAudit p c w n a → a.status ≡ 0
    → KeptAtZero p c w n a
kept_at_zero p c w n a (inl (valid, inl (keeps, is))) zero = record { valid = valid; keeps = keeps; is = is }
kept_at_zero p c w n a (inl (valid, inr (t, r, first, is))) zero = absurd (not_zero 0 is refl zero)
kept_at_zero p c w n a (inr (e, fails, is)) zero = absurd (not_zero 0 is refl zero)

found_kept : (known : Known) (p : ProtocolName) (name cert jobs rows : List ℕ) (a : Answer)
    → IsOutcomeOf known (plan_of (Audit p name cert jobs rows)) a → a.status ≡ 0 → FoundKept known p name cert jobs rows a
found_kept known p name cert jobs rows a (inl stopped) zero =
    absurd (stopped_not_zero known (set_input p) name a stopped zero)
found_kept known p name cert jobs rows a (inr (bytes, set, read, none, inl stopped)) zero =
    absurd (stopped_not_zero (past known (wholly name bytes)) (cert_input p) cert a stopped zero)
found_kept known p name cert jobs rows a (inr (bytes, set, read, none, inr (text, file, also, more, inl stopped))) zero =
    absurd (stopped_not_zero (past (past known (wholly name bytes)) (wholly cert text)) (jobs_input set) jobs a stopped zero)
found_kept known p name cert jobs rows a
    (inr (bytes, set, read, none, inr (text, file, also, more, inr (jobs_bytes, list, jobs_read, yet, inl stopped)))) zero =
    absurd (stopped_not_zero (past (past (past known (wholly name bytes)) (wholly cert text)) (wholly jobs jobs_bytes))
    (rows_input list) rows a stopped zero)
found_kept known p name cert jobs rows a
    (inr (
      bytes,
      set,
      read,
      none,
      inr (
        text,
        file,
        also,
        more,
        inr (
          jobs_bytes,
          list,
          jobs_read,
          yet,
          inr (rows_bytes, schedule, rows_read, last, (tied, asked)),
        ),
      ),
    )) zero =
    let own = tied_at_zero (sha256 bytes) file.digest (IsAuditOf p list schedule file.certificate) a tied zero in
    let kept = kept_at_zero p file.certificate (trace_in list schedule.runs) (ticks_of schedule.runs) a own.1 zero in
    record {
      bytes = bytes;
      set = set;
      read = read;
      text = text;
      certificate = file.certificate;
      also = subst (λ (d : List ℕ). IsRead known (cert_input p) cert text (record { certificate = file.certificate; digest = d })) own.0 also;
      jobs_bytes = jobs_bytes;
      list = list;
      jobs_read = jobs_read;
      rows_bytes = rows_bytes;
      schedule = schedule;
      rows_read = rows_read;
      last = last tt;
      asked = asked;
      valid = kept.valid;
      keeps = kept.keeps;
      is = kept.is;
    }

pub proved_audit : (call : Call) (p : ProtocolName) (name cert jobs rows : List ℕ) (a : Answer)
    → IsOutcomeOf (shown_by (shelf_of call)) (plan_of (Audit p name cert jobs rows)) a → Gives call a → call.status ≡ 0
    → IsProvedAudit call p name cert jobs rows
proved_audit call p name cert jobs rows a out gives zero =
    let zero' : a.status ≡ 0 = omega (arith, gives.0, zero) in
    let f = found_kept (shown_by (shelf_of call)) p name cert jobs rows a out zero' in
    let w : Trace = trace_in f.list f.schedule.runs in
    let n : ℕ = ticks_of f.schedule.runs in
    let lawful = read_lawful f.set f.jobs_bytes f.list f.jobs_read.1 in
    let accepted : IsAccepted f.list.set = subst IsAccepted (sym lawful.0) (accepted_of p f.bytes f.set f.read.1) in
    let valid : IsValid (source_of p f.set) f.certificate =
    subst (λ (set : SetDef). IsValid (source_of p set) f.certificate) lawful.0 f.valid in
    let written : Appends call.sink_before.written call.sink_now.written (kept_text f.list.set n (figures_under p f.certificate w n)) =
    subst (λ (x : Answer). Appends call.sink_before.written call.sink_now.written x.text) f.is gives.1 in
    record {
      proved = reads_valid call p name cert f.bytes f.text f.set f.certificate f.read f.also valid;
      jobs_bytes = f.jobs_bytes;
      list = f.list;
      jobs_read = f.jobs_read;
      rows_bytes = f.rows_bytes;
      schedule = f.schedule;
      rows_read = f.rows_read;
      asked = f.asked;
      given = f.last;
      lawful = record { set_is = lawful.0; jobs = lawful.1; rows = f.keeps };
      text = subst (λ (set : SetDef). Appends call.sink_before.written call.sink_now.written
          (kept_text set n (figures_under p f.certificate w n))) lawful.0 written;
      figures = proved_figures p f.certificate w n accepted f.valid lawful.1 f.keeps;
    }
