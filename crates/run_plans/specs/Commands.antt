-- The commands: what each form of words does.
use Rattle.std.specs.Prelude.{◌≡◌, ◌≢◌, ℕ, ◌⊎◌, Bool, List}
use Rattle.program_form.specs.Certificate.{CertificateDef}
use Rattle.program_sources.specs.Valid.{IsValid, value_at}
use Rattle.sporadic_model.specs.SetDef.{SetDef, latest_bound, task_at}
use Rattle.protocol_names.specs.declared.ProtocolName.{ProtocolName}
use Rattle.response_fixpoint.specs.Rounds.{Ending, Schedulable, NotShown, Wide, Allowance, EndsIn}
use Rattle.response_fixpoint.specs.Runs.{rounds_of}
use Rattle.named_laws.specs.Named.{choice_of, interference_of, rules_of, source_of}
use Rattle.cert_json.specs.FileDef.{FileDef}
use Rattle.cert_json.specs.Text.{certificate_text}
use Rattle.sha2.specs.Sha256.{sha256}
use Rattle.schedule_answers.specs.Failures.{IsFailure}
use Rattle.schedule_answers.specs.declared.checked.Invalid.{Invalid}
use Rattle.report.specs.Table.{table_text}
use Rattle.report.specs.FullTable.{full_text}
use Rattle.schedule_model.specs.JobDef.{JobsDef}
use Rattle.schedule_model.specs.RowDef.{RunDef, Trace, trace_in, ticks_of}
use Rattle.schedule_model.specs.Fitting.{RowsDef}
use Rattle.schedule_model.specs.Keeping.{KeepsBefore, IsFirstUnlawful}
use Rattle.schedule_model.specs.Measures.{measures_of}
use Rattle.schedule_model.specs.declared.rule.Rule.{Rule}
use Rattle.trace_csv.specs.Written.{rows_text}
use Rattle.sim_engine.specs.Simulated.{IsSimulated}
use Rattle.study_gen.specs.Counts.{IsStudy}
use Rattle.study_gen.specs.declared.counting.StudyCounts.{StudyCounts}
use Rattle.command_inputs.specs.Known.{Answer}
use Rattle.run_plans.specs.Plans.{Work, Plan, Working, Reading}
use Rattle.protocol_names.specs.Names.{word_of}
use Rattle.command_words.specs.Words.{Form, Analyse, Refute, Settle, Check, Confirm, Upgrade, Report, FullReport, Conform, Simulate, Study, Audit}
use Rattle.reply_texts.specs.Texts.{not_shown_text, wide_text, allowance_text, lawful_text, broken_text, valid_text}
use Rattle.reply_texts.specs.Texts.{other_set_text, invalid_text, study_text, kept_text}
use Rattle.named_laws.specs.Audited.{figures_under}
use Rattle.command_inputs.specs.Inputs.{set_input, cert_input, old_cert_input, refusal_input, jobs_input, rows_input}
use Rattle.command_inputs.specs.RefusalDef.{RefusalDef}
use Rattle.run_plans.specs.Refuting.{refutation_of, IsConfirmation}
use Rattle.run_plans.specs.Settling.{settlement_of}

-- What goes out if the rounds of a set end in this way. The set's bytes have this digest.
abbrev pub ending_answer : ProtocolName → List ℕ → SetDef → Ending → Answer
ending_answer protocol digest set (Schedulable bounds duals) =
    record { status = 0; text = certificate_text (word_of protocol) digest (record { bounds = bounds; duals = duals }) }
ending_answer protocol digest set (NotShown i value) =
    record { status = 1; text = not_shown_text (task_at set i).name value (latest_bound (task_at set i)) }
ending_answer protocol digest set (Wide i) = record { status = 5; text = wide_text (task_at set i).name }
ending_answer protocol digest set Allowance = record { status = 6; text = allowance_text }

-- The answer of an analysis with this allowance.
abbrev pub IsAnalysis : ProtocolName → List ℕ → SetDef → ℕ → Answer → Type 0
IsAnalysis protocol digest set allowance answer =
    (e : Ending) × (EndsIn (rounds_of (source_of protocol set)) allowance e) × (answer ≡ ending_answer protocol digest set e)

-- It has status 0 or 1 if the rounds come to a verdict.
abbrev pub analysis_of : ProtocolName → List ℕ → SetDef → ℕ → Work
analysis_of protocol digest set allowance = record {
  answers = IsAnalysis protocol digest set allowance;
  ends = ((i : ℕ) → EndsIn (rounds_of (source_of protocol set)) allowance (Wide i) → ⊥)
      × (EndsIn (rounds_of (source_of protocol set)) allowance Allowance → ⊥);
  one = Unit {0};
}

-- The answer of a table. Every set has one.
abbrev pub IsTable : SetDef → Answer → Type 0
IsTable set answer = answer ≡ record { status = 0; text = table_text set }

abbrev pub table_of : SetDef → Work
table_of set = record { answers = IsTable set; ends = Unit {0}; one = Unit {0} }

-- The answer on a certificate: this one if it is valid, and if not, its first failure.
abbrev pub invalid_answer : SetDef → Invalid → Answer
invalid_answer set e = record { status = 1; text = invalid_text set e }

abbrev pub IsJudgement : ProtocolName → SetDef → CertificateDef → Answer → Answer → Type 0
IsJudgement protocol set c valid answer =
    (IsValid (source_of protocol set) c × (answer ≡ valid))
    ⊎ ((e : Invalid) × (IsFailure e (source_of protocol set) c) × (answer ≡ invalid_answer set e))

-- The answer to a file that is of a set with other bytes.
abbrev pub other_set_answer : Answer
other_set_answer = record { status = 1; text = other_set_text }

-- The answer on a file beside a set whose bytes have this digest: that the file names another one, or the answer on what the file holds.
abbrev pub IfOfSet : List ℕ → List ℕ → (Answer → Type 0) → Answer → Type 0
IfOfSet digest named says answer = ((named ≢ digest) × (answer ≡ other_set_answer)) ⊎ ((named ≡ digest) × says answer)

-- The answer on a certificate's file, from the answer on its certificate.
abbrev pub IfTied : List ℕ → FileDef → (CertificateDef → Answer → Type 0) → Answer → Type 0
IfTied digest file says answer = IfOfSet digest file.digest (says file.certificate) answer

-- Judging a certificate, and the table of a set with what a certificate proves. There always is an answer.
abbrev pub checked_answer : Answer
checked_answer = record { status = 0; text = valid_text }

abbrev pub reported_answer : ProtocolName → SetDef → CertificateDef → Answer
reported_answer protocol set c = record { status = 0; text = full_text set c.bounds (value_at (source_of protocol set) c) }

abbrev pub IsCheck : ProtocolName → SetDef → CertificateDef → Answer → Type 0
IsCheck protocol set c answer = IsJudgement protocol set c checked_answer answer

abbrev pub check_of : ProtocolName → List ℕ → SetDef → FileDef → Work
check_of protocol digest set file = record { answers = IfTied digest file (IsCheck protocol set); ends = Unit {0}; one = Unit {0} }

abbrev pub IsFullTable : ProtocolName → SetDef → CertificateDef → Answer → Type 0
IsFullTable protocol set c answer = IsJudgement protocol set c (reported_answer protocol set c) answer

abbrev pub full_table_of : ProtocolName → List ℕ → SetDef → FileDef → Work
full_table_of protocol digest set file = record { answers = IfTied digest file (IsFullTable protocol set); ends = Unit {0}; one = Unit {0} }

-- Reading a certificate for the protocol, and working on it.
abbrev pub with_certificate : ProtocolName → List ℕ → (FileDef → Work) → Plan
with_certificate protocol name work = Reading (cert_input protocol) name (λ bytes file. Working (work file))

-- Judging a certificate of the version before. If it is valid, it is written with the set's digest.
abbrev pub upgraded_answer : ProtocolName → List ℕ → CertificateDef → Answer
upgraded_answer protocol digest c = record { status = 0; text = certificate_text (word_of protocol) digest c }

abbrev pub upgrade_of : ProtocolName → List ℕ → SetDef → CertificateDef → Work
upgrade_of protocol digest set c = record { answers = IsJudgement protocol set c (upgraded_answer protocol digest c); ends = Unit {0}; one = Unit {0} }

abbrev pub upgrading : ProtocolName → List ℕ → List ℕ → SetDef → Plan
upgrading protocol cert digest set = Reading (old_cert_input protocol) cert (λ bytes c. Working (upgrade_of protocol digest set c))

-- The answer on n rows. If they keep the rules, it is this one. If not, it names the first row that breaks a rule, with the first rule that
-- the row breaks.
abbrev pub broken_answer : ℕ → Rule → Answer
broken_answer tick r = record { status = 1; text = broken_text tick r }

abbrev pub IsKept : (Rule → Trace → ℕ → Type 0) → Trace → ℕ → Answer → Answer → Type 0
IsKept keeps w n kept answer =
    (KeepsBefore keeps w n × (answer ≡ kept))
    ⊎ ((tick : ℕ) × (r : Rule) × (IsFirstUnlawful keeps w n tick r) × (answer ≡ broken_answer tick r))

-- The measures of all tasks over n rows, with these ticks of interference.
abbrev pub lawful_answer : (Trace → ℕ → ℕ → Bool) → Trace → ℕ → Answer
lawful_answer interferes w n = record { status = 0; text = lawful_text w.set n (measures_of interferes w n) }

abbrev pub IsConformance : (Rule → Trace → ℕ → Type 0) → (Trace → ℕ → ℕ → Bool) → Trace → ℕ → Answer → Type 0
IsConformance keeps interferes w n answer = IsKept keeps w n (lawful_answer interferes w n) answer

-- Judging and measuring these rows of the jobs. There always is an answer.
abbrev pub conformance_of : ProtocolName → JobsDef → RowsDef → Work
conformance_of protocol jobs rows = record {
  answers = IsConformance (rules_of protocol) (interference_of protocol) (trace_in jobs rows.runs) (ticks_of rows.runs);
  ends = Unit {0};
  one = Unit {0};
}

-- Reading the rows of a schedule of these jobs, and judging them.
abbrev pub judging_rows : ProtocolName → List ℕ → JobsDef → Plan
judging_rows protocol rows list = Reading (rows_input list) rows (λ bytes schedule. Working (conformance_of protocol list schedule))

-- Reading jobs of this set and then the rows of a schedule, and judging them.
abbrev pub judging_jobs : ProtocolName → List ℕ → List ℕ → SetDef → Plan
judging_jobs protocol jobs rows set = Reading (jobs_input set) jobs (λ bytes list. judging_rows protocol rows list)

-- The answer of a simulation of these jobs over n ticks: the rows that the protocol chooses.
abbrev pub IsSimulation : ProtocolName → JobsDef → ℕ → Answer → Type 0
IsSimulation protocol list n answer = (runs : List RunDef) × IsSimulated (choice_of protocol) list n runs
    × (answer ≡ record { status = 0; text = rows_text list.set runs })

-- Simulating these jobs. There always is an answer.
abbrev pub simulation_of : ProtocolName → JobsDef → ℕ → Work
simulation_of protocol list n = record { answers = IsSimulation protocol list n; ends = Unit {0}; one = Unit {0} }

-- Reading jobs of this set, and simulating them.
abbrev pub simulating_jobs : ProtocolName → List ℕ → ℕ → SetDef → Plan
simulating_jobs protocol jobs n set = Reading (jobs_input set) jobs (λ bytes list. Working (simulation_of protocol list n))

-- The answer of a study: what it counts.
abbrev pub IsStudyAnswer : ℕ → ℕ → Answer → Type 0
IsStudyAnswer seed sets answer = (c : StudyCounts) × IsStudy seed sets c
    × (answer ≡ record { status = 0; text = study_text c.counts.items c.stopped })

-- Making and counting sets. This always ends.
abbrev pub study_of : ℕ → ℕ → Work
study_of seed sets = record { answers = IsStudyAnswer seed sets; ends = Unit {0}; one = Unit {0} }

-- The figures of all tasks over n rows.
abbrev pub kept_answer : ProtocolName → CertificateDef → Trace → ℕ → Answer
kept_answer protocol c w n = record { status = 0; text = kept_text w.set n (figures_under protocol c w n) }

-- The answer on a certificate and n rows: that on the rows if the certificate is valid, and if not, its first failure.
abbrev pub IsAudit : ProtocolName → CertificateDef → Trace → ℕ → Answer → Type 0
IsAudit protocol c w n answer =
    (IsValid (source_of protocol w.set) c × IsKept (rules_of protocol) w n (kept_answer protocol c w n) answer)
    ⊎ ((e : Invalid) × (IsFailure e (source_of protocol w.set) c) × (answer ≡ invalid_answer w.set e))

-- Judging both, and showing them next to each other. There always is an answer.
abbrev pub IsAuditOf : ProtocolName → JobsDef → RowsDef → CertificateDef → Answer → Type 0
IsAuditOf protocol jobs rows c answer = IsAudit protocol c (trace_in jobs rows.runs) (ticks_of rows.runs) answer

abbrev pub audit_of : ProtocolName → List ℕ → FileDef → JobsDef → RowsDef → Work
audit_of protocol digest file jobs rows = record { answers = IfTied digest file (IsAuditOf protocol jobs rows); ends = Unit {0}; one = Unit {0} }

-- Reading the rows of a schedule of these jobs. Before them, jobs of this set are read, and before these a certificate.
abbrev pub auditing_rows : ProtocolName → List ℕ → FileDef → List ℕ → JobsDef → Plan
auditing_rows protocol digest file rows list =
    Reading (rows_input list) rows (λ bytes schedule. Working (audit_of protocol digest file list schedule))

abbrev pub auditing_jobs : ProtocolName → List ℕ → FileDef → List ℕ → List ℕ → SetDef → Plan
auditing_jobs protocol digest file jobs rows set =
    Reading (jobs_input set) jobs (λ bytes list. auditing_rows protocol digest file rows list)

abbrev pub auditing : ProtocolName → List ℕ → List ℕ → List ℕ → List ℕ → SetDef → Plan
auditing protocol cert jobs rows digest set =
    Reading (cert_input protocol) cert (λ bytes file. auditing_jobs protocol digest file jobs rows set)

-- The answer on a refusal's file, from the answer on its refusal. There always is one.
abbrev pub IsTiedConfirmation : ProtocolName → List ℕ → SetDef → RefusalDef → Answer → Type 0
IsTiedConfirmation protocol digest set file answer = IfOfSet digest file.digest (IsConfirmation protocol set file.steps) answer

abbrev pub confirmation_of : ProtocolName → List ℕ → SetDef → RefusalDef → Work
confirmation_of protocol digest set file = record { answers = IsTiedConfirmation protocol digest set file; ends = Unit {0}; one = Unit {0} }

-- Reading a refusal for the protocol, and judging it.
abbrev pub confirming : ProtocolName → List ℕ → List ℕ → SetDef → Plan
confirming protocol cert digest set =
    Reading (refusal_input protocol) cert (λ bytes file. Working (confirmation_of protocol digest set file))

-- What each form of words does.
abbrev pub plan_of : Form → Plan
plan_of (Analyse protocol name allowance) =
    Reading (set_input protocol) name (λ bytes set. Working (analysis_of protocol (sha256 bytes) set allowance))
plan_of (Refute protocol name allowance) =
    Reading (set_input protocol) name (λ bytes set. Working (refutation_of protocol (sha256 bytes) set allowance))
plan_of (Settle protocol name allowance) =
    Reading (set_input protocol) name (λ bytes set. Working (settlement_of protocol (sha256 bytes) set allowance))
plan_of (Check protocol set cert) =
    Reading (set_input protocol) set (λ bytes tasks. with_certificate protocol cert (check_of protocol (sha256 bytes) tasks))
plan_of (Confirm protocol set cert) = Reading (set_input protocol) set (λ bytes tasks. confirming protocol cert (sha256 bytes) tasks)
plan_of (Upgrade protocol set cert) = Reading (set_input protocol) set (λ bytes tasks. upgrading protocol cert (sha256 bytes) tasks)
plan_of (FullReport protocol set cert) =
    Reading (set_input protocol) set (λ bytes tasks. with_certificate protocol cert (full_table_of protocol (sha256 bytes) tasks))
plan_of (Report protocol name) = Reading (set_input protocol) name (λ bytes set. Working (table_of set))
plan_of (Conform protocol set jobs rows) = Reading (set_input protocol) set (λ bytes tasks. judging_jobs protocol jobs rows tasks)
plan_of (Simulate protocol set jobs ticks) = Reading (set_input protocol) set (λ bytes tasks. simulating_jobs protocol jobs ticks tasks)
plan_of (Study seed sets) = Working (study_of seed sets)
plan_of (Audit protocol set cert jobs rows) =
    Reading (set_input protocol) set (λ bytes tasks. auditing protocol cert jobs rows (sha256 bytes) tasks)
