-- Laws of the commands. Each has at most one outcome for each shelf, if its work has one answer. Its status is one of its own.
use Rattle.std.proofs.Common.{◌≡◌, ℕ, ◌≤◌, List, refl, sym, ◌∙◌, ap, subst, arith, inl, inr, Some}
use Rattle.std.specs.Prelude.{Option, MatchOption}
use Rattle.outside_ports.specs.Names.{Inputs}
use Rattle.outside_ports.specs.Past.{wholly}
use Rattle.sporadic_model.specs.SetDef.{SetDef}
use Rattle.protocol_names.specs.declared.ProtocolName.{ProtocolName}
use Rattle.response_fixpoint.specs.Rounds.{Ending, Schedulable, NotShown, Wide, Allowance, EndsIn}
use Rattle.response_fixpoint.specs.Runs.{rounds_of}
use Rattle.named_laws.specs.Named.{source_of}
use Rattle.response_fixpoint.proofs.RunLaws.{one_ending}
use Rattle.report.specs.Table.{table_text}
use Rattle.command_inputs.specs.Known.{Answer, Known, past, told}
use Rattle.run_plans.specs.Plans.{Plan, Working, Reading, IsOutcomeOf}
use Rattle.command_words.specs.Words.{Form, Analyse, Refute, Settle, Check, Confirm, Upgrade, Report, FullReport, Conform, Simulate, Study, Audit, form_of}
use Rattle.run_plans.specs.Commands.{ending_answer, IsAnalysis, analysis_of, table_of}
use Rattle.run_plans.specs.Commands.{upgraded_answer, plan_of}
use Rattle.run_plans.specs.Outcome.{refused_words, IsOutcome}
use Rattle.sha2.specs.Sha256.{sha256}
use Rattle.command_inputs.specs.Inputs.{set_input}
use Rattle.refusal_cert.specs.Refuting.{refuting}
use Rattle.refusal_cert.specs.Steps.{refusal_of}
use Rattle.run_plans.specs.Settling.{IsSettlement, SettlingEnds}
use Rattle.run_plans.specs.Run.{RoundsEnd, IsWideEnding, IsShortEnding}
use Rattle.run_plans.proofs.PlanLaws.{IsLawfulWork, IsLawful, at_most_one, stopped_status}
use Rattle.run_plans.proofs.WorkLaws.{fixed_lawful, TellsEnding, told_plain, told_well, told_wide, told_short}
use Rattle.run_plans.proofs.InputLaws.{set_reads_once}
use Rattle.run_plans.proofs.TraceLaws.{jobs_read_once, rows_read_once}
use Rattle.run_plans.proofs.ConformLaws.{conformance_lawful}
use Rattle.run_plans.proofs.JudgementLaws.{judgement_lawful, check_lawful, full_table_lawful}
use Rattle.run_plans.proofs.CertInputLaws.{cert_reads_once, old_cert_reads_once}
use Rattle.run_plans.proofs.SimulationLaws.{simulation_lawful}
use Rattle.run_plans.proofs.StudyLaws.{study_lawful}
use Rattle.run_plans.proofs.AuditLaws.{audit_lawful}
use Rattle.run_plans.proofs.RefusalInputLaws.{refusal_reads_once}
use Rattle.run_plans.proofs.SettleLaws.{settlement_lawful, wide_settlement, short_settlement}
use Rattle.run_plans.proofs.RefusalLaws.{refutation_lawful, refuting_tells, confirmation_lawful}

one_analysis : (protocol : ProtocolName) (digest : List ℕ) (set : SetDef) (allowance : ℕ) (a b : Answer) → IsAnalysis protocol digest set allowance a
    → IsAnalysis protocol digest set allowance b → a ≡ b
one_analysis protocol digest set allowance a b (e, ends, is) (f, ends', is') =
    is ∙ ap (λ x. ending_answer protocol digest set x) (one_ending (source_of protocol set) allowance e f ends ends') ∙ sym is'

-- The status of the answer tells how the rounds ended.
pub ending_tells : (protocol : ProtocolName) (digest : List ℕ) (set : SetDef) (e : Ending) (a : Answer)
    → a ≡ ending_answer protocol digest set e → TellsEnding e a
ending_tells protocol digest set (Schedulable bounds duals) a is = inl (ap (λ x. x.status) is)
ending_tells protocol digest set (NotShown i value) a is = inr (ap (λ x. x.status) is)
ending_tells protocol digest set (Wide i) a is = ap (λ x. x.status) is
ending_tells protocol digest set Allowance a is = ap (λ x. x.status) is

analysis_lawful : (protocol : ProtocolName) (digest : List ℕ) (set : SetDef) (allowance : ℕ) → IsLawfulWork (analysis_of protocol digest set allowance)
analysis_lawful protocol digest set allowance = record {
  one = λ always. one_analysis protocol digest set allowance;
  plain = λ a is. told_plain is.0 a (ending_tells protocol digest set is.0 a is.2);
  well = λ well a is. told_well (EndsIn (rounds_of (source_of protocol set)) allowance) is.0 a
      (ending_tells protocol digest set is.0 a is.2) is.1 well.0 well.1;
}

table_lawful : (set : SetDef) → IsLawfulWork (table_of set)
table_lawful set = fixed_lawful (record { status = 0; text = table_text set }) refl

-- Every command is lawful.
pub lawful : (form : Form) → IsLawful (plan_of form)
lawful (Analyse protocol name allowance) = (set_reads_once protocol, λ bytes set. analysis_lawful protocol (sha256 bytes) set allowance)
lawful (Refute protocol name allowance) = (set_reads_once protocol, λ bytes set. refutation_lawful protocol (sha256 bytes) set allowance)
lawful (Settle protocol name allowance) = (set_reads_once protocol, λ bytes set. settlement_lawful protocol (sha256 bytes) set allowance)
lawful (Check protocol set cert) =
    (set_reads_once protocol, λ bytes tasks. (cert_reads_once protocol, λ text file. check_lawful protocol (sha256 bytes) tasks file))
lawful (Confirm protocol set cert) = (
  set_reads_once protocol,
  λ bytes tasks. (refusal_reads_once protocol, λ text file. confirmation_lawful protocol (sha256 bytes) tasks file),
)
lawful (Upgrade protocol set cert) = (
  set_reads_once protocol,
  λ bytes tasks. (
    old_cert_reads_once protocol,
    λ text c. judgement_lawful protocol tasks c (upgraded_answer protocol (sha256 bytes) c) refl,
  ),
)
lawful (FullReport protocol set cert) =
    (set_reads_once protocol, λ bytes tasks. (cert_reads_once protocol, λ text file. full_table_lawful protocol (sha256 bytes) tasks file))
lawful (Report protocol name) = (set_reads_once protocol, λ bytes set. table_lawful set)
lawful (Conform protocol set jobs rows) = (
  set_reads_once protocol,
  λ bytes tasks. (
    jobs_read_once tasks,
    λ bytes list. (rows_read_once list, λ bytes schedule. conformance_lawful protocol list schedule),
  ),
)
lawful (Simulate protocol set jobs ticks) = (
  set_reads_once protocol,
  λ bytes tasks. (jobs_read_once tasks, λ bytes list. simulation_lawful protocol list ticks),
)
lawful (Study seed sets) = study_lawful seed sets
lawful (Audit protocol set cert jobs rows) = (
  set_reads_once protocol,
  λ bytes tasks. (
    cert_reads_once protocol,
    λ text file. (
      jobs_read_once tasks,
      λ jobs list. (rows_read_once list, λ rows schedule. audit_lawful protocol (sha256 bytes) file list schedule),
    ),
  ),
)

-- The outcome of words that have this form.
pub of_form : (inputs : Inputs) (words : List (List ℕ)) (form : Form) (a : Answer) → form_of words ≡ Some form
    → IsOutcome inputs words a → IsOutcomeOf (told inputs) (plan_of form) a
of_form inputs words form a is out =
    subst (λ (o : Option Form). MatchOption o (a ≡ refused_words) (λ f. IsOutcomeOf (told inputs) (plan_of f) a)) is out

-- Does each work that the plan may come to end with status 0 or 1?
abbrev pub IsQuiet : Plan → Type 0
IsQuiet (Working work) = work.ends
IsQuiet (Reading input name next) = (bytes : List ℕ) (value : input.Value) → IsQuiet (next bytes value)

-- If so, its outcome is that an input is refused, or has such a status.
quiet_outcome : (k : Known) (p : Plan) (a : Answer) → IsLawful p → IsQuiet p → IsOutcomeOf k p a → a.status ≤ 3
quiet_outcome k (Working work) a lawful quiet out = omega (arith, at_most_one a (lawful.well quiet a out.0))
quiet_outcome k (Reading input name next) a lawful quiet (inl stopped) = omega (arith, stopped_status k input name a stopped)
quiet_outcome k (Reading input name next) a lawful quiet (inr (bytes, value, read, last, out)) =
    quiet_outcome (past k (wholly name bytes)) (next bytes value) a (lawful.1 bytes value) (quiet bytes value) out

not_quiet : (k : Known) (form : Form) (a : Answer) (n : ℕ) → IsQuiet (plan_of form) → IsOutcomeOf k (plan_of form) a → a.status ≡ n → 4 ≤ n → ⊥
not_quiet k form a n quiet out is most = absurd (omega (arith, quiet_outcome k (plan_of form) a (lawful form) quiet out, is, most))

-- So an outcome with a greater status comes from rounds. They ended in a way that this status tells.
rounds_end : (k : Known) (form : Form) (a : Answer) (n : ℕ) (IsEnd : Ending → Type 0) → ((e : Ending) → TellsEnding e a → IsEnd e)
    → ((p : ProtocolName) (name : List ℕ) (m : ℕ) (digest : List ℕ) (set : SetDef) → form ≡ Settle p name m → IsSettlement p digest set m a
    → (e : Ending) × (SettlingEnds (source_of p set) m e) × IsEnd e)
    → IsOutcomeOf k (plan_of form) a → a.status ≡ n → 4 ≤ n → RoundsEnd k form IsEnd
rounds_end k (Analyse protocol name allowance) a n IsEnd told settled (inl stopped) is most =
    absurd (omega (arith, stopped_status k (set_input protocol) name a stopped, is, most))
rounds_end k (Analyse protocol name allowance) a n IsEnd told settled (inr (bytes, set, read, last, ((e, ends, same), asked))) is most = record {
  protocol = protocol;
  name = name;
  allowance = allowance;
  bytes = bytes;
  set = set;
  read = read;
  ending = e;
  ends = inl (refl, ends);
  is = told e (ending_tells protocol (sha256 bytes) set e a same);
}
rounds_end k (Refute protocol name allowance) a n IsEnd told settled (inl stopped) is most =
    absurd (omega (arith, stopped_status k (set_input protocol) name a stopped, is, most))
rounds_end k (Refute protocol name allowance) a n IsEnd told settled (inr (bytes, set, read, last, ((e, ends, same), asked))) is most = record {
  protocol = protocol;
  name = name;
  allowance = allowance;
  bytes = bytes;
  set = set;
  read = read;
  ending = e;
  ends = inr (inl (refl, ends));
  is = told e (refuting_tells protocol (sha256 bytes) set e (refusal_of (refuting (source_of protocol set)) allowance e ends) a same);
}
rounds_end k (Settle protocol name allowance) a n IsEnd told settled (inl stopped) is most =
    absurd (omega (arith, stopped_status k (set_input protocol) name a stopped, is, most))
rounds_end k (Settle protocol name allowance) a n IsEnd told settled (inr (bytes, set, read, last, (settles, asked))) is most =
    let end = settled protocol name allowance (sha256 bytes) set refl settles in
    record {
      protocol = protocol;
      name = name;
      allowance = allowance;
      bytes = bytes;
      set = set;
      read = read;
      ending = end.0;
      ends = inr (inr (refl, end.1));
      is = end.2;
    }
rounds_end k (Check protocol set cert) a n IsEnd told settled out is most =
    absurd (not_quiet k (Check protocol set cert) a n (λ bytes tasks text file. tt) out is most)
rounds_end k (Confirm protocol set cert) a n IsEnd told settled out is most =
    absurd (not_quiet k (Confirm protocol set cert) a n (λ bytes tasks text file. tt) out is most)
rounds_end k (Upgrade protocol set cert) a n IsEnd told settled out is most =
    absurd (not_quiet k (Upgrade protocol set cert) a n (λ bytes tasks text c. tt) out is most)
rounds_end k (FullReport protocol set cert) a n IsEnd told settled out is most =
    absurd (not_quiet k (FullReport protocol set cert) a n (λ bytes tasks text file. tt) out is most)
rounds_end k (Report protocol name) a n IsEnd told settled out is most =
    absurd (not_quiet k (Report protocol name) a n (λ bytes set. tt) out is most)
rounds_end k (Conform protocol set jobs rows) a n IsEnd told settled out is most =
    absurd (not_quiet k (Conform protocol set jobs rows) a n (λ bytes tasks b list c schedule. tt) out is most)
rounds_end k (Simulate protocol set jobs ticks) a n IsEnd told settled out is most =
    absurd (not_quiet k (Simulate protocol set jobs ticks) a n (λ bytes tasks b list. tt) out is most)
rounds_end k (Study seed sets) a n IsEnd told settled out is most = absurd (not_quiet k (Study seed sets) a n tt out is most)
rounds_end k (Audit protocol set cert jobs rows) a n IsEnd told settled out is most =
    absurd (not_quiet k (Audit protocol set cert jobs rows) a n (λ bytes tasks text file b list c schedule. tt) out is most)

pub only_wide : (k : Known) (form : Form) (a : Answer) → IsOutcomeOf k (plan_of form) a → a.status ≡ 5 → RoundsEnd k form IsWideEnding
only_wide k form a out five =
    rounds_end k form a 5 IsWideEnding (λ e tells. told_wide e a tells five)
    (λ p name m digest set is settles. wide_settlement p digest set m a settles five) out five (omega arith)

pub only_short : (k : Known) (form : Form) (a : Answer) → IsOutcomeOf k (plan_of form) a → a.status ≡ 6
    → RoundsEnd k form (IsShortEnding form)
only_short k form a out six =
    rounds_end k form a 6 (IsShortEnding form) (λ e tells. inl (told_short e a tells six))
    (λ p name m digest set is settles. (
    let end = short_settlement p digest set m a settles six in
    (end.0, end.1, elim end.2 [ inl short ↦ inl short | inr wide ↦ inr ((p, name, m, is), wide) ]))) out six (omega arith)
