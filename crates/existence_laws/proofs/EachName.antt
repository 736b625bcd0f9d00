-- Under each protocol, by its name, a schedule of chosen rows has a next one.
use Rattle.std.proofs.Common.{◌≡◌, ℕ, ◌<◌, subst, sym, ap}
use Rattle.sporadic_model.specs.SetDef.{SetDef}
use Rattle.sporadic_model.specs.Accepted.{IsAccepted}
use Rattle.sporadic_model.specs.declared.ids.Protocol.TheVariants as protocol
use Rattle.schedule_model.specs.JobDef.{JobsDef}
use Rattle.schedule_model.specs.LawfulJobs.{AreLawfulJobs}
use Rattle.schedule_model.specs.RowDef.{Trace, jobs_of}
use Rattle.schedule_model.specs.Ranks.{mpcp, fmlp_plus}
use Rattle.schedule_model.specs.Chosen.{IsSharedChoice, IsDpcpChoice}
use Rattle.schedule_model.specs.Keeping.{KeepsRow}
use Rattle.schedule_laws.specs.Agreement.{ChoiceReadsUpTo}
use Rattle.schedule_laws.proofs.SharedAgreement.{mpcp_choice_reads, fmlp_plus_choice_reads}
use Rattle.schedule_laws.proofs.DpcpAgreement.{dpcp_choice_reads}
use Rattle.shared_choosing.specs.NextRow.{HasChoice as HasSharedChoice}
use Rattle.shared_choosing.proofs.NextRow.{next_row_mpcp, next_row_fmlp_plus}
use Rattle.dpcp_rules.specs.NextRow.{HasChoice as HasDpcpChoice}
use Rattle.dpcp_rules.proofs.NextRow.{next_lawful_row as next_dpcp_row}
use Rattle.dflp_laws.specs.Rules.{IsDflpChoice}
use Rattle.dflp_laws.proofs.Agreement.{dflp_choice_reads}
use Rattle.dflp_protocol.specs.NextRow.{HasChoice as HasDflpChoice}
use Rattle.dflp_protocol.proofs.NextRow.{next_lawful_row as next_dflp_row}
use Rattle.spin_rules.specs.SpinRules.{IsSpinChoice}
use Rattle.spin_rules.proofs.SpinAgreement.{spin_choice_reads}
use Rattle.spin_protocol.specs.NextRow.{HasChoice as HasSpinChoice}
use Rattle.spin_protocol.proofs.SpinNextRow.{next_lawful_row as next_spin_row}
use Rattle.soundness_laws.specs.Sound.{IsLawfulSchedule}
use Rattle.protocol_names.specs.declared.ProtocolName.{ProtocolName}
use Rattle.protocol_names.specs.declared.ProtocolName.TheVariants as name
use Rattle.named_laws.specs.Named.{HasHomes, rules_of, choice_of}
use Rattle.existence_laws.specs.Existing.{HasSchedule}
use Rattle.existence_laws.proofs.ChosenRows.{HasNext, NeverStuck, Chosen, chosen_rows}

choice_reads : (p : ProtocolName) → ChoiceReadsUpTo (choice_of p)
choice_reads (name.Base protocol.Mpcp) = mpcp_choice_reads
choice_reads (name.Base protocol.FmlpPlus) = fmlp_plus_choice_reads
choice_reads (name.Base protocol.Dpcp) = dpcp_choice_reads
choice_reads name.Dflp = dflp_choice_reads
choice_reads name.Spin = spin_choice_reads
choice_reads name.DpcpWindows = dpcp_choice_reads
choice_reads name.FmlpPlusCloser = fmlp_plus_choice_reads
choice_reads name.SpinCloser = spin_choice_reads
choice_reads name.DpcpCloser = dpcp_choice_reads
choice_reads name.DflpCloser = dflp_choice_reads
choice_reads name.MpcpCloser = mpcp_choice_reads

-- A chosen row keeps the rules.
choice_keeps : (p : ProtocolName) (w : Trace) (t : ℕ) → choice_of p w t → KeepsRow (rules_of p) w t
choice_keeps (name.Base protocol.Mpcp) w t c = c.keeps
choice_keeps (name.Base protocol.FmlpPlus) w t c = c.keeps
choice_keeps (name.Base protocol.Dpcp) w t c = c.keeps
choice_keeps name.Dflp w t c = c.keeps
choice_keeps name.Spin w t c = c.keeps
choice_keeps name.DpcpWindows w t c = c.keeps
choice_keeps name.FmlpPlusCloser w t c = c.keeps
choice_keeps name.SpinCloser w t c = c.keeps
choice_keeps name.DpcpCloser w t c = c.keeps
choice_keeps name.DflpCloser w t c = c.keeps
choice_keeps name.MpcpCloser w t c = c.keeps

next_chosen : (p : ProtocolName) (w : Trace) (t : ℕ) → IsAccepted w.set → HasHomes p w.set → AreLawfulJobs (jobs_of w)
    → ((u : ℕ) → u < t → choice_of p w u) → HasNext (choice_of p) w t
next_chosen (name.Base protocol.Mpcp) w t accepted homes lawful before =
    let next : HasSharedChoice mpcp w t = next_row_mpcp w t accepted lawful in record { row = next.row; chosen = next.chosen }
next_chosen (name.Base protocol.FmlpPlus) w t accepted homes lawful before =
    let next : HasSharedChoice fmlp_plus w t = next_row_fmlp_plus w t accepted lawful in record { row = next.row; chosen = next.chosen }
next_chosen (name.Base protocol.Dpcp) w t accepted homes lawful before =
    let next : HasDpcpChoice w t =
    next_dpcp_row w t accepted homes lawful (λ u l. (before u l).sized) (λ u l. (before u l).keeps) in
    record { row = next.row; chosen = next.chosen }
next_chosen name.Dflp w t accepted homes lawful before =
    let next : HasDflpChoice w t =
    next_dflp_row w t accepted homes lawful (λ u l. (before u l).sized) (λ u l. (before u l).keeps) in
    record { row = next.row; chosen = next.chosen }
next_chosen name.Spin w t accepted homes lawful before =
    let next : HasSpinChoice w t = next_spin_row w t accepted lawful (λ u l. (before u l).sized) (λ u l. (before u l).keeps) in
    record { row = next.row; chosen = next.chosen }
next_chosen name.DpcpWindows w t accepted homes lawful before =
    let next : HasDpcpChoice w t =
    next_dpcp_row w t accepted homes lawful (λ u l. (before u l).sized) (λ u l. (before u l).keeps) in
    record { row = next.row; chosen = next.chosen }
next_chosen name.FmlpPlusCloser w t accepted homes lawful before =
    let next : HasSharedChoice fmlp_plus w t = next_row_fmlp_plus w t accepted lawful in record { row = next.row; chosen = next.chosen }
next_chosen name.SpinCloser w t accepted homes lawful before =
    let next : HasSpinChoice w t = next_spin_row w t accepted lawful (λ u l. (before u l).sized) (λ u l. (before u l).keeps) in
    record { row = next.row; chosen = next.chosen }
next_chosen name.DpcpCloser w t accepted homes lawful before =
    let next : HasDpcpChoice w t =
    next_dpcp_row w t accepted homes lawful (λ u l. (before u l).sized) (λ u l. (before u l).keeps) in
    record { row = next.row; chosen = next.chosen }
next_chosen name.DflpCloser w t accepted homes lawful before =
    let next : HasDflpChoice w t =
    next_dflp_row w t accepted homes lawful (λ u l. (before u l).sized) (λ u l. (before u l).keeps) in
    record { row = next.row; chosen = next.chosen }
next_chosen name.MpcpCloser w t accepted homes lawful before =
    let next : HasSharedChoice mpcp w t = next_row_mpcp w t accepted lawful in record { row = next.row; chosen = next.chosen }

never_stuck : (p : ProtocolName) (jobs : JobsDef) → IsAccepted jobs.set → HasHomes p jobs.set → AreLawfulJobs jobs
    → NeverStuck (choice_of p) jobs
never_stuck p jobs accepted homes lawful = record {
  reads = choice_reads p;
  next = λ w t same before.
      let set : jobs.set ≡ w.set = ap (λ (list : JobsDef). list.set) (sym same) in
      next_chosen p w t (subst IsAccepted set accepted) (subst (HasHomes p) set homes) (subst AreLawfulJobs (sym same) lawful) before;
}

-- So lawful jobs have lawful schedules of any number of rows.
pub named_schedule : (p : ProtocolName) (jobs : JobsDef) (n : ℕ) → IsAccepted jobs.set → HasHomes p jobs.set → AreLawfulJobs jobs
    → HasSchedule (rules_of p) (choice_of p) jobs n
named_schedule p jobs n accepted homes lawful =
    let chosen : Chosen (choice_of p) jobs n = chosen_rows (choice_of p) jobs n (never_stuck p jobs accepted homes lawful) in
    record {
      schedule = chosen.schedule;
      jobs_are = chosen.jobs_are;
      lawful = record {
        set_is = ap (λ (list : JobsDef). list.set) chosen.jobs_are;
        jobs = subst AreLawfulJobs (sym chosen.jobs_are) lawful;
        rows = λ t l. choice_keeps p chosen.schedule t (chosen.rows t l);
      };
      chosen = chosen.rows;
    }
