-- Each of the analyses is sound on clocks.
use Rattle.std.proofs.Common.{ℕ, List}
use Rattle.program_form.specs.Certificate.{CertificateDef}
use Rattle.sporadic_model.specs.SetDef.{SetDef}
use Rattle.sporadic_model.specs.Accepted.{IsAccepted}
use Rattle.sporadic_model.specs.declared.ids.Protocol.TheVariants as protocol
use Rattle.schedule_model.specs.BlockedTicks.{is_shared_interference, is_dpcp_interference}
use Rattle.schedule_model.specs.Ranks.{mpcp, fmlp_plus}
use Rattle.schedule_model.specs.Protocols.{shared_rule, dpcp_rule}
use Rattle.schedule_laws.proofs.SharedLaws.{shared_one_of_three, shared_sound_row}
use Rattle.schedule_laws.proofs.DpcpLaws.{dpcp_one_of_three, dpcp_sound_row}
use Rattle.program_sources.specs.Valid.{IsValid}
use Rattle.program_laws.specs.Programs.{source_of}
use Rattle.soundness_laws.specs.Analyses.{AreValues}
use Rattle.soundness_laws.proofs.Instances.{mpcp_analyses, fmlp_analyses, dpcp_analyses}
use Rattle.dflp_laws.specs.Rules.{dflp_rule}
use Rattle.dflp_laws.specs.Programs.{dflp_source}
use Rattle.dflp_laws.proofs.Laws.{dflp_sound_row}
use Rattle.dflp_laws.proofs.Soundness.{dflp_analyses}
use Rattle.window_laws.specs.WindowRows.{windowed_source}
use Rattle.window_laws.proofs.Sound.{windows_analyse}
use Rattle.closer_laws.specs.CloserRows.{fmlp_closer_source}
use Rattle.closer_laws.proofs.Sound.{fmlp_closer_analyses}
use Rattle.closer_distributed_laws.specs.CloserRows.{dpcp_closer_source, dflp_closer_source}
use Rattle.closer_distributed_laws.proofs.Sound.{dpcp_closer_analyses, dflp_closer_analyses}
use Rattle.closer_spin_laws.specs.CloserSpinRows.{spin_closer_source}
use Rattle.closer_spin_laws.proofs.Sound.{spin_closer_analyses}
use Rattle.mpcp_window_laws.specs.WaitRows.{mpcp_closer_source}
use Rattle.mpcp_window_laws.proofs.Sound.{mpcp_closer_analyses}
use Rattle.spin_rules.specs.SpinRules.{spin_rule}
use Rattle.spin_rules.proofs.SpinLaws.{spin_sound_row}
use Rattle.spin_charging.specs.SpinPrograms.{spin_source}
use Rattle.spin_charging.proofs.SpinSoundness.{spin_analyses}
use Rattle.clock_laws.specs.Clock.{SoundOnClocks}
use Rattle.clock_laws.specs.Whole.{is_whole}
use Rattle.clock_laws.proofs.Sets.{cost_in, local_in}
use Rattle.clock_laws.proofs.BaseRows.{base_rescaled}
use Rattle.clock_laws.proofs.FifoRows.{fifo_rescaled}
use Rattle.clock_laws.proofs.SpinRows.{spin_rescaled}
use Rattle.clock_laws.proofs.WindowRows.{windowed_rescaled}
use Rattle.clock_laws.proofs.CloserRows.{closer_rescaled}
use Rattle.clock_laws.proofs.CloserHomeRows.{dpcp_closer_rescaled, dflp_closer_rescaled}
use Rattle.clock_laws.proofs.CloserSpinRows.{spin_closer_rescaled}
use Rattle.clock_laws.proofs.CloserMpcpRows.{closer_mpcp_rescaled}
use Rattle.clock_laws.proofs.OnClocks.{sound_on_clocks}

pub mpcp_on_clocks : (set : SetDef) (c : CertificateDef) (values : List ℕ) → IsAccepted set → IsValid (source_of protocol.Mpcp set) c
    → AreValues (source_of protocol.Mpcp set) c values
    → SoundOnClocks (shared_rule mpcp) is_shared_interference (is_whole (source_of protocol.Mpcp set) c) set c.bounds values
mpcp_on_clocks set c values accepted valid are = sound_on_clocks (shared_rule mpcp) is_shared_interference (source_of protocol.Mpcp) set c values
    shared_one_of_three (shared_sound_row mpcp) mpcp_analyses
    (record { programs = λ k of bounds i some. base_rescaled protocol.Mpcp k of bounds i some; interfering = λ k of h. cost_in k of h })
    accepted valid are

pub fmlp_on_clocks : (set : SetDef) (c : CertificateDef) (values : List ℕ) → IsAccepted set → IsValid (source_of protocol.FmlpPlus set) c
    → AreValues (source_of protocol.FmlpPlus set) c values
    → SoundOnClocks (shared_rule fmlp_plus) is_shared_interference (is_whole (source_of protocol.FmlpPlus set) c) set c.bounds values
fmlp_on_clocks set c values accepted valid are = sound_on_clocks (shared_rule fmlp_plus) is_shared_interference (source_of protocol.FmlpPlus)
    set c values shared_one_of_three (shared_sound_row fmlp_plus) fmlp_analyses
    (record { programs = λ k of bounds i some. base_rescaled protocol.FmlpPlus k of bounds i some; interfering = λ k of h. cost_in k of h })
    accepted valid are

pub dpcp_on_clocks : (set : SetDef) (c : CertificateDef) (values : List ℕ) → IsAccepted set → IsValid (source_of protocol.Dpcp set) c
    → AreValues (source_of protocol.Dpcp set) c values
    → SoundOnClocks dpcp_rule is_dpcp_interference (is_whole (source_of protocol.Dpcp set) c) set c.bounds values
dpcp_on_clocks set c values accepted valid are = sound_on_clocks dpcp_rule is_dpcp_interference (source_of protocol.Dpcp) set c values
    dpcp_one_of_three dpcp_sound_row dpcp_analyses
    (record { programs = λ k of bounds i some. base_rescaled protocol.Dpcp k of bounds i some; interfering = λ k of h. local_in k of h })
    accepted valid are

pub dflp_on_clocks : (set : SetDef) (c : CertificateDef) (values : List ℕ) → IsAccepted set → IsValid (dflp_source set) c
    → AreValues (dflp_source set) c values
    → SoundOnClocks dflp_rule is_dpcp_interference (is_whole (dflp_source set) c) set c.bounds values
dflp_on_clocks set c values accepted valid are = sound_on_clocks dflp_rule is_dpcp_interference dflp_source set c values
    dpcp_one_of_three dflp_sound_row dflp_analyses (record { programs = fifo_rescaled; interfering = local_in }) accepted valid are

pub windows_on_clocks : (set : SetDef) (c : CertificateDef) (values : List ℕ) → IsAccepted set → IsValid (windowed_source set) c
    → AreValues (windowed_source set) c values
    → SoundOnClocks dpcp_rule is_dpcp_interference (is_whole (windowed_source set) c) set c.bounds values
windows_on_clocks set c values accepted valid are = sound_on_clocks dpcp_rule is_dpcp_interference windowed_source set c values
    dpcp_one_of_three dpcp_sound_row windows_analyse (record { programs = windowed_rescaled; interfering = local_in }) accepted valid are

pub fmlp_closer_on_clocks : (set : SetDef) (c : CertificateDef) (values : List ℕ) → IsAccepted set → IsValid (fmlp_closer_source set) c
    → AreValues (fmlp_closer_source set) c values
    → SoundOnClocks (shared_rule fmlp_plus) is_shared_interference (is_whole (fmlp_closer_source set) c) set c.bounds values
fmlp_closer_on_clocks set c values accepted valid are = sound_on_clocks (shared_rule fmlp_plus) is_shared_interference fmlp_closer_source
    set c values shared_one_of_three (shared_sound_row fmlp_plus) fmlp_closer_analyses
    (record { programs = closer_rescaled; interfering = cost_in }) accepted valid are

pub mpcp_closer_on_clocks : (set : SetDef) (c : CertificateDef) (values : List ℕ) → IsAccepted set → IsValid (mpcp_closer_source set) c
    → AreValues (mpcp_closer_source set) c values
    → SoundOnClocks (shared_rule mpcp) is_shared_interference (is_whole (mpcp_closer_source set) c) set c.bounds values
mpcp_closer_on_clocks set c values accepted valid are = sound_on_clocks (shared_rule mpcp) is_shared_interference mpcp_closer_source
    set c values shared_one_of_three (shared_sound_row mpcp) mpcp_closer_analyses
    (record { programs = closer_mpcp_rescaled; interfering = cost_in }) accepted valid are

pub spin_on_clocks : (set : SetDef) (c : CertificateDef) (values : List ℕ) → IsAccepted set → IsValid (spin_source set) c
    → AreValues (spin_source set) c values
    → SoundOnClocks spin_rule is_shared_interference (is_whole (spin_source set) c) set c.bounds values
spin_on_clocks set c values accepted valid are = sound_on_clocks spin_rule is_shared_interference spin_source set c values
    shared_one_of_three spin_sound_row spin_analyses (record { programs = spin_rescaled; interfering = cost_in }) accepted valid are

pub dpcp_closer_on_clocks : (set : SetDef) (c : CertificateDef) (values : List ℕ) → IsAccepted set → IsValid (dpcp_closer_source set) c
    → AreValues (dpcp_closer_source set) c values
    → SoundOnClocks dpcp_rule is_dpcp_interference (is_whole (dpcp_closer_source set) c) set c.bounds values
dpcp_closer_on_clocks set c values accepted valid are = sound_on_clocks dpcp_rule is_dpcp_interference dpcp_closer_source set c values
    dpcp_one_of_three dpcp_sound_row dpcp_closer_analyses (record { programs = dpcp_closer_rescaled; interfering = local_in }) accepted
    valid are

pub dflp_closer_on_clocks : (set : SetDef) (c : CertificateDef) (values : List ℕ) → IsAccepted set → IsValid (dflp_closer_source set) c
    → AreValues (dflp_closer_source set) c values
    → SoundOnClocks dflp_rule is_dpcp_interference (is_whole (dflp_closer_source set) c) set c.bounds values
dflp_closer_on_clocks set c values accepted valid are = sound_on_clocks dflp_rule is_dpcp_interference dflp_closer_source set c values
    dpcp_one_of_three dflp_sound_row dflp_closer_analyses (record { programs = dflp_closer_rescaled; interfering = local_in }) accepted
    valid are

pub spin_closer_on_clocks : (set : SetDef) (c : CertificateDef) (values : List ℕ) → IsAccepted set → IsValid (spin_closer_source set) c
    → AreValues (spin_closer_source set) c values
    → SoundOnClocks spin_rule is_shared_interference (is_whole (spin_closer_source set) c) set c.bounds values
spin_closer_on_clocks set c values accepted valid are = sound_on_clocks spin_rule is_shared_interference spin_closer_source set c values
    shared_one_of_three spin_sound_row spin_closer_analyses (record { programs = spin_closer_rescaled; interfering = cost_in }) accepted
    valid are
