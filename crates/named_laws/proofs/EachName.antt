-- Properties of the programs of every protocol, name by name.
use Rattle.std.proofs.Common.{ℕ, ◌==◌, List, IsUtf8, codes, refl}
use Rattle.json.proofs.Printed.Utf8.{IsUtf8-are_ascii}
use Rattle.program_form.specs.Certificate.{CertificateDef}
use Rattle.program_sources.specs.Fitting.{ComesUpAbove}
use Rattle.program_sources.specs.Valid.{IsValid}
use Rattle.sporadic_model.specs.SetDef.{SetDef}
use Rattle.sporadic_model.specs.Accepted.{IsAccepted}
use Rattle.sporadic_model.specs.declared.ids.Protocol.TheVariants as protocol
use Rattle.soundness_laws.specs.Analyses.{AreValues}
use Rattle.soundness_laws.proofs.ProtocolSoundness.{mpcp_sound, fmlp_sound, dpcp_sound}
use Rattle.response_fixpoint.specs.Runs.{HasNoColumns, RequestsNothing}
use Rattle.response_fixpoint.proofs.WrittenLaws.{no_columns, written_above}
use Rattle.protocol_names.specs.Names.{word_of}
use Rattle.protocol_names.specs.declared.ProtocolName.{ProtocolName}
use Rattle.protocol_names.specs.declared.ProtocolName.TheVariants as name
use Rattle.sporadic_model.specs.Users.{is_user}
use Rattle.program_sources.proofs.RecurrenceLaws.{comes_up_above}
use Rattle.blocking_columns.specs.Columns.{blocks_at_home}
use Rattle.dflp_laws.specs.Programs.{dflp_source, is_dflp_column}
use Rattle.dflp_laws.proofs.Programs.{dflp_rises}
use Rattle.dflp_laws.proofs.Soundness.{dflp_sound}
use Rattle.named_laws.proofs.NoColumns.{none_where, used_by}
use Rattle.spin_charging.specs.SpinPrograms.{spin_source, is_spin_column, blocks_by_spinning}
use Rattle.spin_charging.proofs.SpinPrograms.{spin_rises}
use Rattle.spin_charging.proofs.SpinSoundness.{spin_sound}
use Rattle.window_laws.proofs.Sound.{windows_sound}
use Rattle.window_laws.specs.WindowRows.{windowed_source}
use Rattle.window_laws.proofs.Programs.{windowed_rises}
use Rattle.closer_laws.proofs.Sound.{fmlp_closer_sound}
use Rattle.closer_laws.proofs.Programs.{fmlp_closer_above}
use Rattle.closer_spin_laws.proofs.Sound.{spin_closer_sound}
use Rattle.closer_spin_laws.proofs.Programs.{spin_closer_above}
use Rattle.clock_laws.specs.Whole.{is_whole}
use Rattle.clock_laws.proofs.Instances.{mpcp_on_clocks, fmlp_on_clocks, dpcp_on_clocks, dflp_on_clocks, spin_on_clocks}
use Rattle.clock_laws.proofs.Instances.{windows_on_clocks, fmlp_closer_on_clocks, spin_closer_on_clocks}
use Rattle.closer_distributed_laws.proofs.Sound.{dpcp_closer_sound, dflp_closer_sound}
use Rattle.closer_distributed_laws.proofs.Programs.{dpcp_closer_above, dflp_closer_above}
use Rattle.clock_laws.proofs.Instances.{dpcp_closer_on_clocks, dflp_closer_on_clocks}
use Rattle.mpcp_window_laws.proofs.Sound.{mpcp_closer_sound}
use Rattle.mpcp_window_laws.proofs.Programs.{mpcp_closer_above}
use Rattle.clock_laws.proofs.Instances.{mpcp_closer_on_clocks}
use Rattle.named_laws.specs.Named.{source_of, SoundUnder, SoundOnClocksUnder}

pub named_sound : (n : ProtocolName) (set : SetDef) (c : CertificateDef) (values : List ℕ) → IsAccepted set
    → IsValid (source_of n set) c → AreValues (source_of n set) c values → SoundUnder n set c.bounds values
named_sound (name.Base protocol.Mpcp) set c values accepted valid are = mpcp_sound set c values accepted valid are
named_sound (name.Base protocol.FmlpPlus) set c values accepted valid are = fmlp_sound set c values accepted valid are
named_sound (name.Base protocol.Dpcp) set c values accepted valid are = dpcp_sound set c values accepted valid are
named_sound name.Dflp set c values accepted valid are = dflp_sound set c values accepted valid are
named_sound name.Spin set c values accepted valid are = spin_sound set c values accepted valid are
named_sound name.DpcpWindows set c values accepted valid are = windows_sound set c values accepted valid are
named_sound name.FmlpPlusCloser set c values accepted valid are = fmlp_closer_sound set c values accepted valid are
named_sound name.SpinCloser set c values accepted valid are = spin_closer_sound set c values accepted valid are
named_sound name.DpcpCloser set c values accepted valid are = dpcp_closer_sound set c values accepted valid are
named_sound name.DflpCloser set c values accepted valid are = dflp_closer_sound set c values accepted valid are
named_sound name.MpcpCloser set c values accepted valid are = mpcp_closer_sound set c values accepted valid are

pub named_on_clocks : (n : ProtocolName) (set : SetDef) (c : CertificateDef) (values : List ℕ) → IsAccepted set
    → IsValid (source_of n set) c → AreValues (source_of n set) c values
    → SoundOnClocksUnder n (is_whole (source_of n set) c) set c.bounds values
named_on_clocks (name.Base protocol.Mpcp) set c values accepted valid are = mpcp_on_clocks set c values accepted valid are
named_on_clocks (name.Base protocol.FmlpPlus) set c values accepted valid are = fmlp_on_clocks set c values accepted valid are
named_on_clocks (name.Base protocol.Dpcp) set c values accepted valid are = dpcp_on_clocks set c values accepted valid are
named_on_clocks name.Dflp set c values accepted valid are = dflp_on_clocks set c values accepted valid are
named_on_clocks name.Spin set c values accepted valid are = spin_on_clocks set c values accepted valid are
named_on_clocks name.DpcpWindows set c values accepted valid are = windows_on_clocks set c values accepted valid are
named_on_clocks name.FmlpPlusCloser set c values accepted valid are = fmlp_closer_on_clocks set c values accepted valid are
named_on_clocks name.SpinCloser set c values accepted valid are = spin_closer_on_clocks set c values accepted valid are
named_on_clocks name.DpcpCloser set c values accepted valid are = dpcp_closer_on_clocks set c values accepted valid are
named_on_clocks name.DflpCloser set c values accepted valid are = dflp_closer_on_clocks set c values accepted valid are
named_on_clocks name.MpcpCloser set c values accepted valid are = mpcp_closer_on_clocks set c values accepted valid are

pub named_above : (n : ProtocolName) (set : SetDef) → ComesUpAbove (source_of n set)
named_above (name.Base p) set = written_above p set
named_above name.Dflp set = comes_up_above (dflp_source set) (λ i r s here most. dflp_rises set i r s here most)
named_above name.Spin set = comes_up_above (spin_source set) (λ i r s here most. spin_rises set i r s here most)
named_above name.DpcpWindows set = comes_up_above (windowed_source set) (λ i r s here most. windowed_rises set i r s here most)
named_above name.FmlpPlusCloser set = fmlp_closer_above set
named_above name.SpinCloser set = spin_closer_above set
named_above name.DpcpCloser set = dpcp_closer_above set
named_above name.DflpCloser set = dflp_closer_above set
named_above name.MpcpCloser set = mpcp_closer_above set

pub named_no_columns : (n : ProtocolName) (set : SetDef) → RequestsNothing set → HasNoColumns (source_of n set)
named_no_columns (name.Base p) set nothing = no_columns p set nothing
named_no_columns name.Dflp set nothing = λ i r here. none_where (is_dflp_column set i) set
    (λ c passes. used_by (c.task == i) (is_user set c.resource c.task) (blocks_at_home set i c.resource c.class) passes) nothing
named_no_columns name.Spin set nothing = λ i r here. none_where (is_spin_column set i) set
    (λ c passes. used_by (c.task == i) (is_user set c.resource c.task) (blocks_by_spinning set i c.task c.resource c.class) passes) nothing
named_no_columns name.DpcpWindows set nothing = λ i r here. no_columns protocol.Dpcp set nothing i r here
named_no_columns name.FmlpPlusCloser set nothing = λ i r here. no_columns protocol.FmlpPlus set nothing i r here
named_no_columns name.SpinCloser set nothing = λ i r here. none_where (is_spin_column set i) set
    (λ c passes. used_by (c.task == i) (is_user set c.resource c.task) (blocks_by_spinning set i c.task c.resource c.class) passes) nothing
named_no_columns name.DpcpCloser set nothing = λ i r here. no_columns protocol.Dpcp set nothing i r here
named_no_columns name.DflpCloser set nothing = λ i r here. none_where (is_dflp_column set i) set
    (λ c passes. used_by (c.task == i) (is_user set c.resource c.task) (blocks_at_home set i c.resource c.class) passes) nothing
named_no_columns name.MpcpCloser set nothing = λ i r here. no_columns protocol.Mpcp set nothing i r here

pub named_word_is_text : (n : ProtocolName) → IsUtf8 (word_of n)
named_word_is_text (name.Base protocol.Mpcp) = IsUtf8-are_ascii (codes "mpcp") refl
named_word_is_text (name.Base protocol.FmlpPlus) = IsUtf8-are_ascii (codes "fmlp+") refl
named_word_is_text (name.Base protocol.Dpcp) = IsUtf8-are_ascii (codes "dpcp") refl
named_word_is_text name.Dflp = IsUtf8-are_ascii (codes "dflp") refl
named_word_is_text name.Spin = IsUtf8-are_ascii (codes "spin") refl
named_word_is_text name.DpcpWindows = IsUtf8-are_ascii (codes "dpcp-w") refl
named_word_is_text name.FmlpPlusCloser = IsUtf8-are_ascii (codes "fmlp+-c") refl
named_word_is_text name.SpinCloser = IsUtf8-are_ascii (codes "spin-c") refl
named_word_is_text name.DpcpCloser = IsUtf8-are_ascii (codes "dpcp-c") refl
named_word_is_text name.DflpCloser = IsUtf8-are_ascii (codes "dflp-c") refl
named_word_is_text name.MpcpCloser = IsUtf8-are_ascii (codes "mpcp-c") refl
