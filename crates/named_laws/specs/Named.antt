-- What each protocol has by its name: homes, rules, a choice of rows, ticks of interference, charges and programs.
use Rattle.std.specs.Prelude.{◌≡◌, ◌⊎◌, ℕ, Bool, List, Option, None, Some}
use Rattle.sporadic_model.specs.SetDef.{SetDef}
use Rattle.sporadic_model.specs.Homes.{HasHomesFor}
use Rattle.sporadic_model.specs.declared.ids.Protocol.TheVariants as protocol
use Rattle.schedule_model.specs.RowDef.{Trace}
use Rattle.schedule_model.specs.ByProtocol.{rules_of as rules_at, choice_of as choice_at, interference_of as interference_at}
use Rattle.schedule_model.specs.declared.rule.Rule.{Rule}
use Rattle.program_sources.specs.Recurrence.{SourceDef, source_at}
use Rattle.program_laws.specs.Programs.{source_of as source_written}
use Rattle.charge_laws.specs.Charges.{Charge}
use Rattle.charge_laws.specs.ByProtocol.{charges_of as charges_at}
use Rattle.soundness_laws.specs.Sound.{Sound}
use Rattle.schedule_model.specs.BlockedTicks.{is_shared_interference, is_dpcp_interference}
use Rattle.charge_laws.specs.Charges.{shared_charge, dpcp_charge}
use Rattle.dflp_laws.specs.Rules.{dflp_rule, IsDflpChoice}
use Rattle.dflp_laws.specs.Programs.{dflp_source}
use Rattle.spin_rules.specs.SpinRules.{spin_rule, IsSpinChoice}
use Rattle.spin_charging.specs.SpinCharges.{spin_charge}
use Rattle.spin_charging.specs.SpinPrograms.{spin_source}
use Rattle.schedule_model.specs.Ranks.{mpcp, fmlp_plus}
use Rattle.schedule_model.specs.Protocols.{shared_rule, dpcp_rule}
use Rattle.schedule_model.specs.Chosen.{IsSharedChoice, IsDpcpChoice}
use Rattle.window_laws.specs.WindowRows.{windowed_source}
use Rattle.closer_laws.specs.CloserRows.{fmlp_closer_source}
use Rattle.closer_spin_laws.specs.CloserSpinRows.{spin_closer_source}
use Rattle.closer_distributed_laws.specs.CloserRows.{dpcp_closer_source, dflp_closer_source}
use Rattle.mpcp_window_laws.specs.WaitRows.{mpcp_closer_source}
use Rattle.clock_laws.specs.Clock.{SoundOnClocks}
use Rattle.protocol_names.specs.Names.{homes_as}
use Rattle.protocol_names.specs.declared.ProtocolName.{ProtocolName}
use Rattle.protocol_names.specs.declared.ProtocolName.TheVariants as name

-- Has the set the homes that the protocol asks for?
abbrev pub HasHomes : ProtocolName → SetDef → Type 0
HasHomes n set = HasHomesFor (homes_as n) set

abbrev pub rules_of : ProtocolName → Rule → Trace → ℕ → Type 0
rules_of (name.Base p) = rules_at p
rules_of name.Dflp = dflp_rule
rules_of name.Spin = spin_rule
rules_of name.DpcpWindows = dpcp_rule
rules_of name.FmlpPlusCloser = shared_rule fmlp_plus
rules_of name.SpinCloser = spin_rule
rules_of name.DpcpCloser = dpcp_rule
rules_of name.DflpCloser = dflp_rule
rules_of name.MpcpCloser = shared_rule mpcp

abbrev pub choice_of : ProtocolName → Trace → ℕ → Type 0
choice_of (name.Base p) = choice_at p
choice_of name.Dflp = IsDflpChoice
choice_of name.Spin = IsSpinChoice
choice_of name.DpcpWindows = IsDpcpChoice
choice_of name.FmlpPlusCloser = IsSharedChoice fmlp_plus
choice_of name.SpinCloser = IsSpinChoice
choice_of name.DpcpCloser = IsDpcpChoice
choice_of name.DflpCloser = IsDflpChoice
choice_of name.MpcpCloser = IsSharedChoice mpcp

abbrev pub interference_of : ProtocolName → Trace → ℕ → ℕ → Bool
interference_of (name.Base p) = interference_at p
interference_of name.Dflp = is_dpcp_interference
interference_of name.Spin = is_shared_interference
interference_of name.DpcpWindows = is_dpcp_interference
interference_of name.FmlpPlusCloser = is_shared_interference
interference_of name.SpinCloser = is_shared_interference
interference_of name.DpcpCloser = is_dpcp_interference
interference_of name.DflpCloser = is_dpcp_interference
interference_of name.MpcpCloser = is_shared_interference

abbrev pub charges_of : ProtocolName → Trace → ℕ → ℕ → Option Charge
charges_of (name.Base p) = charges_at p
charges_of name.Dflp = dpcp_charge
charges_of name.Spin = spin_charge
charges_of name.DpcpWindows = dpcp_charge
charges_of name.FmlpPlusCloser = shared_charge
charges_of name.SpinCloser = spin_charge
charges_of name.DpcpCloser = dpcp_charge
charges_of name.DflpCloser = dpcp_charge
charges_of name.MpcpCloser = shared_charge

-- The source that gives the programs of a set under the protocol, with its interfering costs. And the programs of this set alone.
abbrev pub sources : ProtocolName → SetDef → SourceDef
sources (name.Base p) = source_written p
sources name.Dflp = dflp_source
sources name.Spin = spin_source
sources name.DpcpWindows = windowed_source
sources name.FmlpPlusCloser = fmlp_closer_source
sources name.SpinCloser = spin_closer_source
sources name.DpcpCloser = dpcp_closer_source
sources name.DflpCloser = dflp_closer_source
sources name.MpcpCloser = mpcp_closer_source

abbrev pub source_of : ProtocolName → SetDef → SourceDef
source_of n set = source_at (sources n) set

-- The protocol of which it is a closer analysis. Both have the same rules, charges and columns, and its rows say no less.
abbrev pub plain_of : ProtocolName → Option ProtocolName
plain_of (name.Base p) = None
plain_of name.Dflp = None
plain_of name.Spin = None
plain_of name.DpcpWindows = Some (name.Base protocol.Dpcp)
plain_of name.FmlpPlusCloser = Some (name.Base protocol.FmlpPlus)
plain_of name.SpinCloser = Some name.Spin
plain_of name.DpcpCloser = Some name.DpcpWindows
plain_of name.DflpCloser = Some name.Dflp
plain_of name.MpcpCloser = Some (name.Base protocol.Mpcp)

-- Is the first a closer analysis of the second, or of a closer analysis of the second?
abbrev pub IsCloserThan : ProtocolName → ProtocolName → Type 0
IsCloserThan closer plain = (plain_of closer ≡ Some plain) ⊎ ((between : ProtocolName) × (plain_of closer ≡ Some between)
    × (plain_of between ≡ Some plain))

-- Does every schedule of lawful jobs of the set that keeps the protocol's rules keep these bounds and values?
abbrev pub SoundUnder : ProtocolName → SetDef → List ℕ → List ℕ → Type 0
SoundUnder n = Sound (rules_of n) (interference_of n)

-- And on clocks: however many cycles a tick has, does every such schedule whose rows are cycles keep them, in cycles? `whole` says
-- which tasks have a whole value. Jobs of these may execute for all of their cost.
abbrev pub SoundOnClocksUnder : ProtocolName → (ℕ → Bool) → SetDef → List ℕ → List ℕ → Type 0
SoundOnClocksUnder n = SoundOnClocks (rules_of n) (interference_of n)
