-- The rules, the chosen row and the interference of each protocol, by its name.
use Rattle.std.specs.Prelude.{ℕ, Bool}
use Rattle.sporadic_model.specs.declared.ids.Protocol.{Protocol}
use Rattle.sporadic_model.specs.declared.ids.Protocol.TheVariants as protocol
use Rattle.schedule_model.specs.RowDef.{Trace}
use Rattle.schedule_model.specs.Ranks.{mpcp, fmlp_plus}
use Rattle.schedule_model.specs.Protocols.{shared_rule, dpcp_rule}
use Rattle.schedule_model.specs.Chosen.{IsSharedChoice, IsDpcpChoice}
use Rattle.schedule_model.specs.BlockedTicks.{is_shared_interference, is_dpcp_interference}
use Rattle.schedule_model.specs.declared.rule.Rule.{Rule}

abbrev pub rules_of : Protocol → Rule → Trace → ℕ → Type 0
rules_of protocol.Mpcp = shared_rule mpcp
rules_of protocol.FmlpPlus = shared_rule fmlp_plus
rules_of protocol.Dpcp = dpcp_rule

abbrev pub choice_of : Protocol → Trace → ℕ → Type 0
choice_of protocol.Mpcp = IsSharedChoice mpcp
choice_of protocol.FmlpPlus = IsSharedChoice fmlp_plus
choice_of protocol.Dpcp = IsDpcpChoice

abbrev pub interference_of : Protocol → Trace → ℕ → ℕ → Bool
interference_of protocol.Mpcp = is_shared_interference
interference_of protocol.FmlpPlus = is_shared_interference
interference_of protocol.Dpcp = is_dpcp_interference
