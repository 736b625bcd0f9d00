-- What a certificate that passes says of schedules.
use Rattle.std.specs.Prelude.{ℕ, List}
use Rattle.sporadic_model.specs.SetDef.{SetDef}
use Rattle.sporadic_model.specs.declared.ids.Protocol.{Protocol}
use Rattle.sporadic_model.specs.declared.ids.Protocol.TheVariants as protocol
use Rattle.schedule_model.specs.Ranks.{mpcp, fmlp_plus}
use Rattle.schedule_model.specs.Protocols.{shared_rule, dpcp_rule}
use Rattle.schedule_model.specs.BlockedTicks.{is_shared_interference, is_dpcp_interference}
use Rattle.soundness_laws.specs.Sound.{Sound}

-- Does every schedule of lawful jobs of the set that keeps the protocol's rules keep these bounds and values?
abbrev pub SoundUnder : Protocol → SetDef → List ℕ → List ℕ → Type 0
SoundUnder protocol.Mpcp = Sound (shared_rule mpcp) is_shared_interference
SoundUnder protocol.FmlpPlus = Sound (shared_rule fmlp_plus) is_shared_interference
SoundUnder protocol.Dpcp = Sound dpcp_rule is_dpcp_interference
