-- Soundness under each of the three protocols.
use Rattle.std.proofs.Common.{ℕ, List}
use Rattle.program_form.specs.Certificate.{CertificateDef}
use Rattle.sporadic_model.specs.SetDef.{SetDef}
use Rattle.sporadic_model.specs.Accepted.{IsAccepted, IsFormed}
use Rattle.sporadic_model.proofs.Laws.{formed_of_accepted}
use Rattle.sporadic_model.specs.declared.ids.Protocol.TheVariants as protocol
use Rattle.schedule_model.specs.BlockedTicks.{is_shared_interference, is_dpcp_interference}
use Rattle.schedule_model.specs.Ranks.{mpcp, fmlp_plus}
use Rattle.schedule_model.specs.Protocols.{shared_rule, dpcp_rule}
use Rattle.schedule_laws.proofs.SharedLaws.{shared_one_of_three, shared_sound_row}
use Rattle.schedule_laws.proofs.DpcpLaws.{dpcp_one_of_three, dpcp_sound_row}
use Rattle.program_sources.specs.Valid.{IsValid}
use Rattle.program_laws.specs.Programs.{source_of}
use Rattle.soundness_laws.specs.Sound.{Sound}
use Rattle.soundness_laws.specs.Analyses.{AreValues}
use Rattle.soundness_laws.proofs.Soundness.{sound_of}
use Rattle.soundness_laws.proofs.Instances.{mpcp_analyses, fmlp_analyses, dpcp_analyses}

pub mpcp_sound : (set : SetDef) (c : CertificateDef) (values : List ℕ) → IsAccepted set → IsValid (source_of protocol.Mpcp set) c
    → AreValues (source_of protocol.Mpcp set) c values → Sound (shared_rule mpcp) is_shared_interference set c.bounds values
mpcp_sound set c values accepted valid are =
    let formed : IsFormed set = formed_of_accepted set accepted in
    sound_of (shared_rule mpcp) is_shared_interference (source_of protocol.Mpcp set) c values (λ w t j same. shared_one_of_three w t j)
    (λ w t same kept. shared_sound_row mpcp w t kept) formed (mpcp_analyses set formed) valid are

pub fmlp_sound : (set : SetDef) (c : CertificateDef) (values : List ℕ) → IsAccepted set → IsValid (source_of protocol.FmlpPlus set) c
    → AreValues (source_of protocol.FmlpPlus set) c values → Sound (shared_rule fmlp_plus) is_shared_interference set c.bounds values
fmlp_sound set c values accepted valid are =
    let formed : IsFormed set = formed_of_accepted set accepted in
    sound_of (shared_rule fmlp_plus) is_shared_interference (source_of protocol.FmlpPlus set) c values
    (λ w t j same. shared_one_of_three w t j) (λ w t same kept. shared_sound_row fmlp_plus w t kept) formed
    (fmlp_analyses set formed) valid are

pub dpcp_sound : (set : SetDef) (c : CertificateDef) (values : List ℕ) → IsAccepted set → IsValid (source_of protocol.Dpcp set) c
    → AreValues (source_of protocol.Dpcp set) c values → Sound dpcp_rule is_dpcp_interference set c.bounds values
dpcp_sound set c values accepted valid are =
    let formed : IsFormed set = formed_of_accepted set accepted in
    sound_of dpcp_rule is_dpcp_interference (source_of protocol.Dpcp set) c values (λ w t j same. dpcp_one_of_three w t j)
    (λ w t same kept. dpcp_sound_row w t kept) formed (dpcp_analyses set formed) valid are
