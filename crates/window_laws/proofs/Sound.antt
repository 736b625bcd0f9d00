-- The programs with windows analyse DPCP, so valid certificates over them are sound.
use Rattle.std.proofs.Common.{ℕ, List}
use Rattle.program_form.specs.Certificate.{CertificateDef}
use Rattle.sporadic_model.specs.SetDef.{SetDef}
use Rattle.sporadic_model.specs.Accepted.{IsAccepted, IsFormed}
use Rattle.sporadic_model.proofs.Laws.{formed_of_accepted}
use Rattle.sporadic_model.specs.declared.ids.Protocol.TheVariants as protocol
use Rattle.schedule_model.specs.BlockedTicks.{is_dpcp_interference}
use Rattle.schedule_model.specs.Protocols.{dpcp_rule}
use Rattle.schedule_laws.proofs.DpcpLaws.{dpcp_one_of_three, dpcp_sound_row}
use Rattle.program_sources.specs.Valid.{IsValid}
use Rattle.blocking_columns.specs.Columns.{columns_of}
use Rattle.charge_laws.specs.Charges.{dpcp_charge}
use Rattle.program_laws.specs.Programs.{interfering_cost}
use Rattle.row_laws.proofs.ChargedTicks.{dpcp_is_charged}
use Rattle.row_laws.proofs.InterferingCosts.{dpcp_interferes_within}
use Rattle.soundness_laws.specs.Sound.{Sound}
use Rattle.soundness_laws.specs.Analyses.{Analyses, AreValues}
use Rattle.soundness_laws.proofs.Soundness.{sound_of}
use Rattle.soundness_laws.proofs.Instances.{analyses_over, local_at_most}
use Rattle.window_laws.specs.WindowRows.{windowed_rows, windowed_source}
use Rattle.window_laws.proofs.Points.{windowed_point}

pub windows_analyse : (set : SetDef) → IsFormed set → Analyses dpcp_rule is_dpcp_interference (windowed_source set)
windows_analyse set =
    analyses_over dpcp_rule is_dpcp_interference dpcp_charge (columns_of protocol.Dpcp) windowed_rows (interfering_cost protocol.Dpcp) set
    (record {
      most = local_at_most;
      interfering = dpcp_interferes_within;
      point = windowed_point;
      charged = dpcp_is_charged;
    })

pub windows_sound : (set : SetDef) (c : CertificateDef) (values : List ℕ) → IsAccepted set → IsValid (windowed_source set) c
    → AreValues (windowed_source set) c values → Sound dpcp_rule is_dpcp_interference set c.bounds values
windows_sound set c values accepted valid are =
    let formed : IsFormed set = formed_of_accepted set accepted in
    sound_of dpcp_rule is_dpcp_interference (windowed_source set) c values (λ w t j same. dpcp_one_of_three w t j)
    (λ w t same kept. dpcp_sound_row w t kept) formed (windows_analyse set formed) valid are
