-- The programs with closer rows analyse their protocols, so valid certificates over them are sound, and they raise no bound.
use Rattle.std.proofs.Common.{ℕ, ◌++◌, [], ◌∷◌, List, length}
use Rattle.program_form.specs.Certificate.{CertificateDef}
use Rattle.sporadic_model.specs.SetDef.{SetDef, task_at}
use Rattle.sporadic_model.specs.Accepted.{IsAccepted, IsFormed}
use Rattle.sporadic_model.proofs.Laws.{formed_of_accepted}
use Rattle.sporadic_model.specs.declared.ids.Protocol.TheVariants as protocol
use Rattle.sporadic_model.specs.Bounds.{AtMost}
use Rattle.schedule_model.specs.BlockedTicks.{is_dpcp_interference}
use Rattle.schedule_model.specs.Protocols.{dpcp_rule}
use Rattle.schedule_laws.proofs.DpcpLaws.{dpcp_one_of_three, dpcp_sound_row}
use Rattle.program_sources.specs.Fitting.{AreFitting, AreLeastFitting}
use Rattle.program_sources.specs.Valid.{IsValid}
use Rattle.blocking_columns.specs.Columns.{blocks_at_home, may_block, columns_of}
use Rattle.charge_laws.specs.Charges.{dpcp_charge}
use Rattle.charge_laws.proofs.Interference.{interferes_within_local}
use Rattle.program_laws.specs.Programs.{source_of, interfering_cost}
use Rattle.program_laws.proofs.MoreRows.{fitting_with_more}
use Rattle.row_laws.proofs.ChargedTicks.{dpcp_is_charged}
use Rattle.row_laws.proofs.InterferingCosts.{dpcp_interferes_within}
use Rattle.soundness_laws.specs.Sound.{Sound}
use Rattle.soundness_laws.specs.Analyses.{Analyses, AreValues}
use Rattle.soundness_laws.proofs.Soundness.{sound_of}
use Rattle.soundness_laws.proofs.Instances.{analyses_over, local_at_most}
use Rattle.window_laws.specs.WindowRows.{windowed_rows, windowed_source}
use Rattle.window_laws.proofs.MoreRows.{fitting_with_windows}
use Rattle.dflp_laws.specs.Rules.{dflp_rule}
use Rattle.dflp_laws.specs.Programs.{dflp_columns, dflp_rows, dflp_source}
use Rattle.dflp_laws.proofs.Laws.{dflp_sound_row}
use Rattle.dflp_laws.proofs.Placement.{dflp_is_charged}
use Rattle.closer_distributed_laws.specs.CloserRows.{home_rows, lower_wait_row, dpcp_closer_rows, dflp_closer_rows}
use Rattle.closer_distributed_laws.specs.CloserRows.{dpcp_closer_source, dflp_closer_source}
use Rattle.closer_distributed_laws.proofs.Points.{dpcp_closer_point, dflp_closer_point}

pub dpcp_closer_analyses : (set : SetDef) → IsFormed set → Analyses dpcp_rule is_dpcp_interference (dpcp_closer_source set)
dpcp_closer_analyses set =
    analyses_over dpcp_rule is_dpcp_interference dpcp_charge (columns_of protocol.Dpcp) dpcp_closer_rows (interfering_cost protocol.Dpcp)
    set (record {
      most = local_at_most;
      interfering = dpcp_interferes_within;
      point = dpcp_closer_point;
      charged = dpcp_is_charged;
    })

pub dpcp_closer_sound : (set : SetDef) (c : CertificateDef) (values : List ℕ) → IsAccepted set → IsValid (dpcp_closer_source set) c
    → AreValues (dpcp_closer_source set) c values → Sound dpcp_rule is_dpcp_interference set c.bounds values
dpcp_closer_sound set c values accepted valid are =
    let formed : IsFormed set = formed_of_accepted set accepted in
    sound_of dpcp_rule is_dpcp_interference (dpcp_closer_source set) c values (λ w t j same. dpcp_one_of_three w t j)
    (λ w t same kept. dpcp_sound_row w t kept) formed (dpcp_closer_analyses set formed) valid are

pub dflp_closer_analyses : (set : SetDef) → IsFormed set → Analyses dflp_rule is_dpcp_interference (dflp_closer_source set)
dflp_closer_analyses set =
    analyses_over dflp_rule is_dpcp_interference dpcp_charge dflp_columns dflp_closer_rows (λ of h. (task_at of h).local) set (record {
      most = local_at_most;
      interfering = λ w n y keeps lawful. interferes_within_local w n y lawful;
      point = dflp_closer_point;
      charged = dflp_is_charged;
    })

pub dflp_closer_sound : (set : SetDef) (c : CertificateDef) (values : List ℕ) → IsAccepted set → IsValid (dflp_closer_source set) c
    → AreValues (dflp_closer_source set) c values → Sound dflp_rule is_dpcp_interference set c.bounds values
dflp_closer_sound set c values accepted valid are =
    let formed : IsFormed set = formed_of_accepted set accepted in
    sound_of dflp_rule is_dpcp_interference (dflp_closer_source set) c values (λ w t j same. dpcp_one_of_three w t j)
    (λ w t same kept. dflp_sound_row w t kept) formed (dflp_closer_analyses set formed) valid are

-- What fits with windows fits with the closer rows, and so what fits under DPCP.
pub dpcp_closer_fitting : (set : SetDef) (s : List ℕ) → AreFitting (windowed_source set) s → AreFitting (dpcp_closer_source set) s
dpcp_closer_fitting set s fits =
    fitting_with_more set (may_block protocol.Dpcp set) (windowed_rows set) (λ i. home_rows set i ++ lower_wait_row set i ∷ [])
    (interfering_cost protocol.Dpcp set) s fits

pub dpcp_closer_no_greater : (set : SetDef) (r s : List ℕ) → AreLeastFitting (dpcp_closer_source set) r
    → AreFitting (source_of protocol.Dpcp set) s → AtMost (length set.tasks) r s
dpcp_closer_no_greater set r s least fits = least.least s (dpcp_closer_fitting set s (fitting_with_windows set s fits))

-- And what fits under the distributed FIFO protocol.
pub dflp_closer_fitting : (set : SetDef) (s : List ℕ) → AreFitting (dflp_source set) s → AreFitting (dflp_closer_source set) s
dflp_closer_fitting set s fits =
    fitting_with_more set (λ i x. blocks_at_home set i) (dflp_rows set) (home_rows set) (interfering_cost protocol.Dpcp set) s fits

pub dflp_closer_no_greater : (set : SetDef) (r s : List ℕ) → AreLeastFitting (dflp_closer_source set) r → AreFitting (dflp_source set) s
    → AtMost (length set.tasks) r s
dflp_closer_no_greater set r s least fits = least.least s (dflp_closer_fitting set s fits)
