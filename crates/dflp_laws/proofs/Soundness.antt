-- Its programs analyse the protocol, so valid certificates of them are sound.
use Rattle.std.proofs.Common.{ℕ, List}
use Rattle.program_form.specs.Certificate.{CertificateDef}
use Rattle.sporadic_model.specs.SetDef.{SetDef, task_at}
use Rattle.sporadic_model.specs.Accepted.{IsAccepted, IsFormed}
use Rattle.sporadic_model.proofs.Laws.{formed_of_accepted}
use Rattle.schedule_model.specs.BlockedTicks.{is_dpcp_interference}
use Rattle.schedule_laws.proofs.DpcpLaws.{dpcp_one_of_three}
use Rattle.program_sources.specs.Valid.{IsValid}
use Rattle.charge_laws.specs.Charges.{dpcp_charge}
use Rattle.charge_laws.proofs.Interference.{interferes_within_local}
use Rattle.soundness_laws.specs.Sound.{Sound}
use Rattle.soundness_laws.specs.Analyses.{AreValues, Analyses}
use Rattle.soundness_laws.proofs.Soundness.{sound_of}
use Rattle.soundness_laws.proofs.Instances.{analyses_over, local_at_most}
use Rattle.dflp_laws.specs.Rules.{dflp_rule}
use Rattle.dflp_laws.specs.Programs.{dflp_columns, dflp_rows, dflp_source}
use Rattle.dflp_laws.proofs.Laws.{dflp_sound_row}
use Rattle.dflp_laws.proofs.Placement.{dflp_is_charged}
use Rattle.dflp_laws.proofs.Points.{dflp_point_within}

pub dflp_analyses : (set : SetDef) → IsFormed set → Analyses dflp_rule is_dpcp_interference (dflp_source set)
dflp_analyses set =
    analyses_over dflp_rule is_dpcp_interference dpcp_charge dflp_columns dflp_rows (λ of h. (task_at of h).local) set (record {
      most = local_at_most;
      interfering = λ w n y keeps lawful. interferes_within_local w n y lawful;
      point = dflp_point_within;
      charged = dflp_is_charged;
    })

pub dflp_sound : (set : SetDef) (c : CertificateDef) (values : List ℕ) → IsAccepted set → IsValid (dflp_source set) c
    → AreValues (dflp_source set) c values → Sound dflp_rule is_dpcp_interference set c.bounds values
dflp_sound set c values accepted valid are =
    let formed : IsFormed set = formed_of_accepted set accepted in
    sound_of dflp_rule is_dpcp_interference (dflp_source set) c values (λ w t j same. dpcp_one_of_three w t j)
    (λ w t same kept. dflp_sound_row w t kept) formed (dflp_analyses set formed) valid are
