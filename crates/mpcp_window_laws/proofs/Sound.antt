-- The programs with closer rows analyse MPCP, so valid certificates over them are sound, and they raise no bound.
use Rattle.std.proofs.Common.{ℕ, List, length, arith}
use Rattle.program_form.specs.Certificate.{CertificateDef}
use Rattle.sporadic_model.specs.SetDef.{SetDef}
use Rattle.sporadic_model.specs.Accepted.{IsAccepted, IsFormed}
use Rattle.sporadic_model.proofs.Laws.{formed_of_accepted}
use Rattle.sporadic_model.specs.declared.ids.Protocol.TheVariants as protocol
use Rattle.sporadic_model.specs.Bounds.{AtMost}
use Rattle.schedule_model.specs.BlockedTicks.{is_shared_interference}
use Rattle.schedule_model.specs.Ranks.{mpcp}
use Rattle.schedule_model.specs.Protocols.{shared_rule}
use Rattle.schedule_laws.proofs.SharedLaws.{shared_one_of_three, shared_sound_row}
use Rattle.program_sources.specs.Fitting.{AreFitting, AreLeastFitting}
use Rattle.program_sources.specs.Valid.{IsValid}
use Rattle.blocking_columns.specs.Columns.{may_block, columns_of}
use Rattle.charge_laws.specs.Charges.{shared_charge}
use Rattle.program_laws.specs.Programs.{rows_of, source_of, interfering_cost}
use Rattle.row_laws.proofs.ChargedTicks.{mpcp_is_charged}
use Rattle.row_laws.proofs.InterferingCosts.{mpcp_interferes_within}
use Rattle.soundness_laws.specs.Sound.{Sound}
use Rattle.soundness_laws.specs.Analyses.{Analyses, AreValues}
use Rattle.soundness_laws.proofs.Soundness.{sound_of}
use Rattle.soundness_laws.proofs.Instances.{analyses_over}
use Rattle.closer_laws.proofs.Dominated.{fitting_where_dominated}
use Rattle.mpcp_window_laws.specs.WaitRows.{mpcp_closer_rows, mpcp_closer_source}
use Rattle.mpcp_window_laws.proofs.Points.{mpcp_closer_point}
use Rattle.mpcp_window_laws.proofs.Dominating.{mpcp_rows_dominated}

pub mpcp_closer_analyses : (set : SetDef) → IsFormed set
    → Analyses (shared_rule mpcp) is_shared_interference (mpcp_closer_source set)
mpcp_closer_analyses set =
    analyses_over (shared_rule mpcp) is_shared_interference shared_charge (columns_of protocol.Mpcp) mpcp_closer_rows
    (interfering_cost protocol.Mpcp) set (record {
      most = λ of h a l. omega arith;
      interfering = mpcp_interferes_within;
      point = mpcp_closer_point;
      charged = mpcp_is_charged;
    })

pub mpcp_closer_sound : (set : SetDef) (c : CertificateDef) (values : List ℕ) → IsAccepted set → IsValid (mpcp_closer_source set) c
    → AreValues (mpcp_closer_source set) c values → Sound (shared_rule mpcp) is_shared_interference set c.bounds values
mpcp_closer_sound set c values accepted valid are =
    let formed : IsFormed set = formed_of_accepted set accepted in
    sound_of (shared_rule mpcp) is_shared_interference (mpcp_closer_source set) c values (λ w t j same. shared_one_of_three w t j)
    (λ w t same kept. shared_sound_row mpcp w t kept) formed (mpcp_closer_analyses set formed) valid are

-- What fits under MPCP fits with the closer rows, so no least bound with them is greater than one that fits under MPCP.
pub mpcp_closer_fitting : (set : SetDef) (s : List ℕ) → AreFitting (source_of protocol.Mpcp set) s
    → AreFitting (mpcp_closer_source set) s
mpcp_closer_fitting set s fits =
    fitting_where_dominated set (may_block protocol.Mpcp set) (rows_of protocol.Mpcp set) (mpcp_closer_rows set)
    (interfering_cost protocol.Mpcp set) s (mpcp_rows_dominated s set) fits

pub mpcp_closer_no_greater : (set : SetDef) (r s : List ℕ) → AreLeastFitting (mpcp_closer_source set) r
    → AreFitting (source_of protocol.Mpcp set) s → AtMost (length set.tasks) r s
mpcp_closer_no_greater set r s least fits = least.least s (mpcp_closer_fitting set s fits)
