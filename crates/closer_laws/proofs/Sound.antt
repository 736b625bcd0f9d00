-- The programs with closer rows analyse FMLP+, so valid certificates over them are sound, and they raise no bound.
use Rattle.std.proofs.Common.{ℕ, List, length, arith}
use Rattle.program_form.specs.Certificate.{CertificateDef}
use Rattle.sporadic_model.specs.SetDef.{SetDef}
use Rattle.sporadic_model.specs.Accepted.{IsAccepted, IsFormed}
use Rattle.sporadic_model.proofs.Laws.{formed_of_accepted}
use Rattle.sporadic_model.specs.declared.ids.Protocol.TheVariants as protocol
use Rattle.sporadic_model.specs.Bounds.{AtMost}
use Rattle.schedule_model.specs.BlockedTicks.{is_shared_interference}
use Rattle.schedule_model.specs.Ranks.{fmlp_plus}
use Rattle.schedule_model.specs.Protocols.{shared_rule}
use Rattle.schedule_laws.proofs.SharedLaws.{shared_one_of_three, shared_sound_row}
use Rattle.program_sources.specs.Fitting.{AreFitting, AreLeastFitting}
use Rattle.program_sources.specs.Valid.{IsValid}
use Rattle.blocking_columns.specs.Columns.{may_block, columns_of}
use Rattle.charge_laws.specs.Charges.{shared_charge}
use Rattle.program_laws.specs.Programs.{rows_of, source_of, interfering_cost}
use Rattle.program_laws.proofs.MoreRows.{fitting_with_more}
use Rattle.row_laws.proofs.ChargedTicks.{fmlp_is_charged}
use Rattle.row_laws.proofs.InterferingCosts.{fmlp_interferes_within}
use Rattle.soundness_laws.specs.Sound.{Sound}
use Rattle.soundness_laws.specs.Analyses.{Analyses, AreValues}
use Rattle.soundness_laws.proofs.Soundness.{sound_of}
use Rattle.soundness_laws.proofs.Instances.{analyses_over}
use Rattle.closer_laws.specs.CloserRows.{closer_rows, fmlp_closer_rows, fmlp_closer_source}
use Rattle.closer_laws.proofs.Points.{fmlp_closer_point}

pub fmlp_closer_analyses : (set : SetDef) → IsFormed set
    → Analyses (shared_rule fmlp_plus) is_shared_interference (fmlp_closer_source set)
fmlp_closer_analyses set =
    analyses_over (shared_rule fmlp_plus) is_shared_interference shared_charge (columns_of protocol.FmlpPlus) fmlp_closer_rows
    (interfering_cost protocol.FmlpPlus) set (record {
      most = λ of h a l. omega arith;
      interfering = fmlp_interferes_within;
      point = fmlp_closer_point;
      charged = fmlp_is_charged;
    })

pub fmlp_closer_sound : (set : SetDef) (c : CertificateDef) (values : List ℕ) → IsAccepted set → IsValid (fmlp_closer_source set) c
    → AreValues (fmlp_closer_source set) c values → Sound (shared_rule fmlp_plus) is_shared_interference set c.bounds values
fmlp_closer_sound set c values accepted valid are =
    let formed : IsFormed set = formed_of_accepted set accepted in
    sound_of (shared_rule fmlp_plus) is_shared_interference (fmlp_closer_source set) c values (λ w t j same. shared_one_of_three w t j)
    (λ w t same kept. shared_sound_row fmlp_plus w t kept) formed (fmlp_closer_analyses set formed) valid are

-- What fits under FMLP+ fits with the closer rows, so no least bound with them is greater than one that fits under FMLP+.
pub fmlp_closer_fitting : (set : SetDef) (s : List ℕ) → AreFitting (source_of protocol.FmlpPlus set) s
    → AreFitting (fmlp_closer_source set) s
fmlp_closer_fitting set s fits =
    fitting_with_more set (may_block protocol.FmlpPlus set) (rows_of protocol.FmlpPlus set) (closer_rows set)
    (interfering_cost protocol.FmlpPlus set) s fits

pub fmlp_closer_no_greater : (set : SetDef) (r s : List ℕ) → AreLeastFitting (fmlp_closer_source set) r
    → AreFitting (source_of protocol.FmlpPlus set) s → AtMost (length set.tasks) r s
fmlp_closer_no_greater set r s least fits = least.least s (fmlp_closer_fitting set s fits)
