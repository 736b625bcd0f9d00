-- The programs analyse the protocol, so valid certificates of them are sound; and their response times rise with the bounds.
use Rattle.std.proofs.Common.{ℕ, List, arith}
use Rattle.program_form.specs.Certificate.{CertificateDef}
use Rattle.sporadic_model.specs.SetDef.{SetDef, task_at}
use Rattle.sporadic_model.specs.Accepted.{IsAccepted, IsFormed}
use Rattle.sporadic_model.proofs.Laws.{formed_of_accepted}
use Rattle.schedule_model.specs.BlockedTicks.{is_shared_interference}
use Rattle.schedule_laws.proofs.SharedLaws.{shared_one_of_three}
use Rattle.program_sources.specs.Valid.{IsValid}
use Rattle.program_sources.specs.Fitting.{ComesUpAbove}
use Rattle.program_sources.proofs.RecurrenceLaws.{comes_up_above}
use Rattle.soundness_laws.specs.Sound.{Sound}
use Rattle.soundness_laws.specs.Analyses.{AreValues, Analyses}
use Rattle.soundness_laws.proofs.Soundness.{sound_of}
use Rattle.soundness_laws.proofs.Instances.{analyses_over}
use Rattle.spin_rules.specs.SpinRules.{spin_rule}
use Rattle.spin_rules.proofs.SpinLaws.{spin_sound_row}
use Rattle.spin_charging.specs.SpinCharges.{spin_charge}
use Rattle.spin_charging.specs.SpinPrograms.{spin_columns, spin_rows, spin_source}
use Rattle.spin_charging.proofs.SpinPlacement.{spin_charges_blocked}
use Rattle.spin_charging.proofs.SpinPrograms.{spin_rises}
use Rattle.spin_charging.proofs.SpinPoints.{spin_point, spin_interferes_within}

pub spin_analyses : (set : SetDef) → IsFormed set → Analyses spin_rule is_shared_interference (spin_source set)
spin_analyses set =
    analyses_over spin_rule is_shared_interference spin_charge spin_columns spin_rows (λ of h. (task_at of h).cost) set (record {
      most = λ of h a l. omega arith;
      interfering = spin_interferes_within;
      point = λ w bounds n j premises keeps. spin_point w bounds n j premises.formed premises.lawful keeps premises.listed premises.ended;
      charged = spin_charges_blocked;
    })

pub spin_sound : (set : SetDef) (c : CertificateDef) (values : List ℕ) → IsAccepted set → IsValid (spin_source set) c
    → AreValues (spin_source set) c values → Sound spin_rule is_shared_interference set c.bounds values
spin_sound set c values accepted valid are =
    let formed : IsFormed set = formed_of_accepted set accepted in
    sound_of spin_rule is_shared_interference (spin_source set) c values (λ w t j same. shared_one_of_three w t j)
    (λ w t same kept. spin_sound_row w t kept) formed (spin_analyses set formed) valid are

-- For each response time that is possible at some bounds, one that is no less is possible at greater bounds.
pub spin_above : (set : SetDef) → ComesUpAbove (spin_source set)
spin_above set = comes_up_above (spin_source set) (λ i r s here most. spin_rises set i r s here most)
