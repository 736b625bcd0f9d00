-- Properties of the figures of a lawful schedule beside a valid certificate, name by name.
use Rattle.std.proofs.Common.{◌≡◌, ℕ, ◌<◌, true, List, length, ◌∙◌, refl, arith, Some}
use Rattle.std.specs.Prelude.{slice_index}
use Rattle.program_form.specs.Certificate.{CertificateDef}
use Rattle.program_sources.specs.Valid.{IsValid}
use Rattle.sporadic_model.specs.Accepted.{IsAccepted}
use Rattle.sporadic_model.specs.declared.ids.Protocol.TheVariants as protocol
use Rattle.schedule_model.specs.RowDef.{Trace, jobs_of}
use Rattle.schedule_model.specs.LawfulJobs.{AreLawfulJobs}
use Rattle.schedule_model.specs.Keeping.{KeepsBefore}
use Rattle.schedule_model.specs.BlockedTicks.{is_blocked}
use Rattle.charge_laws.specs.Charges.{Charge}
use Rattle.charge_laws.proofs.SharedCharging.{shared_charge_blocked}
use Rattle.charge_laws.proofs.DpcpCharging.{dpcp_charge_blocked}
use Rattle.row_laws.proofs.ChargedTicks.{mpcp_is_charged, fmlp_is_charged, dpcp_is_charged}
use Rattle.dflp_laws.proofs.Placement.{dflp_is_charged}
use Rattle.spin_charging.proofs.SpinCharging.{spin_charge_blocked}
use Rattle.spin_charging.proofs.SpinPlacement.{spin_charges_blocked}
use Rattle.soundness_laws.specs.Analyses.{AreValues}
use Rattle.soundness_laws.specs.Sound.{IsLawfulSchedule, KeepsBounds}
use Rattle.soundness_laws.proofs.MeasuresKept.{measured_response, measured_blocking}
use Rattle.figure_laws.specs.Figures.{blocked_ticks, figures_of, ChargesBlocked}
use Rattle.figure_laws.specs.Audited.{LieWithin, charged_ticks}
use Rattle.figure_laws.proofs.AddUp.{sums_add_up}
use Rattle.figure_laws.proofs.AllInside.{all_inside}
use Rattle.protocol_names.specs.declared.ProtocolName.{ProtocolName}
use Rattle.protocol_names.specs.declared.ProtocolName.TheVariants as name
use Rattle.named_laws.specs.Named.{charges_of, interference_of, rules_of, source_of}
use Rattle.named_laws.specs.Audited.{figures_under, AreProvedFigures}
use Rattle.named_laws.proofs.EachName.{named_sound}
use Rattle.named_laws.proofs.Values.{values_of, are_values}

-- ---- each blocked tick is charged, and no other

named_charges_only : (n : ProtocolName) (w : Trace) → ChargesBlocked (charges_of n) (interference_of n) w
named_charges_only (name.Base protocol.Mpcp) w = shared_charge_blocked w
named_charges_only (name.Base protocol.FmlpPlus) w = shared_charge_blocked w
named_charges_only (name.Base protocol.Dpcp) w = dpcp_charge_blocked w
named_charges_only name.Dflp w = dpcp_charge_blocked w
named_charges_only name.Spin w = spin_charge_blocked w
named_charges_only name.DpcpWindows w = dpcp_charge_blocked w
named_charges_only name.FmlpPlusCloser w = shared_charge_blocked w
named_charges_only name.SpinCloser w = spin_charge_blocked w
named_charges_only name.DpcpCloser w = dpcp_charge_blocked w
named_charges_only name.DflpCloser w = dpcp_charge_blocked w
named_charges_only name.MpcpCloser w = shared_charge_blocked w

named_charged : (p : ProtocolName) (w : Trace) (n t j : ℕ) → AreLawfulJobs (jobs_of w) → KeepsBefore (rules_of p) w n → t < n
    → is_blocked (interference_of p) w t j ≡ true → (charge : Charge) × (charges_of p w t j ≡ Some charge)
named_charged (name.Base protocol.Mpcp) w n t j lawful keeps l blocked =
    let a = mpcp_is_charged w n t j lawful keeps l blocked in (a.charge, a.is_it)
named_charged (name.Base protocol.FmlpPlus) w n t j lawful keeps l blocked =
    let a = fmlp_is_charged w n t j lawful keeps l blocked in (a.charge, a.is_it)
named_charged (name.Base protocol.Dpcp) w n t j lawful keeps l blocked =
    let a = dpcp_is_charged w n t j lawful keeps l blocked in (a.charge, a.is_it)
named_charged name.Dflp w n t j lawful keeps l blocked =
    let a = dflp_is_charged w n t j lawful keeps l blocked in (a.charge, a.is_it)
named_charged name.Spin w n t j lawful keeps l blocked =
    let a = spin_charges_blocked w n t j lawful keeps l blocked in (a.charge, a.is_it)
named_charged name.DpcpWindows w n t j lawful keeps l blocked =
    let a = dpcp_is_charged w n t j lawful keeps l blocked in (a.charge, a.is_it)
named_charged name.FmlpPlusCloser w n t j lawful keeps l blocked =
    let a = fmlp_is_charged w n t j lawful keeps l blocked in (a.charge, a.is_it)
named_charged name.SpinCloser w n t j lawful keeps l blocked =
    let a = spin_charges_blocked w n t j lawful keeps l blocked in (a.charge, a.is_it)
named_charged name.DpcpCloser w n t j lawful keeps l blocked =
    let a = dpcp_is_charged w n t j lawful keeps l blocked in (a.charge, a.is_it)
named_charged name.DflpCloser w n t j lawful keeps l blocked =
    let a = dflp_is_charged w n t j lawful keeps l blocked in (a.charge, a.is_it)
named_charged name.MpcpCloser w n t j lawful keeps l blocked =
    let a = mpcp_is_charged w n t j lawful keeps l blocked in (a.charge, a.is_it)

-- ---- so the figures are proved

lies_within : (p : ProtocolName) (c : CertificateDef) (w : Trace) (n : ℕ) (values : List ℕ)
    → AreValues (source_of p w.set) c values → KeepsBounds (interference_of p) w n c.bounds values
    → (x : ℕ) → x < length w.set.tasks → LieWithin (figures_under p c w n x)
unfolding figures_of
lies_within p c w n values are kept x here = record {
  response = measured_response (interference_of p) w n c.bounds values x kept;
  blocking = omega (arith, measured_blocking (interference_of p) w n c.bounds values x kept, are.each x here);
}

adds_up : (p : ProtocolName) (c : CertificateDef) (w : Trace) (n : ℕ) (values : List ℕ) → AreLawfulJobs (jobs_of w)
    → KeepsBefore (rules_of p) w n → KeepsBounds (interference_of p) w n c.bounds values
    → (x : ℕ) → charged_ticks (figures_under p c w n x) ≡ blocked_ticks (interference_of p) w n x
unfolding figures_of
adds_up p c w n values lawful keeps kept x =
    sums_add_up (charges_of p) (interference_of p) w (slice_index c.bounds) n x (named_charges_only p w)
    (λ t j l blocked. named_charged p w n t j lawful keeps l blocked)
    ∙ all_inside (interference_of p) w n c.bounds values x kept

pub proved_figures : (p : ProtocolName) (c : CertificateDef) (w : Trace) (n : ℕ) → IsAccepted w.set → IsValid (source_of p w.set) c
    → AreLawfulJobs (jobs_of w) → KeepsBefore (rules_of p) w n → AreProvedFigures p c w n
proved_figures p c w n accepted valid lawful keeps =
    let values = values_of (source_of p w.set) c in
    let are = are_values (source_of p w.set) c in
    let schedule : IsLawfulSchedule (rules_of p) w.set w n = record { set_is = refl; jobs = lawful; rows = keeps } in
    let kept : KeepsBounds (interference_of p) w n c.bounds values = named_sound p w.set c values accepted valid are w n schedule in
    record {
      within = lies_within p c w n values are kept;
      adds_up = λ x here. adds_up p c w n values lawful keeps kept x;
    }
