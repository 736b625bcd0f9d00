-- Refusals under a protocol, by its name.
use Rattle.std.proofs.Common.{ℕ, List, arith}
use Rattle.program_form.specs.Certificate.{CertificateDef}
use Rattle.sporadic_model.specs.SetDef.{SetDef}
use Rattle.sporadic_model.specs.Accepted.{IsAccepted}
use Rattle.sporadic_model.proofs.Laws.{numbers_of_accepted}
use Rattle.program_sources.specs.Fitting.{AreFitting}
use Rattle.program_sources.specs.Valid.{IsValid}
use Rattle.program_sources.proofs.RecurrenceLaws.{LimitsRise, valid_fits}
use Rattle.program_laws.proofs.WrittenPrograms.{programs_rise}
use Rattle.dflp_laws.proofs.Programs.{dflp_rises}
use Rattle.spin_charging.proofs.SpinPrograms.{spin_rises}
use Rattle.window_laws.proofs.Programs.{windowed_rises}
use Rattle.closer_laws.proofs.Programs.{fmlp_closer_rises}
use Rattle.closer_spin_laws.proofs.Programs.{spin_closer_rises}
use Rattle.closer_distributed_laws.proofs.Programs.{dpcp_closer_rises, dflp_closer_rises}
use Rattle.mpcp_window_laws.proofs.Programs.{mpcp_closer_rises}
use Rattle.response_fixpoint.specs.Rounds.{NotShown, EndsIn}
use Rattle.response_fixpoint.proofs.RunLaws.{CostsFit}
use Rattle.refusal_laws.specs.Steps.{StepDef, Holds}
use Rattle.refusal_laws.proofs.NothingFits.{nothing_fits}
use Rattle.refusal_cert.specs.Refuting.{refuting}
use Rattle.refusal_cert.specs.Steps.{refusal_of}
use Rattle.refusal_cert.proofs.Led.{refusal_holds}
use Rattle.protocol_names.specs.declared.ProtocolName.{ProtocolName}
use Rattle.protocol_names.specs.declared.ProtocolName.TheVariants as name
use Rattle.named_laws.specs.Named.{source_of}
use Rattle.named_laws.proofs.EachName.{named_above}

pub named_none_fits : (n : ProtocolName) (set : SetDef) (steps : List StepDef) (s : List ℕ) → Holds (source_of n set) steps
    → AreFitting (source_of n set) s → ⊥
named_none_fits n set steps s holds fits = nothing_fits (source_of n set) steps s (named_above n set) holds fits

pub named_none_valid : (n : ProtocolName) (set : SetDef) (steps : List StepDef) (c : CertificateDef) → Holds (source_of n set) steps
    → IsValid (source_of n set) c → ⊥
named_none_valid n set steps c holds valid = named_none_fits n set steps c.bounds holds (valid_fits (source_of n set) c valid)

named_rises : (n : ProtocolName) (set : SetDef) → LimitsRise (source_of n set)
named_rises (name.Base p) set = λ i r s here most. programs_rise p set i r s here most
named_rises name.Dflp set = λ i r s here most. dflp_rises set i r s here most
named_rises name.Spin set = λ i r s here most. spin_rises set i r s here most
named_rises name.DpcpWindows set = λ i r s here most. windowed_rises set i r s here most
named_rises name.FmlpPlusCloser set = λ i r s here most. fmlp_closer_rises set i r s here most
named_rises name.SpinCloser set = λ i r s here most. spin_closer_rises set i r s here most
named_rises name.DpcpCloser set = λ i r s here most. dpcp_closer_rises set i r s here most
named_rises name.DflpCloser set = λ i r s here most. dflp_closer_rises set i r s here most
named_rises name.MpcpCloser set = λ i r s here most. mpcp_closer_rises set i r s here most

-- The costs of an accepted set are within its latest bounds.
costs_fit : (n : ProtocolName) (set : SetDef) → IsAccepted set → CostsFit (source_of n set)
costs_fit n set accepted = λ i here. let numbers = numbers_of_accepted set i accepted here in omega (arith, numbers.jitter_to)

pub named_holds : (n : ProtocolName) (set : SetDef) (allowance i value : ℕ) → IsAccepted set
    → (ends : EndsIn (refuting (source_of n set)) allowance (NotShown i value))
    → Holds (source_of n set) (refusal_of (refuting (source_of n set)) allowance (NotShown i value) ends)
named_holds n set allowance i value accepted ends =
    refusal_holds (source_of n set) (named_rises n set) (costs_fit n set accepted) allowance i value ends
