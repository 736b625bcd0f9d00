-- The law that charges meet the rows, in schedules of an accepted set, for each of the three protocols.
use Rattle.std.specs.Prelude.{ℕ, ◌<◌, List, length, slice_index}
use Rattle.sporadic_model.specs.Accepted.{IsAccepted}
use Rattle.sporadic_model.proofs.Laws.{formed_of_accepted}
use Rattle.sporadic_model.specs.declared.ids.Protocol.{Protocol}
use Rattle.sporadic_model.specs.declared.ids.Protocol.TheVariants as protocol
use Rattle.schedule_model.specs.LawfulJobs.{AreLawfulJobs}
use Rattle.schedule_model.specs.Ranks.{mpcp, fmlp_plus}
use Rattle.schedule_model.specs.RowDef.{Trace, jobs_of}
use Rattle.schedule_model.specs.Keeping.{KeepsBefore}
use Rattle.schedule_model.specs.Protocols.{shared_rule, dpcp_rule}
use Rattle.schedule_model.specs.declared.rule.Rule.{Rule}
use Rattle.charge_laws.specs.Charges.{shared_charge, dpcp_charge}
use Rattle.charge_laws.specs.Windows.{bound_end, EndedWithin}
use Rattle.row_laws.specs.Meeting.{Charges}
use Rattle.row_laws.proofs.EmptyWindows.{WithinRows, mpcp_point_within, fmlp_point_within, dpcp_point_within}
use Rattle.row_laws.proofs.Joined.{ArePoint}

-- The fractions of each job's window meet its rows, in each schedule that keeps the rules and has these premises.
abbrev pub MeetWithin : (Rule → Trace → ℕ → Type 0) → Charges → Protocol → Type 0
MeetWithin keeps charges protocol =
    (w : Trace) (bounds : List ℕ) (n j : ℕ) → WithinRows w bounds n j → KeepsBefore keeps w n → ArePoint charges protocol w bounds n j

-- They do in each lawful schedule of an accepted set.
abbrev pub MeetIfAccepted : (Rule → Trace → ℕ → Type 0) → Charges → Protocol → Type 0
MeetIfAccepted keeps charges protocol =
    (w : Trace) (bounds : List ℕ) (n j : ℕ) → IsAccepted w.set → AreLawfulJobs (jobs_of w) → KeepsBefore keeps w n → j < length w.jobs
    → EndedWithin w (slice_index bounds) (bound_end w (slice_index bounds) j) n → ArePoint charges protocol w bounds n j

-- The second follows from the first.
met_if_accepted : (keeps : Rule → Trace → ℕ → Type 0) (charges : Charges) (protocol : Protocol) → MeetWithin keeps charges protocol
    → MeetIfAccepted keeps charges protocol
met_if_accepted keeps charges protocol law = λ w bounds n j accepted lawful kept listed ended.
    law w bounds n j (record { formed = formed_of_accepted w.set accepted; lawful = lawful; listed = listed; ended = ended }) kept

pub mpcp_meets : MeetIfAccepted (shared_rule mpcp) shared_charge protocol.Mpcp
mpcp_meets = met_if_accepted (shared_rule mpcp) shared_charge protocol.Mpcp mpcp_point_within

pub fmlp_meets : MeetIfAccepted (shared_rule fmlp_plus) shared_charge protocol.FmlpPlus
fmlp_meets = met_if_accepted (shared_rule fmlp_plus) shared_charge protocol.FmlpPlus fmlp_point_within

pub dpcp_meets : MeetIfAccepted dpcp_rule dpcp_charge protocol.Dpcp
dpcp_meets = met_if_accepted dpcp_rule dpcp_charge protocol.Dpcp dpcp_point_within
