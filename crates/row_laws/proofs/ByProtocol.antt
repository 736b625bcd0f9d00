-- What is so of each of the three protocols, by its name: its blocked ticks lie in columns, and the fractions of a window are a point.
use Rattle.std.proofs.Common.{◌≡◌, ℕ, ◌<◌, true, List}
use Rattle.sporadic_model.specs.declared.ids.Protocol.{Protocol}
use Rattle.sporadic_model.specs.declared.ids.Protocol.TheVariants as protocol
use Rattle.schedule_model.specs.LawfulJobs.{AreLawfulJobs}
use Rattle.schedule_model.specs.RowDef.{Trace, jobs_of}
use Rattle.schedule_model.specs.Ranks.{mpcp, fmlp_plus}
use Rattle.schedule_model.specs.ByProtocol.{rules_of, interference_of}
use Rattle.schedule_model.specs.Keeping.{KeepsBefore}
use Rattle.schedule_model.specs.BlockedTicks.{is_blocked}
use Rattle.charge_laws.specs.ByProtocol.{charges_of}
use Rattle.row_laws.proofs.SharedPlacement.{mpcp_shares, fmlp_shares}
use Rattle.row_laws.proofs.Joined.{InColumn, ArePoint, shared_in_column, dpcp_in_column}
use Rattle.row_laws.proofs.EmptyWindows.{WithinRows, mpcp_point_within, fmlp_point_within, dpcp_point_within}

pub blocked_in_column : (p : Protocol) (w : Trace) (n t j : ℕ) → AreLawfulJobs (jobs_of w) → KeepsBefore (rules_of p) w n → t < n
    → is_blocked (interference_of p) w t j ≡ true → InColumn (charges_of p) p w t j
blocked_in_column protocol.Mpcp w n t j lawful keeps l blocked = shared_in_column protocol.Mpcp mpcp w n t j mpcp_shares lawful keeps l blocked
blocked_in_column protocol.FmlpPlus w n t j lawful keeps l blocked =
    shared_in_column protocol.FmlpPlus fmlp_plus w n t j fmlp_shares lawful keeps l blocked
blocked_in_column protocol.Dpcp w n t j lawful keeps l blocked = dpcp_in_column w n t j lawful keeps l blocked

pub named_point_within : (p : Protocol) (w : Trace) (bounds : List ℕ) (n j : ℕ) → WithinRows w bounds n j → KeepsBefore (rules_of p) w n
    → ArePoint (charges_of p) p w bounds n j
named_point_within protocol.Mpcp w bounds n j premises keeps = mpcp_point_within w bounds n j premises keeps
named_point_within protocol.FmlpPlus w bounds n j premises keeps = fmlp_point_within w bounds n j premises keeps
named_point_within protocol.Dpcp w bounds n j premises keeps = dpcp_point_within w bounds n j premises keeps
