-- The interfering cost of each protocol: no job interferes at more ticks than that.
use Rattle.std.proofs.Common.{ℕ, ◌≤◌}
use Rattle.number_laws.specs.Tests.{count_below}
use Rattle.sporadic_model.specs.declared.ids.Protocol.TheVariants as protocol
use Rattle.schedule_model.specs.JobDef.{job_of}
use Rattle.schedule_model.specs.LawfulJobs.{IsLawfulJob}
use Rattle.schedule_model.specs.RowDef.{Trace}
use Rattle.schedule_model.specs.Activity.{task_of}
use Rattle.schedule_model.specs.Ranks.{mpcp, fmlp_plus}
use Rattle.schedule_model.specs.Protocols.{shared_rule, dpcp_rule}
use Rattle.schedule_model.specs.Keeping.{KeepsBefore}
use Rattle.schedule_model.specs.BlockedTicks.{is_shared_interference, is_dpcp_interference}
use Rattle.schedule_laws.proofs.SharedLaws.{shared_runs_active}
use Rattle.program_laws.specs.Programs.{interfering_cost}
use Rattle.charge_laws.specs.Interferers.{interferes_with_some}
use Rattle.charge_laws.proofs.Interference.{interferes_within_cost, interferes_within_local}

pub mpcp_interferes_within : (w : Trace) (n y : ℕ) → KeepsBefore (shared_rule mpcp) w n → IsLawfulJob w.set (job_of w.jobs y)
    → count_below n (λ t. interferes_with_some is_shared_interference w t y) ≤ interfering_cost protocol.Mpcp w.set (task_of w y)
mpcp_interferes_within w n y keeps lawful = interferes_within_cost is_shared_interference w n y (shared_runs_active mpcp w n keeps) lawful

pub fmlp_interferes_within : (w : Trace) (n y : ℕ) → KeepsBefore (shared_rule fmlp_plus) w n → IsLawfulJob w.set (job_of w.jobs y)
    → count_below n (λ t. interferes_with_some is_shared_interference w t y) ≤ interfering_cost protocol.FmlpPlus w.set (task_of w y)
fmlp_interferes_within w n y keeps lawful =
    interferes_within_cost is_shared_interference w n y (shared_runs_active fmlp_plus w n keeps) lawful

pub dpcp_interferes_within : (w : Trace) (n y : ℕ) → KeepsBefore dpcp_rule w n → IsLawfulJob w.set (job_of w.jobs y)
    → count_below n (λ t. interferes_with_some is_dpcp_interference w t y) ≤ interfering_cost protocol.Dpcp w.set (task_of w y)
dpcp_interferes_within w n y keeps lawful = interferes_within_local w n y lawful
