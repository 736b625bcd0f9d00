-- What a job waits for under the distributed FIFO protocol was issued no later than its own request.
use Rattle.std.proofs.Common.{ℕ, true, refl}
use Rattle.schedule_model.specs.LawfulJobs.{AreLawfulJobs}
use Rattle.schedule_model.specs.RowDef.{Trace, jobs_of}
use Rattle.schedule_model.specs.Keeping.{KeepsBefore}
use Rattle.row_laws.proofs.Fifo.{InTurn}
use Rattle.dflp_laws.specs.Rules.{dflp_rule}
use Rattle.dflp_laws.proofs.Turns.{runs_in_turn}
use Rattle.closer_distributed_laws.proofs.LowerRows.{LowerComesFirst}

pub dflp_lower_first : (w : Trace) (n j : ℕ) → AreLawfulJobs (jobs_of w) → KeepsBefore dflp_rule w n → LowerComesFirst w n j
dflp_lower_first w n j lawful keeps t z l b lower =
    let turn : InTurn w t j z (λ q. true) = runs_in_turn w n t j z (λ q. true) lawful keeps l b refl in turn.earlier
