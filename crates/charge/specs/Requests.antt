-- The request to which a tick is charged.
use Rattle.std.specs.Prelude.{ℕ, Option, None, Some}
use Rattle.std.specs.Option.{option_and_then}
use Rattle.schedule_model.specs.RowDef.{Trace}
use Rattle.schedule_model.specs.Phase.{Phase, phase_of}
use Rattle.schedule_model.specs.Phase.Phase.{Asking}
use Rattle.blocking_columns.specs.declared.columns.Class.{Class}
use Rattle.charge_laws.specs.Charges.{Charge}

-- A request that blocks: the job that makes it, its number among the segments of the job's script, its resource, and the way in which it
-- blocks.
pub record ChargedRequest : Type 0 where
  pub job : ℕ
  pub number : ℕ
  pub resource : ℕ
  pub class : Class

-- The request of a charge whose job is in this phase.
abbrev pub request_in : Charge → Phase → Option ChargedRequest
request_in charge (Asking n q) = Some (record { job = charge.job; number = n; resource = q; class = charge.class })
request_in charge _ = None

-- To which request is tick t charged for job j? The first argument says how ticks are charged.
abbrev pub charged_request : (Trace → ℕ → ℕ → Option Charge) → Trace → ℕ → ℕ → Option ChargedRequest
charged_request charges w t j = option_and_then (λ charge. request_in charge (phase_of w t charge.job)) (charges w t j)
