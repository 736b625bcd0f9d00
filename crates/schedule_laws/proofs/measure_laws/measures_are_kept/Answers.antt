use Rattle.std.proofs.Common.{◌≡◌, ℕ, ◌+◌, Bool, false, add-one}
use Rattle.number_laws.specs.Sums.{flag}
use Rattle.schedule_model.specs.RowDef.{Trace}
use Rattle.schedule_model.specs.BlockedTicks.{is_blocked}
use Rattle.schedule_model.specs.Measures.{has_finished, finish_of, blocking_of}
use Rattle.schedule_laws.proofs.MeasureLaws.{finished_at_finish, unfinished_till, finish_stays, finish_new, response_at_most, blocking_next}
use Rattle.schedule_laws.proofs.measure_laws.measures_are_kept.Goals as goal

new_at : (w : Trace) (n j : ℕ) → has_finished w n j ≡ false → finish_of w (n + 1) j ≡ n + 1
new_at w n j = rw add-one (finish_new w n j)

blocking_at : (interferes : Trace → ℕ → ℕ → Bool) (w : Trace) (n j : ℕ)
    → blocking_of interferes w (n + 1) j ≡ blocking_of interferes w n j + flag (is_blocked interferes w n j)
blocking_at interferes w n j = rw add-one (blocking_next interferes w n j)

pub returns-clause-finished : goal.returns-clause-finished
returns-clause-finished c = finished_at_finish

pub returns-clause-before : goal.returns-clause-before
returns-clause-before c = unfinished_till

pub returns-clause-stays : goal.returns-clause-stays
returns-clause-stays c = finish_stays

pub returns-clause-new : goal.returns-clause-new
returns-clause-new c = new_at

pub returns-clause-response : goal.returns-clause-response
returns-clause-response c = response_at_most

pub returns-clause-blocking : goal.returns-clause-blocking
returns-clause-blocking c = blocking_at
