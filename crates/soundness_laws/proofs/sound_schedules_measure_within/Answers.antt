use Rattle.soundness_laws.proofs.MeasuresKept.{blocked_inside, response_kept, blocking_kept, measured_response, measured_blocking}
use Rattle.soundness_laws.proofs.sound_schedules_measure_within.Goals as goal

pub returns-clause-inside : goal.returns-clause-inside
returns-clause-inside c = blocked_inside

pub returns-clause-response : goal.returns-clause-response
returns-clause-response c = response_kept

pub returns-clause-blocking : goal.returns-clause-blocking
returns-clause-blocking c = blocking_kept

pub returns-clause-task_response : goal.returns-clause-task_response
returns-clause-task_response c = measured_response

pub returns-clause-task_blocking : goal.returns-clause-task_blocking
returns-clause-task_blocking c = measured_blocking
