-- The lists of each task under a protocol are a program, and its limits rise with the bounds, and with the jobs that can run.
use Rattle.std.proofs.Common.{◌≡◌, ℕ, ◌<◌, ◌≤◌, ◌++◌, List, length, arith}
use Rattle.std.specs.List.{All}
use Rattle.program_form.specs.Program.{IsProgram}
use Rattle.program_form.specs.Limits.{HasLimitsAtMost}
use Rattle.sporadic_model.specs.SetDef.{SetDef, task_at}
use Rattle.sporadic_model.specs.Accepted.{IsAccepted, TaskNumbers}
use Rattle.sporadic_model.specs.declared.ids.Protocol.{Protocol}
use Rattle.sporadic_model.specs.declared.ids.Protocol.TheVariants as protocol
use Rattle.sporadic_model.specs.Bounds.{AtMost, AreWithinDeadlines}
use Rattle.blocking_columns.specs.Columns.{is_column, columns_of}
use Rattle.preempt_constraints.specs.Rows.{preemption_rows}
use Rattle.program_laws.specs.Programs.{protocol_rows, rows_of, program_of, interfering_cost}
use Rattle.program_laws.specs.Written.{IsSmallRow, Rises, HasJobsAtMost, KeepsJobs, AreWritten}
use Rattle.program_laws.proofs.RowKinds.{each_row}
use Rattle.program_laws.proofs.RisingLimits.{jobs_rise, jobs_stay, limits_rise}
use Rattle.program_laws.proofs.SmallNumbers.{rows_small}
use Rattle.program_laws.proofs.CoveredColumns.{request_row_among}
use Rattle.program_laws.proofs.ListLengths.{rows_few}
use Rattle.program_laws.proofs.GivenPrograms.{limits_at_most, limits_stay, is_program, written_where}

rows_rise : (p : Protocol) (set : SetDef) (i : ℕ) (r s : List ℕ) → i < length set.tasks → HasJobsAtMost set i r s
    → All (Rises r s) (rows_of p set i)
rows_rise p set i r s here h = each_row (Rises r s) p set i (limits_rise p set i r s here h)

pub programs_rise : (p : Protocol) (set : SetDef) (i : ℕ) (r s : List ℕ) → i < length set.tasks
    → AtMost (length set.tasks) r s → HasLimitsAtMost (program_of p set i r) (program_of p set i s)
programs_rise p set i r s here h =
    limits_at_most set (columns_of p set i) (rows_of p set i) r s (rows_rise p set i r s here (jobs_rise set r s i here h))

pub limits_follow : (p : Protocol) (set : SetDef) (i : ℕ) (r s : List ℕ) → i < length set.tasks → KeepsJobs set i r s
    → (program_of p set i r).limits ≡ (program_of p set i s).limits
limits_follow p set i r s here same =
    let both = jobs_stay set r s i same in
    limits_stay set (columns_of p set i) (rows_of p set i) r s (rows_rise p set i r s here both.0) (rows_rise p set i s r here both.1)

are_written : (p : Protocol) (set : SetDef) (i : ℕ) (r : List ℕ) → IsAccepted set → i < length set.tasks
    → AreWithinDeadlines set r → AreWritten set i (columns_of p set i) (rows_of p set i) r
are_written p set i r accepted here within = written_where (is_column p set i) set i (rows_of p set i) r accepted
    (λ x q a b. request_row_among set i x q (preemption_rows set i ++ protocol_rows p set i) a b)
    (each_row (IsSmallRow r) p set i (rows_small p set i r accepted within here)) (omega (arith, rows_few p set i accepted))

pub written_program : (p : Protocol) (set : SetDef) (i : ℕ) (r : List ℕ) → IsAccepted set → i < length set.tasks
    → AreWithinDeadlines set r → IsProgram (program_of p set i r)
written_program p set i r accepted here within =
    is_program set i (columns_of p set i) (rows_of p set i) r accepted (are_written p set i r accepted here within)

pub interfering_least : (p : Protocol) (set : SetDef) (h : ℕ) → TaskNumbers set h → 1 ≤ interfering_cost p set h
interfering_least protocol.Mpcp set h numbers = numbers.cost_from
interfering_least protocol.FmlpPlus set h numbers = numbers.cost_from
interfering_least protocol.Dpcp set h numbers = numbers.local_from

pub interfering_most : (p : Protocol) (set : SetDef) (h : ℕ) → TaskNumbers set h → interfering_cost p set h ≤ (task_at set h).cost
interfering_most protocol.Mpcp set h numbers = omega arith
interfering_most protocol.FmlpPlus set h numbers = omega arith
interfering_most protocol.Dpcp set h numbers = numbers.local_to
