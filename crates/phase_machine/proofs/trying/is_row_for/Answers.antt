use Rattle.std.proofs.Common.{◌∙◌, sym}
use Rattle.schedule_model.specs.JobDef.{JobsDef}
use Rattle.schedule_model.specs.RowDef.{RowDef, Trace}
use Rattle.schedule_model.specs.Seen.{row_seen}
use Rattle.schedule_laws.proofs.TakenRows.{fits_jobs_from, fits_jobs_passes}
use Rattle.phase_machine.proofs.trying.is_row_for.Goals as goal

-- The schedule that has this row at each tick.
abbrev each_tick : JobsDef → RowDef → Trace
each_tick list row = record { set = list.set; jobs = list.jobs; row = λ t. row }

pub returns : goal.returns
returns c =
    let w : Trace = each_tick c.args.machine.now.list (row_seen c.args.row.now) in
    (λ h. fits_jobs_from w 0 (sym c.is_fitting.ensures ∙ h), λ fits. c.is_fitting.ensures ∙ fits_jobs_passes w 0 fits)
