use Rattle.std.proofs.Common.{refl, length}
use Rattle.schedule_model.specs.RowDef.{trace_of, trace_in, ticks_of}
use Rattle.soundness_laws.proofs.sound_bounds_hold_of_listed_rows.Goals as goal

pub returns-clause-rows : goal.returns-clause-rows
returns-clause-rows g c = λ p set bounds values jobs rows sound lawful keeps.
    sound (trace_of (record { set = set; jobs = jobs }) rows) (length rows) (record { set_is = refl; jobs = lawful; rows = keeps })

pub returns-clause-runs : goal.returns-clause-runs
returns-clause-runs g c = λ p set bounds values jobs runs sound lawful keeps.
    sound (trace_in (record { set = set; jobs = jobs }) runs) (ticks_of runs) (record { set_is = refl; jobs = lawful; rows = keeps })
